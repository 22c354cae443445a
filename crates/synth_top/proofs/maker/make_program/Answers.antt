-- The maker begins with the new program, and what its keys made of it is what the text says; or memory ran out at its
-- opening, or at one of its keys.
use Rattle.std.proofs.Common.{arith}
use Rattle.synth_top.specs.Private.MakingText.{all_keys}
use Rattle.synth_top.proofs.MadeKeys.{is_made, made_from_first, part_made, unmade_from_first, unopened_made}
use Rattle.synth_top.proofs.MadeTexts.{made_keys}
use Rattle.synth_top.proofs.maker.make_program.Goals as goal

-- all keys were pressed
pub returns-in-Ok-press_all-clause-made : goal.returns-in-Ok-press_all-clause-made
returns-in-Ok-press_all-clause-made g c =
    is_made c.args.number (all_keys c.args.number) _ _ _ _
    (made_keys c.args.number (omega arith)) c.in-Ok.ensures.counts
    (made_from_first _ _ _ _ _ c.in-Ok.ensures.state c.in-Ok-press_all.ensures.made)

-- memory ran out at one of them
pub returns-in-Err-clause-part : goal.returns-in-Err-clause-part
returns-in-Err-clause-part g c =
    part_made c.args.number (all_keys c.args.number) _ _ _
    (made_keys c.args.number (omega arith)) c.in-Ok.ensures.counts
    (unmade_from_first _ _ _ _ c.in-Ok.ensures.state c.in-Err.ensures.made)

-- memory ran out before the first
pub returns-in_default-clause-part : goal.returns-in_default-clause-part
returns-in_default-clause-part g c = unopened_made c.args.number _ _ c.in_default.ensures.counts
