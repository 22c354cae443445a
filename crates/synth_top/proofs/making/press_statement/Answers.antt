-- A statement is typed in three parts, the first of them with the line before it, and what is typed in all are the keys
-- of its text.
use Rattle.std.proofs.Common.{◌++◌, codes, decimal, map, arith}
use Rattle.std.proofs.lemmas.Result.{err_from_is_err_and}
use Rattle.synth_top.specs.Keys.{key_of}
use Rattle.synth_top.specs.Private.MakingText.{line_keys, text_keys}
use Rattle.synth_top.proofs.MadeKeys.{made_as, made_then, then_unmade, unmade_as, unmade_before, unmade_keys_as}
use Rattle.synth_top.proofs.MadeTexts.{statement_keys}
use Rattle.synth_top.proofs.making.press_statement.Goals as goal

-- a hole after the others, and the statement in three parts
pub returns-clause-made : goal.returns-clause-made
returns-clause-made g c =
    let lead = line_keys (codes ".after") ++ text_keys (codes "x = MOD(x * 3 + ") in
    let digits = map key_of (decimal c.args.number) in
    let tail = line_keys (codes ", 1000)") in
    made_as _ _ _ _ _ _ _ (statement_keys c.args.number (omega arith))
    (made_then lead (digits ++ tail) _ _ _ _ c.in_ok-press_text.ensures.made _ _ c.press_text-2.result
    (made_then digits tail _ _ _ _ c.in_ok-press_number.ensures.made _ _ c.press_text-2.result
    c.press_text-2.ensures.made))

pub returns-in_err-press_text-clause-made : goal.returns-in_err-press_text-clause-made
returns-in_err-press_text-clause-made g c =
    let lead = line_keys (codes ".after") ++ text_keys (codes "x = MOD(x * 3 + ") in
    let digits = map key_of (decimal c.args.number) in
    let tail = line_keys (codes ", 1000)") in
    let p = err_from_is_err_and c.from_residual.result c.from_residual.ensures.1 in
    unmade_as _ _ _ _ _ _ _ p.1 (unmade_keys_as _ _ _ _ _ (statement_keys c.args.number (omega arith))
    (unmade_before lead (digits ++ tail) _ _ _ c.in_err-press_text.ensures.made))

pub returns-in_err-press_number-clause-made : goal.returns-in_err-press_number-clause-made
returns-in_err-press_number-clause-made g c =
    let lead = line_keys (codes ".after") ++ text_keys (codes "x = MOD(x * 3 + ") in
    let digits = map key_of (decimal c.args.number) in
    let tail = line_keys (codes ", 1000)") in
    let p = err_from_is_err_and c.from_residual-in_err-press_number.result
    c.from_residual-in_err-press_number.ensures.1 in
    unmade_as _ _ _ _ _ _ _ p.1 (unmade_keys_as _ _ _ _ _ (statement_keys c.args.number (omega arith))
    (then_unmade lead (digits ++ tail) _ _ _ _ c.in_ok-press_text.ensures.made _
    (unmade_before digits tail _ _ _ c.in_err-press_number.ensures.made)))
