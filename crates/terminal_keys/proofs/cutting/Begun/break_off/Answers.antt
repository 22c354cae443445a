use Rattle.std.proofs.Common.{ap, ◌∙◌}
use Rattle.terminal_keys.specs.Sequence.{is_whole}
use Rattle.terminal_keys.proofs.Cuts.{nothing_lacks}
use Rattle.terminal_keys.proofs.cutting.Begun.break_off.Goals as goal

-- no sequence has begun
pub invariant_of-self : goal.invariant_of-self
invariant_of-self c = record { lacks = ap is_whole c.clear.ensures ∙ nothing_lacks }
