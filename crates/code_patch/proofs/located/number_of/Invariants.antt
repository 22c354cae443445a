use Rattle.std.specs.Prelude.{◌-◌, ◌≤◌, length}
use Rattle.template_tree.specs.Positions.Place.{place_at}
use Rattle.code_patch.proofs.StepNumbers.{Left}
use Rattle.code_patch.proofs.located.number_of.Given as goal

abbrev pub decreases-loop-k : goal.decreases-loop-k
decreases-loop-k g l = length l.block - l.k

abbrev pub invariant-loop-k : goal.invariant-loop-k
invariant-loop-k g l = record {
  left : Left (place_at l.place.slot.0 l.place.point.0) l.block l.k;
  within : l.k ≤ length l.block;
}
