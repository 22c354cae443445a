use Rattle.std.proofs.Common.{length, take, ◌≡◌, ◌≤◌}
use Rattle.plcs_store.specs.LoopOfSlot.{loop_of_slot}
use Rattle.plcs_store.proofs.loops.innermost_of.Given as goal

abbrev pub invariant-loop-outside : goal.invariant-loop-outside
invariant-loop-outside l =
    (l.outside ≤ length l.loops) × (loop_of_slot l.slot.0 (take l.outside l.loops) ≡ loop_of_slot l.slot.0 l.loops)

abbrev pub decreases-loop-outside : goal.decreases-loop-outside
decreases-loop-outside l = l.outside
