use Rattle.std.proofs.Common.{length, drop, ◌-◌, ◌≡◌, ◌≤◌, false}
use Rattle.plcs_store.specs.InputItem.{closed_at}
use Rattle.plcs_store.proofs.input_item.constant_length.Given as goal

abbrev pub invariant-loop-count : goal.invariant-loop-count
invariant-loop-count l =
    (l.count ≤ length l.input) × (closed_at l.count l.behind_quote (drop l.count l.input) ≡ closed_at 0 false l.input)

abbrev pub decreases-loop-count : goal.decreases-loop-count
decreases-loop-count l = length l.input - l.count
