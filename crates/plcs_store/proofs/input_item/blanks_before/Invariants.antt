use Rattle.std.proofs.Common.{length, drop, ◌+◌, ◌-◌, ◌≡◌, ◌≤◌}
use Rattle.std.specs.List.{prefix_len}
use Rattle.plcs_store.specs.InputItem.{is_input_blank}
use Rattle.plcs_store.proofs.input_item.blanks_before.Given as goal

abbrev pub invariant-loop-count : goal.invariant-loop-count
invariant-loop-count l =
    (l.count ≤ length l.input) × (l.count + prefix_len is_input_blank (drop l.count l.input) ≡ prefix_len is_input_blank l.input)

abbrev pub decreases-loop-count : goal.decreases-loop-count
decreases-loop-count l = length l.input - l.count
