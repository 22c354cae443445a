use Rattle.std.proofs.Common.{length, drop, ◌++◌, ◌-◌, ◌≡◌, ◌≤◌, false}
use Rattle.plcs_store.specs.InputItem.{unquoted}
use Rattle.plcs_store.proofs.input_item.unquoted_text.Given as goal

abbrev pub invariant-loop-count : goal.invariant-loop-count
invariant-loop-count l =
    (l.count ≤ length l.rest) × (l.text.items ++ unquoted l.behind_quote (drop l.count l.rest) ≡ unquoted false l.rest)

abbrev pub decreases-loop-count : goal.decreases-loop-count
decreases-loop-count l = length l.rest - l.count
