use Rattle.std.proofs.Common.{◌≡◌, drop}
use Rattle.plcs_store.specs.Operator.{text_order}
use Rattle.plcs_machine.proofs.operators.text_order.Given as goal

abbrev pub invariant-loop-k : goal.invariant-loop-k
invariant-loop-k l = text_order (drop l.k l.left) (drop l.k l.right) ≡ text_order l.left l.right
