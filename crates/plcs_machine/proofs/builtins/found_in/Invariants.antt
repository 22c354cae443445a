use Rattle.std.proofs.Common.{◌≡◌, ◌+◌, ◌-◌, drop, length}
use Rattle.plcs_store.specs.BuiltinValue.{found_from}
use Rattle.plcs_machine.proofs.builtins.found_in.Given as goal

abbrev pub invariant-loop-k : goal.invariant-loop-k
invariant-loop-k l = found_from (l.k + 1) (drop l.k l.x) l.sought ≡ found_from 1 l.x l.sought

abbrev pub decreases-loop-k : goal.decreases-loop-k
decreases-loop-k l = length l.x - l.k
