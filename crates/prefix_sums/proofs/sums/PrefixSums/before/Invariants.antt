use Rattle.std.proofs.Common.{◌≡◌, sum, take}
use Rattle.prefix_sums.proofs.sums.PrefixSums.before.Given as goal

abbrev pub invariant-loop-i : goal.invariant-loop-i
invariant-loop-i l = l.sum ≡ sum (take l.i l.self-inside.numbers.items)
