use Rattle.std.proofs.Common.{◌-◌, ◌≡◌, ◌+◌, ◌≤◌, sum, take, vec_len}
use Rattle.prefix_sums.proofs.sums.PrefixSums.find.Given as goal

abbrev pub invariant-loop-index : goal.invariant-loop-index
invariant-loop-index l = record {
  so_far : sum (take l.index l.self-inside.numbers.items) + l.rest ≡ l.at;
  within : l.index ≤ vec_len l.self-inside.numbers;
}

abbrev pub decreases-loop-index : goal.decreases-loop-index
decreases-loop-index l = vec_len l.self-inside.numbers - l.index
