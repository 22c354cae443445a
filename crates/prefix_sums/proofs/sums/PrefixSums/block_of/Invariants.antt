use Rattle.std.proofs.Common.{◌-◌, ◌+◌, ◌*◌, ◌<◌, ◌≤◌, sum, take, vec_len}
use Rattle.prefix_sums.proofs.sums.PrefixSums.block_of.Given as goal

abbrev pub invariant-loop-low : goal.invariant-loop-low
invariant-loop-low l = record {
  order : l.low ≤ l.high;
  within : l.high ≤ vec_len l.self-inside.marks;
  before : sum (take (64 * l.low) l.self-inside.numbers.items) ≤ l.at;
  behind : l.high < vec_len l.self-inside.marks → l.at < sum (take (64 * l.high + 64) l.self-inside.numbers.items);
}

abbrev pub decreases-loop-low : goal.decreases-loop-low
decreases-loop-low l = l.high - l.low
