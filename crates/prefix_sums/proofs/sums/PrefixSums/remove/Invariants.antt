use Rattle.std.proofs.Common.{◌≡◌, vec_len, vec_capacity}
use Rattle.std.specs.List.{remove}
use Rattle.prefix_sums.specs.Private.RunningSums.{AreMended}
use Rattle.prefix_sums.proofs.sums.PrefixSums.remove.Given as goal

abbrev pub invariant-loop-b : goal.invariant-loop-b
invariant-loop-b l = record {
  mended : AreMended l.fn.self.numbers (remove l.fn.self.numbers l.k) l.self-inside.marks.items l.b;
  marks : vec_len l.self-inside.marks ≡ l.b-end;
  room : vec_capacity l.self-inside.marks ≡ vec_capacity l.initial.self-inside.marks;
  numbers : l.self-inside.numbers ≡ l.initial.self-inside.numbers;
  total : l.self-inside.total ≡ l.initial.self-inside.total;
}
