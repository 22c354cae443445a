use Rattle.std.proofs.Common.{◌≡◌, None, length}
use Rattle.std.specs.Prelude.{All}
use Rattle.screen_window.proofs.line_cache.empty_buckets.Given as goal

-- as many empty buckets as iterations
abbrev pub invariant-loop : goal.invariant-loop
invariant-loop g l = record {
  empty : All (λ bucket. bucket ≡ None) l.buckets.items;
  count : length l.buckets.items ≡ l.counter;
}
