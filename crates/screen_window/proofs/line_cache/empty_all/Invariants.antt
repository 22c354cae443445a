use Rattle.std.proofs.Common.{◌≡◌, None, length}
use Rattle.std.specs.List.{AllWithin}
use Rattle.screen_window.proofs.line_cache.empty_all.Given as goal

-- the buckets before this one are empty
abbrev pub invariant-loop-k : goal.invariant-loop-k
invariant-loop-k g l = record {
  empty : AllWithin (λ bucket. bucket ≡ None) l.buckets.items 0 l.k;
  count : length l.buckets.items ≡ length l.fn.buckets.items;
}
