use Rattle.std.proofs.Common.{◌≡◌, ◌≤◌, ◌+◌, [], length, drop}
use Rattle.template_tree.specs.Listings.Listing.{split_at_ends}
use Rattle.screen_window.proofs.lower_rows.line_count.Given as goal

-- the line ends so far, and the lines behind
abbrev pub invariant-loop-byte : goal.invariant-loop-byte
invariant-loop-byte l = record {
  lines : length (split_at_ends [] l.bytes) ≡ l.ends + length (split_at_ends [] (drop l.byte-index l.bytes));
  few : l.ends ≤ l.byte-index;
}
