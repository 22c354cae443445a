use Rattle.std.proofs.Common.{◌≡◌, ◌≤◌, [], drop, get_or}
use Rattle.template_tree.specs.Listings.Listing.{split_at_ends}
use Rattle.screen_window.proofs.OutputLines.{so_far}
use Rattle.screen_window.proofs.lower_rows.line_at.Given as goal

-- the line that is looked for is still to come, in what was read since its start
abbrev pub invariant-loop-at : goal.invariant-loop-at
invariant-loop-at l = record {
  behind : l.start ≤ l.at;
  line : get_or (split_at_ends [] l.bytes) l.number [] ≡ get_or (split_at_ends (so_far l.bytes l.start l.at) (drop l.at l.bytes)) l.left [];
}
