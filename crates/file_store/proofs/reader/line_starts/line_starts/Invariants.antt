use Rattle.std.proofs.Common.{◌+◌, ◌≤◌, count_by, length, vec_capacity}
use Rattle.lane_rows.specs.TextByte.{is_line_end}
use Rattle.file_store.specs.Limit.{longest_listing}
use Rattle.file_store.proofs.LineStarts.{Lead}
use Rattle.file_store.proofs.reader.line_starts.line_starts.Given as goal

abbrev pub decreases-loop-more : goal.decreases-loop-more
decreases-loop-more l = length l.rest

-- the starts that were found lead to what is left, for whose line ends there is room
abbrev pub invariant-loop-more : goal.invariant-loop-more
invariant-loop-more l =
    record {
      lead : Lead l.text l.starts.items l.rest;
      room : length l.starts.items + count_by is_line_end l.rest ≤ vec_capacity l.starts;
      short : length l.rest ≤ longest_listing;
    }
