use Rattle.std.proofs.Common.{◌≡◌, ◌++◌, length, drop, replicate}
use Rattle.std.specs.Prelude.{All}
use Rattle.screen_window.specs.Private.PlainForm.{plain_lines}
use Rattle.screen_window.proofs.lines.blank_all.Given as goal

-- the rows above this one are blank
abbrev pub invariant-loop-row : goal.invariant-loop-row
invariant-loop-row l = record {
  lines : plain_lines l.lines ≡ replicate l.row (replicate l.cols 32) ++ drop l.row (plain_lines l.fn.lines);
  count : length (plain_lines l.lines) ≡ length (plain_lines l.fn.lines);
  widths : All (λ line. length line ≡ l.cols) (plain_lines l.lines);
}
