use Rattle.std.proofs.Common.{◌≡◌, replicate}
use Rattle.screen_window.specs.Private.PlainForm.{plain_lines}
use Rattle.screen_window.proofs.lines.blank_lines.Given as goal

-- as many blank rows as turns
abbrev pub invariant-loop : goal.invariant-loop
invariant-loop l = plain_lines l.lines ≡ replicate l.counter (replicate l.cols 32)
