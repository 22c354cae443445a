use Rattle.std.proofs.Common.{length, ◌-◌}
use Rattle.phrase_parser.proofs.Lines.CutLines.{IsUncut}
use Rattle.phrase_parser.proofs.line_parts.cut_at.Given as goal

abbrev pub invariant-loop-place : goal.invariant-loop-place
invariant-loop-place l = IsUncut l.divider l.text l.inside l.place

abbrev pub decreases-loop-place : goal.decreases-loop-place
decreases-loop-place l = length l.text - l.place
