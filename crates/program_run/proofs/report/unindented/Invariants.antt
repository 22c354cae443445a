use Rattle.std.proofs.Common.{◌≡◌, length}
use Rattle.program_run.specs.ReportText.{unindented}
use Rattle.program_run.proofs.report.unindented.Given as goal

-- blanks alone stand before the rest
abbrev pub invariant-loop-rest : goal.invariant-loop-rest
invariant-loop-rest l = unindented l.rest ≡ unindented l.bytes

abbrev pub decreases-loop-rest : goal.decreases-loop-rest
decreases-loop-rest l = length l.rest
