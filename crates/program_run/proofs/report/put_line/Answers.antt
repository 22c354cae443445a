use Rattle.plcs_base.specs.Put.{puts_nothing}
use Rattle.program_run.proofs.report.put_line.Goals as goal

pub returns-in-Some : goal.returns-in-Some
returns-in-Some g c = rw c.in-Some.is c.put_numbered.ensures

pub returns-in-None : goal.returns-in-None
returns-in-None g c = rw c.in-None.is puts_nothing
