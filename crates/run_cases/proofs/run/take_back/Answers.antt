use Rattle.run_cases.proofs.RunsOfPrograms.{took_back}
use Rattle.run_cases.proofs.run.take_back.Goals as goal

pub returns-in-Ok : goal.returns-in-Ok
returns-in-Ok c =
    took_back c.args.code.now c.args.run.now.history c.back.new.self c.args.run.now.state c.back.new.state c.requires.stands c.requires.steps
    c.in-Ok.ensures.back c.in-Ok.ensures.operands
