use Rattle.std.specs.Prelude.{refl}
use Rattle.resume_cases.proofs.SuspendedRuns.{went_back}
use Rattle.resume_cases.proofs.steps.is_taken_back.Goals as goal

pub returns : goal.returns
returns c =
    went_back c.args.tree.now c.args.suspended.now record { run = record c.args.suspended.now.run { state = c.back.new.state }; history = c.back.new.self }
    c.back.result c.requires refl c.back.ensures.operands c.back.ensures.back c.back.ensures.again c.back.ensures.refused
