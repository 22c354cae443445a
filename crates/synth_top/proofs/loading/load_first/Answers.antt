use Rattle.synth_top.specs.Turn.{failure}
use Rattle.synth_top.specs.Private.PlainForms.{program_reply}
use Rattle.synth_top.proofs.Whole.{loads_nothing_after}
use Rattle.synth_top.proofs.loading.load_first.Goals as goal

-- the program was loaded or refused, and then memory ran out over the input
pub returns-in-Err-clause-wanted : goal.returns-in-Err-clause-wanted
returns-in-Err-clause-wanted g c =
    loads_nothing_after (failure (program_reply c.in-Ok.program)) (g.F.Files.told c.args.files.now)
    (g.F.Files.told c.load_program.new.files) (g.F.Files.told c.load_program_input.new.files) c.in-Ok.ensures.loads.read c.in-Err.ensures.wanted
