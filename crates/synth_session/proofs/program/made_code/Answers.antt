use Rattle.synth_session.proofs.ProgramCodes.{made_counted, made_for}
use Rattle.synth_session.proofs.program.made_code.Goals as goal

pub returns-clause-code : goal.returns-clause-code
returns-clause-code g c =
    made_for c.kept_code_is_told.ensures.program c.kept_code_ignores_room_and_elision.ensures.room c.programs_have_one_code.ensures.made
    c.programs_have_one_code.ensures.room c.new.result c.args.tree.now c.args.marks.now.verdicts c.args.decls.now
    c.requires.marks c.requires.decls c.new.ensures.kept c.new.ensures.code

pub returns-clause-counts : goal.returns-clause-counts
returns-clause-counts g c =
    made_counted c.programs_have_one_code.ensures.made c.programs_have_one_code.ensures.room c.args.tree.now c.args.marks.now.verdicts
    c.args.decls.now c.requires.marks c.requires.decls _ _ c.new.ensures.counts
