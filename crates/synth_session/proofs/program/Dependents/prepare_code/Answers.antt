use Rattle.std.proofs.Common.{refl}
use Rattle.synth_session.proofs.PreparedPrograms.{marks_tell, scope_tells}
use Rattle.synth_session.proofs.ProgramCodes.{code_ready}
use Rattle.synth_session.proofs.program.Dependents.prepare_code.Goals as goal

-- the code is mended by the marks and the items after the edit, which tell of the edited tree
pub prepare-requires-clause-marks : goal.prepare-requires-clause-marks
prepare-requires-clause-marks g c =
    marks_tell c.args.tree.now c.after-new_marks.result _ c.after-new_marks.ensures c.requires.checks.marks_become

pub prepare-requires-clause-scope : goal.prepare-requires-clause-scope
prepare-requires-clause-scope g c =
    scope_tells c.args.tree.now c.after-new_items.result c.args.self.now.decls c.args.decls.now c.after-new_items.ensures
    c.requires.checks.decls_become

pub returns-clause-code : goal.returns-clause-code
returns-clause-code g c =
    code_ready c.kept_code_ignores_room_and_elision.ensures.room c.programs_have_one_code.ensures.room c.prepare.result
    c.prepare.new.self c.args.tree.now c.prepare.ensures.after c.prepare.ensures.code c.prepare.ensures.ready

pub returns-clause-same : goal.returns-clause-same
returns-clause-same g c =
    record { layout = refl; decls = refl; marks = refl; code = c.prepare.ensures.same; told = c.prepare.ensures.same_code }
