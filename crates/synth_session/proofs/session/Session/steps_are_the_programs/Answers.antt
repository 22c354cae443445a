use Rattle.template_tree.specs.Programs.PlainTree.{roomless_tree}
use Rattle.code_patch.specs.CodeForest.{told_code}
use Rattle.synth_session.specs.SessionView.{own_steps, plain_session}
use Rattle.synth_session.specs.Tick.{program_steps}
use Rattle.synth_session.proofs.ProgramTicks.{code_agrees, defined_tick, same_tick, same_wanted}
use Rattle.synth_session.proofs.session.Session.steps_are_the_programs.Goals as goal

pub returns-clause-defined : goal.returns-clause-defined
returns-clause-defined g c =
    let now = c.args.self.now in
    let tree = roomless_tree now.program.tree in
    defined_tick (own_steps now) (program_steps tree now.input) tree.items
    (code_agrees c.steps_of_programs.ensures now.program.tree c.requires.ready.session.agrees.tree (told_code now.program.dependents.code.items) c.requires.ready.code.tells now.input)
    (plain_session now) c.requires.fits c.requires.running

pub returns-clause-same : goal.returns-clause-same
returns-clause-same g c =
    let now = c.args.self.now in
    let tree = roomless_tree now.program.tree in
    same_tick (own_steps now) (program_steps tree now.input) tree.items
    (code_agrees c.steps_of_programs.ensures now.program.tree c.requires.ready.session.agrees.tree (told_code now.program.dependents.code.items) c.requires.ready.code.tells now.input)
    (plain_session now) c.requires.fits

pub returns-clause-wanted : goal.returns-clause-wanted
returns-clause-wanted g c after =
    let now = c.args.self.now in
    let tree = roomless_tree now.program.tree in
    same_wanted (own_steps now) (program_steps tree now.input) tree.items
    (code_agrees c.steps_of_programs.ensures now.program.tree c.requires.ready.session.agrees.tree (told_code now.program.dependents.code.items) c.requires.ready.code.tells now.input)
    (plain_session now) after c.requires.fits
