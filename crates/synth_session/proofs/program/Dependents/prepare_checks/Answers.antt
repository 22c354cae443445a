use Rattle.std.proofs.Common.{refl}
use Rattle.synth_session.proofs.PreparedPrograms.{due_checked, none_checked, table_before, verdicts_before}
use Rattle.synth_session.proofs.program.Dependents.prepare_checks.Goals as goal

pub prepare-requires-clause-before : goal.prepare-requires-clause-before
prepare-requires-clause-before g c =
    let old = c.args.self.now in
    let was = c.requires.before in (
      was.0,
      table_before old was.0 c.args.tree.now c.args.change.now was.1 c.tables_ignore_room_and_elision.ensures.table old.decls refl,
    )

pub prepare-requires-in-Ok-clause-before : goal.prepare-requires-in-Ok-clause-before
prepare-requires-in-Ok-clause-before g c =
    let old = c.args.self.now in
    let was = c.requires.before in
    let tables = c.tables_ignore_room_and_elision.ensures.table in
    verdicts_before old was.0 c.args.tree.now c.args.change.now was.1 tables c.prepare.new.self c.in-Ok.decls
    c.prepare.ensures.same
    (c.in-Ok.ensures.edit was.0 (table_before old was.0 c.args.tree.now c.args.change.now was.1 tables old.decls refl))

pub returns-in-Ok-prepare-clause-same : goal.returns-in-Ok-prepare-clause-same
returns-in-Ok-prepare-clause-same g c =
    record { layout = refl; decls = c.prepare.ensures.same; marks = c.prepare-in-Ok.ensures.same; code = refl; told = refl }

pub returns-in-Err-clause-same : goal.returns-in-Err-clause-same
returns-in-Err-clause-same g c = record { layout = refl; decls = c.prepare.ensures.same; marks = refl; code = refl; told = refl }

pub returns-in-Err-prepare-clause-same : goal.returns-in-Err-prepare-clause-same
returns-in-Err-prepare-clause-same g c =
    record { layout = refl; decls = c.prepare.ensures.same; marks = c.prepare-in-Ok.ensures.same; code = refl; told = refl }

pub returns-in-Ok-prepare-clause-checks : goal.returns-in-Ok-prepare-clause-checks
returns-in-Ok-prepare-clause-checks g c =
    let old = c.args.self.now in
    let was = c.requires.before in
    let edit =
    c.in-Ok.ensures.edit was.0
    (table_before old was.0 c.args.tree.now c.args.change.now was.1 c.tables_ignore_room_and_elision.ensures.table old.decls refl) in
    record {
      decls_ready = c.in-Ok.ensures.ready;
      decls_become = edit.decls_after;
      marks_ready = c.in-Ok-prepare.ensures.ready;
      marks_become = c.in-Ok-prepare.ensures.after;
    }

pub returns-in-Err-clause-counts : goal.returns-in-Err-clause-counts
returns-in-Err-clause-counts g c = λ before was. none_checked _ _

pub returns-in-Err-prepare-clause-counts : goal.returns-in-Err-prepare-clause-counts
returns-in-Err-prepare-clause-counts g c = λ before was.
    let old = c.args.self.now in
    let tree = c.args.tree.now in
    let edit =
    c.in-Ok.ensures.edit before
    (table_before old before tree c.args.change.now was c.tables_ignore_room_and_elision.ensures.table old.decls refl) in
    due_checked c.due_are_counted.ensures.counted before tree c.args.change.now c.prepare.new.self c.in-Ok.decls c.requires.tree was.differs
    edit _ _ c.prepare-in-Ok.ensures.counts

pub returns-in-Ok-prepare-clause-counts : goal.returns-in-Ok-prepare-clause-counts
returns-in-Ok-prepare-clause-counts g c = λ before was.
    let old = c.args.self.now in
    let tree = c.args.tree.now in
    let edit =
    c.in-Ok.ensures.edit before
    (table_before old before tree c.args.change.now was c.tables_ignore_room_and_elision.ensures.table old.decls refl) in
    due_checked c.due_are_counted.ensures.counted before tree c.args.change.now c.prepare.new.self c.in-Ok.decls c.requires.tree was.differs
    edit _ _ c.prepare-in-Ok.ensures.counts
