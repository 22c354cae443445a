-- The edit is put in place in all that depends on the program, which is that of the tree before it; where memory runs
-- out the tree comes back, and where the edit is refused only the lines are forgotten.
use Rattle.std.proofs.Common.{ap, subst, sym, ◌∙◌}
use Rattle.template_tree.specs.Checks.Marks.{offences}
use Rattle.template_tree.specs.declared.change.Change.{Change}
use Rattle.template_tree.specs.Programs.PlainTree.{PlainTree, roomless, roomless_tree}
use Rattle.template_tree.specs.Positions.Stop.{plain_stop}
use Rattle.template_tree.specs.Programs.Tree.{IsTree}
use Rattle.session_edit.specs.AppliedEdit.{takes_memory}
use Rattle.session_edit.specs.Edited.{edited}
use Rattle.session_edit.specs.PlainEdit.{plain_edit}
use Rattle.synth_session.specs.Private.PreparedProgram.{CountsRenewal, DependBefore}
use Rattle.synth_session.specs.SessionView.{DependOn, IsCodeFor}
use Rattle.synth_session.proofs.AgreeingDependents.{code_stays, dependents_stay}
use Rattle.synth_session.proofs.PreparedPrograms.{applied_counted, depend_before, edit_fault, edit_free}
use Rattle.synth_session.proofs.program.Program.change.Goals as goal

-- the edit was made: what depends on the program is that of the tree before it
pub renew-requires-clause-before : goal.renew-requires-clause-before
renew-requires-clause-before g c =
    let old = c.args.self.now in
    let after = c.apply.new.tree in (
      old.tree,
      subst (λ (x : Change). DependBefore old.dependents old.tree after x) (sym c.change-change.ensures)
          (depend_before c.kept_code_ignores_room_and_elision.ensures.room c.edits_ignore_room.ensures.changes old c.requires.agrees
          c.requires.code after c.in-Ok.applied.receipt.change c.in-Ok.ensures.change),
    )

-- it was put in place in all that depends on the program
pub returns-in-Ok-renew : goal.returns-in-Ok-renew
returns-in-Ok-renew g c =
    let old = c.args.self.now in
    let after = c.apply.new.tree in
    let applied = c.in-Ok.applied in
    let made = c.in-Ok.ensures in
    record {
      agrees =
          record {
            tree = made.tree;
            dependents = c.in-Ok-renew.ensures.depend;
            lines = c.forget.ensures (offences c.renew.new.self.marks.verdicts) (roomless after.items);
          };
      code = c.in-Ok-renew.ensures.code;
      became = made.became;
      stop = made.stop;
      undoes = made.undoes;
      can_revert = made.can_revert;
      step = c.edits_at_stops_are_steps.ensures.made old.tree after (plain_stop c.args.at.now) (plain_edit c.args.edit) _ c.requires.agrees.tree made;
      drawn = made.drawn;
      refused = tt;
      same = tt;
      counts =
          applied_counted c.kept_code_ignores_room_and_elision.ensures.bills c.due_are_counted.ensures.room old.dependents old.tree after
          applied _
          (depend_before c.kept_code_ignores_room_and_elision.ensures.room c.edits_ignore_room.ensures.changes old c.requires.agrees
          c.requires.code after applied.receipt.change made.change)
          (subst
          (λ (x : Change). CountsRenewal old.dependents after x (g.W.Work.counts c.args.work.now) (g.W.Work.counts c.renew.new.work))
          c.change-change.ensures c.renew.ensures.counts)
          made.became;
    }

-- memory ran out: the tree comes back
pub returns-in-Err-renew : goal.returns-in-Err-renew
returns-in-Err-renew g c =
    let old = c.args.self.now in
    let after = c.apply.new.tree in
    let applied = c.in-Ok.applied in
    let made = c.in-Ok.ensures in
    let undone = c.undo.ensures.undone ∙ made.undoes in
    record {
      agrees =
          record {
            tree = c.undo.ensures.tree;
            dependents =
                dependents_stay c.layouts_ignore_room.ensures c.checks_ignore_room_and_elision.ensures.room
                c.tables_ignore_room_and_elision.ensures.table c.tables_ignore_room_and_elision.ensures.program old.dependents
                c.renew.new.self old.tree c.undo.new.tree c.requires.agrees.dependents c.in-Err-renew.ensures.same undone;
            lines = c.forget.ensures (offences c.renew.new.self.marks.verdicts) (roomless c.undo.new.tree.items);
          };
      code = code_stays old.dependents c.renew.new.self old.tree c.undo.new.tree c.requires.code c.in-Err-renew.ensures.same undone;
      became = tt;
      stop = tt;
      undoes = tt;
      can_revert = tt;
      step = tt;
      drawn = tt;
      refused = tt;
      same = undone;
      counts =
          applied_counted c.kept_code_ignores_room_and_elision.ensures.bills c.due_are_counted.ensures.room old.dependents old.tree after
          applied _
          (depend_before c.kept_code_ignores_room_and_elision.ensures.room c.edits_ignore_room.ensures.changes old c.requires.agrees
          c.requires.code after applied.receipt.change made.change)
          (subst
          (λ (x : Change). CountsRenewal old.dependents after x (g.W.Work.counts c.args.work.now) (g.W.Work.counts c.renew.new.work))
          c.change-change.ensures c.renew.ensures.counts)
          made.became;
    }

-- the edit was refused, so only the lines are forgotten
pub returns-in-Err : goal.returns-in-Err
returns-in-Err g c =
    let old = c.args.self.now in
    let back = c.in-Err.ensures.1 in
    let same = sym back in
    let outcome = edited (roomless_tree old.tree) (plain_stop c.args.at.now) (plain_edit c.args.edit) in
    record {
      agrees =
          record {
            tree = subst IsTree same c.requires.agrees.tree;
            dependents = subst (λ (t : PlainTree). DependOn old.dependents t) same c.requires.agrees.dependents;
            lines = c.forget.ensures (offences old.dependents.marks.verdicts) (roomless c.apply.new.tree.items);
          };
      code = subst (λ (t : PlainTree). IsCodeFor old.dependents.code (roomless_tree t)) same c.requires.code;
      became = tt;
      stop = tt;
      undoes = tt;
      can_revert = tt;
      step = tt;
      drawn = tt;
      refused = edit_fault (takes_memory (plain_edit c.args.edit) (plain_stop c.args.at.now)) outcome c.in-Err.fault c.in-Err.ensures.0;
      same = ap roomless_tree back;
      counts = edit_free (g.W.Work.counts c.args.work.now) (roomless_tree old.tree) outcome;
    }
