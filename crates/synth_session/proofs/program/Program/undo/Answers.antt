-- The undoing is put in place in all that depends on the program, which is that of the tree before it; where memory runs
-- out the edit is made again.
use Rattle.std.proofs.Common.{ap, subst, sym}
use Rattle.template_tree.specs.Positions.Stop.{plain_stop}
use Rattle.template_tree.specs.Checks.Marks.{offences}
use Rattle.template_tree.specs.Programs.PlainTree.{PlainTree, roomless, roomless_tree}
use Rattle.template_tree.specs.Programs.Tree.{IsTree}
use Rattle.screen_window.specs.HeldLines.{HoldLinesOf}
use Rattle.edit_undo.specs.EarlierTree.{trees_before}
use Rattle.synth_session.specs.SessionView.{DependOn, IsCodeFor}
use Rattle.synth_session.proofs.AgreeingDependents.{code_stays, dependents_stay}
use Rattle.synth_session.proofs.PreparedPrograms.{bill_counted, depend_before}
use Rattle.synth_session.proofs.UndoneEdits.{goes_back, goes_back_counted, none_counted, some_held, told_stands}
use Rattle.synth_session.proofs.program.Program.undo.Goals as goal

pub stop_or_comment-requires-clause-there : goal.stop_or_comment-requires-clause-there
stop_or_comment-requires-clause-there g c =
    told_stands c.args.self.now.tree c.undo.new.tree c.args.edits.now c.undo.new.self c.in-Ok.undone c.in-Ok.ensures.undone
    c.room_is_not_shown.ensures.nodes c.requires.stops

-- what depends on the program is that of the tree before the undoing
pub renew-requires-clause-before : goal.renew-requires-clause-before
renew-requires-clause-before g c =
    let old = c.args.self.now in (
      old.tree,
      depend_before c.kept_code_ignores_room_and_elision.ensures.room c.edits_ignore_room.ensures.changes old c.requires.agrees
          c.requires.code c.undo.new.tree c.in-Ok.undone.change c.in-Ok.ensures.undone.change,
    )

-- the undoing was put in place in all that depends on the program, and its lines are forgotten
pub returns-in-Ok-renew : goal.returns-in-Ok-renew
returns-in-Ok-renew g c =
    let old = c.args.self.now in
    let after = c.undo.new.tree in
    let told = c.in-Ok.undone in
    let undoes = c.in-Ok.ensures.undone in
    record {
      agrees =
          record {
            tree = c.undo.ensures.tree;
            dependents = c.in-Ok-renew.ensures.depend;
            lines = c.forget.ensures (offences c.renew.new.self.marks.verdicts) (roomless after.items);
          };
      code = c.in-Ok-renew.ensures.code;
      undone =
          goes_back old.tree after c.args.edits.now c.undo.new.self told undoes (plain_stop c.stop_or_comment.result)
          c.stop_or_comment.ensures.shown;
      stop = c.stop_or_comment.ensures.stop;
      fits = c.undo.ensures.fits;
      none = tt;
      same = tt;
      same_earlier = tt;
      counts =
          goes_back_counted old.tree after c.args.edits.now c.undo.new.self told undoes
          (bill_counted old.dependents old.tree after told.change
          (depend_before c.kept_code_ignores_room_and_elision.ensures.room c.edits_ignore_room.ensures.changes old c.requires.agrees
          c.requires.code after told.change undoes.change)
          c.kept_code_ignores_room_and_elision.ensures.bills c.due_are_counted.ensures.room c.renew.ensures.counts);
    }

-- memory ran out: the edit is made again
pub returns-in-Err-renew : goal.returns-in-Err-renew
returns-in-Err-renew g c =
    let old = c.args.self.now in
    let after = c.undo.new.tree in
    let told = c.in-Ok.undone in
    let undoes = c.in-Ok.ensures.undone in
    let back = c.put_back.ensures.back c.args.edits.now old.tree undoes in
    record {
      agrees =
          record {
            tree = c.put_back.ensures.tree;
            dependents =
                dependents_stay c.layouts_ignore_room.ensures c.checks_ignore_room_and_elision.ensures.room
                c.tables_ignore_room_and_elision.ensures.table c.tables_ignore_room_and_elision.ensures.program old.dependents
                c.renew.new.self old.tree c.put_back.new.tree c.requires.agrees.dependents c.in-Err-renew.ensures.same back.0;
            lines = c.forget.ensures (offences c.renew.new.self.marks.verdicts) (roomless c.put_back.new.tree.items);
          };
      code = code_stays old.dependents c.renew.new.self old.tree c.put_back.new.tree c.requires.code c.in-Err-renew.ensures.same back.0;
      undone = tt;
      stop = tt;
      fits = c.put_back.ensures.fits;
      none = (
        λ other. absurd (cc),
        λ none. absurd (some_held old.tree after c.args.edits.now c.undo.new.self told undoes none),
      );
      same = back.0;
      same_earlier = back.1;
      counts =
          goes_back_counted old.tree after c.args.edits.now c.undo.new.self told undoes
          (bill_counted old.dependents old.tree after told.change
          (depend_before c.kept_code_ignores_room_and_elision.ensures.room c.edits_ignore_room.ensures.changes old c.requires.agrees
          c.requires.code after told.change undoes.change)
          c.kept_code_ignores_room_and_elision.ensures.bills c.due_are_counted.ensures.room c.renew.ensures.counts);
    }

-- nothing was undone
pub returns-in-Err : goal.returns-in-Err
returns-in-Err g c =
    let old = c.args.self.now in
    let edits = c.in-Err.ensures.unchanged.0 in
    let tree = c.in-Err.ensures.unchanged.1 in
    let same = sym tree in
    record {
      agrees =
          record {
            tree = subst IsTree same c.requires.agrees.tree;
            dependents = subst (λ (t : PlainTree). DependOn old.dependents t) same c.requires.agrees.dependents;
            lines = subst (λ (t : PlainTree). HoldLinesOf (offences old.dependents.marks.verdicts) (roomless t.items) old.lines) same c.requires.agrees.lines;
          };
      code = subst (λ (t : PlainTree). IsCodeFor old.dependents.code (roomless_tree t)) same c.requires.code;
      undone = tt;
      stop = tt;
      fits = c.undo.ensures.fits;
      none = c.in-Err.ensures.none;
      same = ap roomless_tree tree;
      same_earlier = λ i. trees_before (edits i) (roomless_tree (tree i));
      counts = none_counted _ c.args.edits.now (roomless_tree old.tree);
    }
