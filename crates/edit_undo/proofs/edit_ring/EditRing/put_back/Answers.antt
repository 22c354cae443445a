-- What comes out of the tree where the undoing is reverted weighs what came out before it, for which there is room.
use Rattle.std.specs.Prelude.{List}
use Rattle.std.proofs.Common.{arith, sym, subst}
use Rattle.template_tree.specs.Edits.Reversal.{given_out}
use Rattle.template_tree.specs.Programs.PlainTree.{roomless_tree}
use Rattle.edit_undo.specs.EarlierTree.{RingFits}
use Rattle.edit_undo.specs.declared.edit_record.EditRecord.{EditRecord}
use Rattle.edit_undo.proofs.UndoneEdits.{put_back_is, same_weight}
use Rattle.edit_undo.proofs.edit_ring.EditRing.put_back.Goals as goal

pub unreachable-requires : goal.unreachable-requires
unreachable-requires c =
    let told = c.args.undone in
    let same =
    same_weight c.room_is_not_shown.ensures.counts c.revert-edit.result.back
    (given_out told.receipt told.back (roomless_tree c.args.tree.now)) c.revert-edit.ensures.reverted.out_is in
    omega (arith, c.in_default.ensures.over, c.requires.newest.light, same)

pub put_newest-requires : goal.put_newest-requires
put_newest-requires c =
    let told = c.args.undone in
    let same =
    same_weight c.room_is_not_shown.ensures.counts c.revert-edit.result.back
    (given_out told.receipt told.back (roomless_tree c.args.tree.now)) c.revert-edit.ensures.reverted.out_is in
    record {
      weight = c.in-Some.ensures.within.0;
      few = c.requires.newest.few;
      room = omega (arith, c.requires.newest.light, same, c.in-Some.ensures.within.0);
    }

pub returns-clause-back : goal.returns-clause-back
returns-clause-back c = λ edits before undoes.
    rw c.put_newest.ensures (put_back_is c.receipts_revert_to_undone.ensures c.room_is_not_shown.ensures.counts c.revert-edit.result
    c.args.self.now c.args.tree.now c.revert-edit.new.tree c.args.undone ((c.room_is_not_shown.ensures.trees c.revert-edit.new.tree).0 c.revert-edit.ensures.tree)
    c.revert-edit.ensures.reverted c.revert-edit.ensures.stop edits before undoes)

pub returns-clause-fits : goal.returns-clause-fits
returns-clause-fits c =
    subst (λ (edits : List EditRecord). RingFits edits (roomless_tree c.revert-edit.new.tree)) (sym c.put_newest.ensures) (
      c.revert-edit.ensures.reverted.can_revert,
      subst (RingFits c.args.self.now) (sym c.revert-edit.ensures.reverted.reverts) c.requires.fits,
    )
