-- The newest edit fits the tree, and once it is reverted the others fit the tree that came back. Where memory is
-- wanting its record is put back into the room that it left.
use Rattle.std.specs.Prelude.{refl, List, ◌∷◌, length}
use Rattle.std.proofs.Common.{ap, arith, sym, subst, ◌∙◌}
use Rattle.std.proofs.Math.Bool.{false≢true}
use Rattle.template_tree.specs.Edits.Receipt.{HasRoomBack, list_room}
use Rattle.template_tree.specs.Programs.PlainTree.{PlainTree, roomless_tree}
use Rattle.edit_undo.specs.EarlierTree.{RingFits}
use Rattle.edit_undo.specs.EditLimit.{edit_weight}
use Rattle.edit_undo.specs.declared.edit_record.EditRecord.{EditRecord}
use Rattle.edit_undo.proofs.KeptRings.{first_light, same_first}
use Rattle.edit_undo.proofs.UndoneEdits.{may_put_back, undoes_newest}
use Rattle.edit_undo.proofs.edit_ring.EditRing.undo.Goals as goal

-- ---- none is held

pub returns-in_default-clause-none : goal.returns-in_default-clause-none
returns-in_default-clause-none c = (λ _. c.in_default.ensures.none.0, λ _. refl)

pub returns-in_default-clause-fits : goal.returns-in_default-clause-fits
returns-in_default-clause-fits c =
    subst (λ (edits : List EditRecord). RingFits edits (roomless_tree c.args.tree.now)) (sym c.in_default.ensures.none.1) c.requires.fits

-- ---- the newest is reverted

pub revert-requires-clause-fits : goal.revert-requires-clause-fits
revert-requires-clause-fits c =
    (subst (λ (edits : List EditRecord). RingFits edits (roomless_tree c.args.tree.now)) c.in-Some.ensures.newest c.requires.fits).0

pub returns-in-Ok-clause-undone : goal.returns-in-Ok-clause-undone
returns-in-Ok-clause-undone c =
    undoes_newest c.room_is_not_shown.ensures.counts c.in-Some.edit c.args.self.now c.take_newest.new.self c.args.tree.now c.revert.new.tree
    c.in-Ok.undone c.in-Some.ensures.newest c.in-Ok.ensures.reverted c.in-Ok.ensures.stop c.in-Ok.ensures.change

pub returns-in-Ok-clause-again : goal.returns-in-Ok-clause-again
returns-in-Ok-clause-again c =
    may_put_back c.room_is_not_shown.ensures.counts c.in-Some.edit c.args.self.now c.take_newest.new.self c.args.tree.now c.revert.new.tree
    c.in-Ok.undone c.in-Some.ensures.newest c.in-Ok.ensures.reverted c.in-Ok.ensures.stop c.in-Ok.ensures.change c.in-Some.ensures.limits

pub returns-in-Ok-clause-fits : goal.returns-in-Ok-clause-fits
returns-in-Ok-clause-fits c =
    subst (λ (tree : PlainTree). RingFits c.take_newest.new.self tree) (sym c.in-Ok.ensures.reverted.became)
    (subst (λ (edits : List EditRecord). RingFits edits (roomless_tree c.args.tree.now)) c.in-Some.ensures.newest c.requires.fits).1

-- ---- memory is wanting

pub put_newest-requires : goal.put_newest-requires
put_newest-requires c =
    let room = first_light c.args.self.now c.take_newest.new.self c.in-Some.edit c.in-Some.ensures.newest c.in-Some.ensures.limits in
    record {
      weight = c.in-Some.ensures.weight ∙ ap (λ (edit : EditRecord). edit_weight edit.back) (sym c.in-Err.ensures.unchanged.0);
      few = room.0;
      room = omega (arith, room.1, c.in-Some.ensures.weight);
    }

pub returns-in-Err-clause-none : goal.returns-in-Err-clause-none
returns-in-Err-clause-none c = (
  λ other. absurd (cc),
  λ none. absurd (omega (arith, ap length none, ap length c.in-Some.ensures.newest)),
)

pub returns-in-Err-clause-wanted : goal.returns-in-Err-clause-wanted
returns-in-Err-clause-wanted c = λ _ edit edits is room.
    false≢true
    (c.in-Err.ensures.wanted
    (subst (λ (e : EditRecord). HasRoomBack e.receipt.undoing (list_room c.args.tree.now.spare c.args.tree.now.items e.receipt.path))
    (same_first edit c.in-Some.edit edits c.take_newest.new.self (sym is ∙ c.in-Some.ensures.newest)) room))

pub returns-in-Err-clause-unchanged : goal.returns-in-Err-clause-unchanged
returns-in-Err-clause-unchanged c = (
  c.put_newest.ensures
      ∙ (ap (λ (edit : EditRecord). edit ∷ c.take_newest.new.self) c.in-Err.ensures.unchanged.0 ∙ sym c.in-Some.ensures.newest),
  c.in-Err.ensures.unchanged.1,
)

pub returns-in-Err-clause-fits : goal.returns-in-Err-clause-fits
returns-in-Err-clause-fits c =
    let same = returns-in-Err-clause-unchanged c in
    subst (λ (edits : List EditRecord). RingFits edits (roomless_tree c.revert.new.tree)) (sym same.0)
    (subst (λ (tree : PlainTree). RingFits c.args.self.now (roomless_tree tree)) (sym same.1) c.requires.fits)
