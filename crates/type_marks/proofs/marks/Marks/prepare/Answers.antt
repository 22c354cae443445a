-- The phrases that are due are checked by the table of the edit, which knows what is asked there; with their verdicts,
-- and without those of phrases that went, the verdicts before the edit are those of the edited tree.
use Rattle.std.proofs.Common.{◌≡◌, ◌∙◌, List, length, refl, sym, ap, subst, arith}
use Rattle.plcs_base.specs.PlainCounts.{ChecksAtMost}
use Rattle.plcs_base.specs.declared.place.PhraseAt.{PhraseAt}
use Rattle.template_tree.specs.Checks.Marks.{VerdictMap}
use Rattle.decl_table.specs.PlainDecls.{PlainDecls}
use Rattle.type_marks.specs.MarkEdit.{with_all, without_all}
use Rattle.type_marks.specs.Private.CheckedLists.{AreChecked, AreSamePlaces, IsDueIn}
use Rattle.type_marks.proofs.PreparedMarks.{due_in, prepared_after}
use Rattle.type_marks.proofs.marks.Marks.prepare.Goals as goal

pub check_due-requires-clause-due : goal.check_due-requires-clause-due
check_due-requires-clause-due g c =
    subst (λ (d : PlainDecls). IsDueIn d c.args.tree.now.items c.due-2.result.now) (sym c.decls.ensures)
    (subst (λ (places : List PhraseAt). IsDueIn c.args.edit.now.decls c.args.tree.now.items places) (sym c.due-2.ensures)
    (due_in c.args.self.now.verdicts c.args.tree.now c.args.change.now c.args.decls.now c.args.edit.now c.requires.before))

pub returns-in-Ok-check_due-clause-after : goal.returns-in-Ok-check_due-clause-after
returns-in-Ok-check_due-clause-after g c =
    let entries = c.in-Ok-check_due.checked.entries in
    let kept = c.in-Ok-places.gone.keys in
    ap (λ (m : VerdictMap). with_all entries (without_all kept m)) c.reserve.ensures.same
    ∙ prepared_after c.checks_ignore_room_and_elision.ensures.room c.args.self.now.verdicts c.args.tree.now c.args.change.now c.args.decls.now
    c.args.edit.now c.requires.tree c.requires.before entries kept
    (subst (λ (places : List PhraseAt). AreChecked c.args.tree.now.items places entries) c.due-2.ensures c.in-Ok-check_due.ensures.checked)
    (subst (λ (places : List PhraseAt). AreSamePlaces places kept) c.gone.ensures c.in-Ok-places.ensures)
