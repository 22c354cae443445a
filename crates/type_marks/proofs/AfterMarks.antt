-- The marks of an edited tree: those of phrases that were due are of the verdicts that were made, and all others but
-- those of phrases that went stay.
use Rattle.std.proofs.Common.{◌≡◌, ◌∙◌, Bool, true, false, Option, Some, None, refl, sym, ap}
use Rattle.std.specs.Prelude.{if◌then◌else◌}
use Rattle.std.specs.FinMap.{find, get, get-from_entries}
use Rattle.std.specs.Option.{option_flatten, option_or}
use Rattle.plcs_base.specs.Mark.{phrase_cmp}
use Rattle.plcs_base.specs.PlaceOrder.{places_total}
use Rattle.plcs_base.specs.declared.mark.MarkKind.{MarkKind}
use Rattle.plcs_base.specs.declared.place.PhraseAt.{PhraseAt}
use Rattle.template_tree.specs.Checks.Marks.{VerdictMap, offences}
use Rattle.type_marks.specs.MarkEdit.{PlainMarkEdit, verdicts_after, without_all}
use Rattle.type_marks.specs.Private.CheckedLists.{is_due, verdict_in}
use Rattle.type_marks.proofs.NotedVerdicts.{mark_at}
use Rattle.type_marks.proofs.PreparedMarks.{with_found, without_found}

module _ (edit : PlainMarkEdit) (verdicts : VerdictMap) (at : PhraseAt) where
  -- the mark at a place by what was made of the phrase there, or else what was kept
  mark_after : (made : Option (Option MarkKind)) (gone : Bool) → verdict_in edit.verdicts at ≡ made → is_due at edit.gone ≡ gone
      → get (offences (verdicts_after edit verdicts)) at
      ≡ option_flatten (option_or made (if gone then None else get verdicts at))
  mark_after made gone is went =
      mark_at (verdicts_after edit verdicts) at
      ∙ ap option_flatten
      (with_found edit.verdicts (without_all edit.gone verdicts) at
      ∙ ap (λ (o : Option (Option MarkKind)). option_or o (get (without_all edit.gone verdicts) at))
      (sym (get-from_entries places_total edit.verdicts at) ∙ is)
      ∙ ap (option_or made) (without_found edit.gone verdicts at ∙ ap (λ (b : Bool). if b then None else get verdicts at) went))

  pub marked_due : (verdict : Option MarkKind) → verdict_in edit.verdicts at ≡ Some verdict
      → verdict ≡ get (offences (verdicts_after edit verdicts)) at
  marked_due verdict is = sym (mark_after (Some verdict) (is_due at edit.gone) is refl)

  pub marked_gone : verdict_in edit.verdicts at ≡ None → is_due at edit.gone ≡ true → None ≡ get (offences (verdicts_after edit verdicts)) at
  marked_gone none went = sym (mark_after None true none went)

  pub marked_kept : verdict_in edit.verdicts at ≡ None → is_due at edit.gone ≡ false
      → get (offences verdicts) at ≡ get (offences (verdicts_after edit verdicts)) at
  marked_kept none stays = mark_at verdicts at ∙ sym (mark_after None false none stays)
