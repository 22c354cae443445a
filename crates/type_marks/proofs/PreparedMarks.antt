-- The verdicts with a prepared edit are those of the edited tree: those of phrases that were due were checked, no phrase
-- stands where one went that wasn't due, and all others stay.
use Rattle.std.proofs.Common.{◌≡◌, ℕ, zero, suc, ◌+◌, ◌<◌, ◌≤◌, Bool, true, false, cond, List, [], ◌∷◌, ◌++◌, length, take, Option, Some, None, refl, ap, sym, subst, ◌∙◌, inl, inr, arith, true≢false}
use Rattle.std.specs.Prelude.{◌||◌, Contains, if◌then◌else◌, is_some}
use Rattle.std.specs.FinMap.{find, from_entries, get, get-from_entries, get-insert, get-remove, insert, remove, same_map}
use Rattle.std.specs.List.{list_any}
use Rattle.std.specs.Option.{option_or}
use Rattle.std.specs.Ordering.{eq_by_cmp, is_eq}
use Rattle.std.specs.declared.cmp.Ordering.TheVariants.{Equal}
use Rattle.std.proofs.lemmas.Map.Views.{Contains-from_any, list_any-from_Contains}
use Rattle.plcs_base.specs.Mark.{phrase_cmp}
use Rattle.plcs_base.specs.PlaceOrder.{places_equiv, places_total, same_place}
use Rattle.plcs_base.specs.declared.mark.MarkKind.{MarkKind}
use Rattle.plcs_base.specs.declared.place.PhraseAt.{PhraseAt}
use Rattle.plcs_grammar.specs.PlainPhrase.{PlainPhrase}
use Rattle.template_tree.specs.declared.change.Change.{Change}
use Rattle.template_tree.specs.Checks.Marks.{VerdictList, VerdictMap, Verdicts}
use Rattle.template_tree.specs.Edits.Edit.{Differs}
use Rattle.template_tree.specs.Laws.CheckLaws.{ChecksIgnoreRoom}
use Rattle.template_tree.specs.Programs.PlainTree.{Forest, PlainNode, PlainTree}
use Rattle.template_tree.specs.Programs.Tree.{IsTree}
use Rattle.decl_table.specs.Due.{AreDue, AreGone, IsDue, changed_places}
use Rattle.decl_table.specs.DeclEdit.{PlainDeclEdit}
use Rattle.decl_table.specs.Knowledge.{Knows, Stands}
use Rattle.decl_table.specs.PlainDecls.{PlainDecls}
use Rattle.type_marks.specs.MarkEdit.{AreVerdictsBefore, with_all, without_all}
use Rattle.type_marks.specs.Private.CheckedLists.{AreChecked, AreSamePlaces, IsDueIn, is_due}
use Rattle.type_marks.proofs.DuePhrases.{due_verdict_kept}
use Rattle.type_marks.proofs.GonePhrases.{gone_verdict}
use Rattle.type_marks.proofs.UndueVerdicts.{undue_verdicts_stay}

-- ---- verdicts that come and go in a map

pub with_found : (list : VerdictList) (verdicts : VerdictMap) (at : PhraseAt)
    → get (with_all list verdicts) at ≡ option_or (find phrase_cmp at list) (get verdicts at)
with_found [] verdicts at = refl
with_found (entry ∷ list) verdicts at =
    get-insert places_total (with_all list verdicts) entry.0 entry.1 at
    ∙ by (eq_by_cmp phrase_cmp at entry.0) (with_found list verdicts at)
  where
    by : (b : Bool) → get (with_all list verdicts) at ≡ option_or (find phrase_cmp at list) (get verdicts at)
        → cond b (Some entry.1) (get (with_all list verdicts) at)
        ≡ option_or (cond b (Some entry.1) (find phrase_cmp at list)) (get verdicts at)
    by true again = refl
    by false again = again

pub without_found : (gone : List PhraseAt) (verdicts : VerdictMap) (at : PhraseAt)
    → get (without_all gone verdicts) at ≡ (if is_due at gone then None else get verdicts at)
without_found [] verdicts at = refl
without_found (place ∷ gone) verdicts at =
    get-remove places_total (without_all gone verdicts) place at
    ∙ by (eq_by_cmp phrase_cmp at place) (without_found gone verdicts at)
  where
    by : (b : Bool) → get (without_all gone verdicts) at ≡ (if is_due at gone then None else get verdicts at)
        → cond b None (get (without_all gone verdicts) at) ≡ (if b || is_due at gone then None else get verdicts at)
    by true again = refl
    by false again = again

pub only_equal : (x y : PhraseAt) → phrase_cmp x y ≡ Equal → x ≡ y
only_equal x y is = same_place x y (ap is_eq is)

-- what comes from the end of a list comes before what comes after it
pub with_last : (list : VerdictList) (at : PhraseAt) (verdict : Option MarkKind) (verdicts : VerdictMap)
    → with_all (list ++ ((at, verdict) ∷ [])) verdicts ≡ with_all list (insert verdicts at verdict)
with_last [] at verdict verdicts = refl
with_last (entry ∷ list) at verdict verdicts =
    ap (λ (m : VerdictMap). insert m entry.0 entry.1) (with_last list at verdict verdicts)

-- ---- places that are due, and places that went

pub is_among : (at : PhraseAt) (places : List PhraseAt) → is_due at places ≡ true → Contains places at
is_among at places is = Contains-from_any same_place at places is

pub not_among : (at : PhraseAt) (places : List PhraseAt) → is_due at places ≡ false → Contains places at → ⊥
not_among at places is there = true≢false (sym (list_any-from_Contains places_equiv at places there) ∙ is)

-- ---- the law

module _ (room : ChecksIgnoreRoom) (before after : PlainTree) (change : Change) (tree : IsTree before) (next : IsTree after)
    (differs : Differs before after change) (due gone : List PhraseAt)
    (due_are : AreDue before.items after.items change due) (gone_are : AreGone before.items change gone) where
  prepared_at : (entries : VerdictList) (kept : List PhraseAt) → AreChecked after.items due entries → AreSamePlaces gone kept → (at : PhraseAt)
      → get (with_all entries (without_all kept (Verdicts before.items))) at ≡ get (Verdicts after.items) at
  prepared_at entries kept checked same at =
      with_found entries (without_all kept (Verdicts before.items)) at
      ∙ ap (λ (o : Option (Option MarkKind)). option_or o (get (without_all kept (Verdicts before.items)) at))
      (sym (get-from_entries places_total entries at) ∙ checked at)
      ∙ ap (option_or (if is_due at due then get (Verdicts after.items) at else None))
      (without_found kept (Verdicts before.items) at
      ∙ ap (λ (b : Bool). if b then None else get (Verdicts before.items) at) (same at))
      ∙ by (is_due at due) (is_due at gone) refl refl
    where
      Verdict : Type 0
      Verdict = Option (Option MarkKind)

      filled : (o : Verdict) (other : Verdict) → is_some o ≡ true → option_or o other ≡ o
      filled None other e = absurd (true≢false (sym e))
      filled (Some verdict) other e = refl

      by : (b d : Bool) → is_due at due ≡ b → is_due at gone ≡ d
          → option_or (if b then get (Verdicts after.items) at else None) (if d then None else get (Verdicts before.items) at)
          ≡ get (Verdicts after.items) at
      by true d e f =
          filled (get (Verdicts after.items) at) (if d then None else get (Verdicts before.items) at)
          (due_verdict_kept before.items after.items change at ((due_are.each at).0 (is_among at due e)))
      by false true e f =
          sym
          (gone_verdict before after change at tree next (λ is. not_among at due e ((due_are.each at).1 is)) differs
          ((gone_are.each at).0 (is_among at gone f)))
      by false false e f =
          sym
          (undue_verdicts_stay room before after change at tree next differs (λ is. not_among at due e ((due_are.each at).1 is))
          (λ there. not_among at gone f ((gone_are.each at).1 there)))

  pub prepared : (entries : VerdictList) (kept : List PhraseAt) → AreChecked after.items due entries → AreSamePlaces gone kept
      → with_all entries (without_all kept (Verdicts before.items)) ≡ Verdicts after.items
  prepared entries kept checked same =
      same_map places_total only_equal (with_all entries (without_all kept (Verdicts before.items))) (Verdicts after.items)
      (λ at. prepared_at entries kept checked same at)

-- what a prepared edit of a table promises
pub prepared_after : ChecksIgnoreRoom → (verdicts : VerdictMap) (after : PlainTree) (change : Change) (decls : PlainDecls) (edit : PlainDeclEdit)
    → IsTree after → AreVerdictsBefore verdicts after change decls edit → (entries : VerdictList) (kept : List PhraseAt)
    → AreChecked after.items edit.due entries → AreSamePlaces edit.gone kept
    → with_all entries (without_all kept verdicts) ≡ Verdicts after.items
prepared_after room verdicts after change decls edit next before entries kept checked same =
    ap (λ (m : VerdictMap). with_all entries (without_all kept m)) before.verdicts_are
    ∙ prepared room before.before after change before.table.tree next before.table.differs edit.due edit.gone before.edit_is.due_are
    before.edit_is.gone_are entries kept checked same

pub due_in : (verdicts : VerdictMap) (after : PlainTree) (change : Change) (decls : PlainDecls) (edit : PlainDeclEdit)
    → AreVerdictsBefore verdicts after change decls edit → IsDueIn edit.decls after.items edit.due
due_in verdicts after change decls edit before =
    record {
      filled =
          λ at there.
          due_verdict_kept before.before.items after.items change at ((before.edit_is.due_are.each at).0 there);
      known = λ at procedure phrase there stands. before.edit_is.known at procedure phrase there stands;
    }

-- no verdict is left where none can be taken
pub no_entries : (entries : VerdictList) → (0 < length entries → ⊥) → entries ≡ []
no_entries [] none = refl
no_entries (entry ∷ entries) none = absurd (none (omega arith))
