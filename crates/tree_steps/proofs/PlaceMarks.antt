-- The mark at a place among verdicts.
-- Offences stand in the order of verdicts, so that what is found among them is the offence of what is found.
use Rattle.std.proofs.Common.{◌≡◌, Bool, true, false, [], ◌∷◌, Option, Some, None, sym, ap, subst, ◌∙◌, refl}
use Rattle.std.specs.Prelude.{◌&&◌, T, cond}
use Rattle.std.specs.FinMap.{entries, entries_sorted, find, get, get-entries, get-from_entries, is_sorted}
use Rattle.std.specs.FinMap.Entries.{below_all}
use Rattle.std.specs.List.{filter_map}
use Rattle.std.specs.Option.{option_flatten}
use Rattle.std.specs.Ordering.{eq_by_cmp, is_eq, is_lt}
use Rattle.std.specs.declared.cmp.Ordering.{Ordering}
use Rattle.std.specs.declared.cmp.Ordering.TheVariants.{Less, Equal, Greater}
use Rattle.plcs_base.specs.Mark.{phrase_cmp}
use Rattle.plcs_base.specs.PlaceOrder.{places_total, same_place}
use Rattle.plcs_base.specs.declared.mark.MarkKind.{MarkKind}
use Rattle.plcs_base.specs.declared.place.PhraseAt.{PhraseAt}
use Rattle.template_tree.specs.Checks.Marks.{VerdictList, VerdictMap, offence_at, offences}

below_none : (q : PhraseAt) (es : VerdictList) → T (below_all phrase_cmp q es) → find phrase_cmp q es ≡ None
below_none q [] below = refl
below_none q (e ∷ es) below = by (phrase_cmp q e.0) below (below_none q es)
  where
    by : (o : Ordering) → T (is_lt o && below_all phrase_cmp q es) → (T (below_all phrase_cmp q es) → find phrase_cmp q es ≡ None)
        → cond (is_eq o) (Some e.1) (find phrase_cmp q es) ≡ None
    by Less below again = again below
    by Equal below again = absurd below
    by Greater below again = absurd below

-- the mark at a place is the offence of the verdict there
pub mark_at : (verdicts : VerdictMap) (at : PhraseAt) → get (offences verdicts) at ≡ option_flatten (get verdicts at)
mark_at verdicts at =
    get-from_entries places_total (filter_map offence_at (entries verdicts)) at
    ∙ listed (entries verdicts) (entries_sorted verdicts)
    ∙ ap option_flatten (sym (get-entries verdicts at))
  where
    first : (a b : Bool) → T (a && b) → T a
    first true b p = tt
    first false b p = absurd p

    second : (a b : Bool) → T (a && b) → T b
    second true b p = p
    second false b p = absurd p

    step : (e : PhraseAt × Option MarkKind) (es : VerdictList) → T (below_all phrase_cmp e.0 es)
        → find phrase_cmp at (filter_map offence_at es) ≡ option_flatten (find phrase_cmp at es)
        → find phrase_cmp at (filter_map offence_at (e ∷ es)) ≡ option_flatten (find phrase_cmp at (e ∷ es))
    step (key, None) es below rest = by (eq_by_cmp phrase_cmp at key) refl
      where
        by : (b : Bool) → eq_by_cmp phrase_cmp at key ≡ b
            → find phrase_cmp at (filter_map offence_at es) ≡ option_flatten (cond b (Some None) (find phrase_cmp at es))
        by false other = rest
        by true same =
            rest
            ∙ ap option_flatten (below_none at es (subst (λ k. T (below_all phrase_cmp k es)) (sym (same_place at key same)) below))
    step (key, Some kind) es below rest = by (eq_by_cmp phrase_cmp at key)
      where
        by : (b : Bool)
            → cond b (Some kind) (find phrase_cmp at (filter_map offence_at es)) ≡ option_flatten (cond b (Some (Some kind)) (find phrase_cmp at es))
        by true = refl
        by false = rest

    listed : (es : VerdictList) → T (is_sorted phrase_cmp es) → find phrase_cmp at (filter_map offence_at es) ≡ option_flatten (find phrase_cmp at es)
    listed [] sorted = refl
    listed (e ∷ es) sorted =
        step e es (first (below_all phrase_cmp e.0 es) (is_sorted phrase_cmp es) sorted)
        (listed es (second (below_all phrase_cmp e.0 es) (is_sorted phrase_cmp es) sorted))
