-- The verdict that is found at a place among those of nodes, and the mark by it.
use Rattle.std.proofs.Common.{◌≡◌, ℕ, ◌+◌, Bool, true, false, cond, List, [], ◌∷◌, ◌++◌, Option, Some, None, refl, sym, ap, subst, ◌∙◌, append_assoc, arith, eq-eqb, eqb-true, ne_eqb, true≢false}
use Rattle.std.specs.Prelude.{◌&&◌, ◌==◌, T, nat_eq}
use Rattle.std.specs.FinMap.{entries, entries_sorted, find, get, get-entries, get-from_entries, is_sorted}
use Rattle.std.specs.FinMap.Entries.{below_all}
use Rattle.std.specs.List.{filter_map}
use Rattle.std.specs.Option.{option_flatten, option_or}
use Rattle.std.specs.Ordering.{eq_by_cmp, is_eq, is_lt}
use Rattle.std.specs.declared.cmp.Ordering.{Ordering}
use Rattle.std.specs.declared.cmp.Ordering.TheVariants.{Less, Equal, Greater}
use Rattle.plcs_base.specs.Mark.{phrase_cmp}
use Rattle.plcs_base.specs.PlaceOrder.{place_ties, places_total, same_place}
use Rattle.plcs_base.specs.declared.mark.MarkKind.{MarkKind}
use Rattle.plcs_base.specs.declared.place.PhraseAt.{PhraseAt}
use Rattle.plcs_grammar.specs.PlainPhrase.{PlainPhrase}
use Rattle.template_tree.specs.Checks.Marks.{Marks, VerdictList, VerdictMap, Verdicts, node_verdicts, offence_at, offences, part_verdicts, procedure_verdicts, surroundings}
use Rattle.template_tree.specs.Checks.Mention.{phrase_at}
use Rattle.template_tree.specs.Checks.Verdict.{Surroundings, verdict}
use Rattle.template_tree.specs.Programs.PlainTree.{Forest, PlainNode, join}
use Rattle.template_tree.specs.Programs.Slots.{times}

-- ---- lists of verdicts

-- what is found in two lists, one behind the other
pub find_both : (at : PhraseAt) (one other : VerdictList)
    → find phrase_cmp at (one ++ other) ≡ option_or (find phrase_cmp at one) (find phrase_cmp at other)
find_both at [] other = refl
find_both at (entry ∷ one) other = by (eq_by_cmp phrase_cmp at entry.0) (find_both at one other)
  where
    by : (here : Bool) → find phrase_cmp at (one ++ other) ≡ option_or (find phrase_cmp at one) (find phrase_cmp at other)
        → cond here (Some entry.1) (find phrase_cmp at (one ++ other))
        ≡ option_or (cond here (Some entry.1) (find phrase_cmp at one)) (find phrase_cmp at other)
    by true is = refl
    by false is = is

-- and so in lists of which as much is found
pub both_found : (at : PhraseAt) (one other two another : VerdictList) → find phrase_cmp at one ≡ find phrase_cmp at two
    → find phrase_cmp at other ≡ find phrase_cmp at another → find phrase_cmp at (one ++ other) ≡ find phrase_cmp at (two ++ another)
both_found at one other two another first second =
    find_both at one other ∙ (λ i. option_or (first i) (second i)) ∙ sym (find_both at two another)

-- a place is found only where slot and part are its own
ties : (at : PhraseAt) (slot part : ℕ)
    → eq_by_cmp phrase_cmp at (phrase_at slot part) ≡ (nat_eq at.slot.0 slot && nat_eq at.part part)
ties at slot part = sym (place_ties at (phrase_at slot part))

-- ---- the parts of a node

-- nothing is found in another slot
pub other_slot : (s : Surroundings) (at : PhraseAt) (slot : ℕ) → (at.slot.0 ≡ slot → ⊥) → (part : ℕ) (parts : List (Option PlainPhrase))
    → find phrase_cmp at (part_verdicts s slot part parts) ≡ None
other_slot s at slot apart part [] = refl
other_slot s at slot apart part (None ∷ parts) = other_slot s at slot apart (part + 1) parts
other_slot s at slot apart part (Some phrase ∷ parts) =
    ap (λ b. cond b (Some (verdict s phrase)) (find phrase_cmp at (part_verdicts s slot (part + 1) parts)))
    (ties at slot part ∙ ap (λ b. b && nat_eq at.part part) (ne_eqb at.slot.0 slot apart))
    ∙ other_slot s at slot apart (part + 1) parts

-- as much is found by the same surroundings, where these are asked
pub parts_alike : (one other : Surroundings) (at : PhraseAt) (slot : ℕ) (parts : List (Option PlainPhrase)) → (slot ≡ at.slot.0 → one ≡ other)
    → find phrase_cmp at (part_verdicts one slot 0 parts) ≡ find phrase_cmp at (part_verdicts other slot 0 parts)
parts_alike one other at slot parts same = by (at.slot.0 == slot) refl
  where
    by : (b : Bool) → (at.slot.0 == slot) ≡ b
        → find phrase_cmp at (part_verdicts one slot 0 parts) ≡ find phrase_cmp at (part_verdicts other slot 0 parts)
    by true e =
        ap (λ (s : Surroundings). find phrase_cmp at (part_verdicts s slot 0 parts)) (same (sym (eqb-true at.slot.0 slot e)))
    by false e =
        let differs : at.slot.0 ≡ slot → ⊥ = (λ equal. true≢false (sym (eq-eqb at.slot.0 slot equal) ∙ e)) in
        other_slot one at slot differs 0 parts ∙ sym (other_slot other at slot differs 0 parts)

-- ---- the nodes of main or a procedure

-- verdicts of nodes joined
pub verdicts_join : (program : Forest) (procedure : PlainNode) (one other : Forest)
    → node_verdicts program procedure (join one other) ≡ node_verdicts program procedure one ++ node_verdicts program procedure other
verdicts_join program procedure Forest.nil other = refl
verdicts_join program procedure (Forest.cons label inner rest) other =
    let own = part_verdicts (surroundings program procedure label.slot) label.slot 0 label.parts in
    let within = node_verdicts program procedure inner in
    let behind = node_verdicts program procedure rest in
    let others = node_verdicts program procedure other in
    ap (λ (vs : VerdictList). own ++ (within ++ vs)) (verdicts_join program procedure rest other)
    ∙ ap (λ (vs : VerdictList). own ++ vs) (sym (append_assoc within behind others))
    ∙ sym (append_assoc own (within ++ behind) others)

-- how often a slot counts at a node, by whether it is the node's
abbrev one_if : Bool → ℕ
one_if here = cond here 1 0

module _ (program : Forest) (procedure : PlainNode) (at : PhraseAt) where
  -- nothing is found where the slot doesn't stand
  pub nowhere : (inner : Forest) → times at.slot.0 inner ≡ 0 → find phrase_cmp at (node_verdicts program procedure inner) ≡ None
  nowhere Forest.nil absent = refl
  nowhere (Forest.cons label inner rest) absent =
      find_both at (part_verdicts (surroundings program procedure label.slot) label.slot 0 label.parts)
      (node_verdicts program procedure inner ++ node_verdicts program procedure rest)
      ∙ ap (λ o. option_or o (find phrase_cmp at (node_verdicts program procedure inner ++ node_verdicts program procedure rest)))
      (other_slot (surroundings program procedure label.slot) at label.slot apart 0 label.parts)
      ∙ find_both at (node_verdicts program procedure inner) (node_verdicts program procedure rest)
      ∙ ap (λ o. option_or o (find phrase_cmp at (node_verdicts program procedure rest))) (nowhere inner (omega (arith, absent)))
      ∙ nowhere rest (omega (arith, absent))
    where
      apart : at.slot.0 ≡ label.slot → ⊥
      apart e =
          let one : one_if (label.slot == at.slot.0) ≡ 1 = ap one_if (eq-eqb label.slot at.slot.0 (sym e)) in
          omega (arith, one, absent)

-- as much is found in the same nodes, where what the slot is checked against is the same
module _ (one other : Forest) (first second : PlainNode) (at : PhraseAt)
    (same : surroundings one first at.slot.0 ≡ surroundings other second at.slot.0) where
  pub own_alike : (slot : ℕ) (parts : List (Option PlainPhrase))
      → find phrase_cmp at (part_verdicts (surroundings one first slot) slot 0 parts)
      ≡ find phrase_cmp at (part_verdicts (surroundings other second slot) slot 0 parts)
  own_alike slot parts =
      parts_alike (surroundings one first slot) (surroundings other second slot) at slot parts
      (λ e. subst (λ (n : ℕ). surroundings one first n ≡ surroundings other second n) (sym e) same)

  pub nodes_alike : (nodes : Forest)
      → find phrase_cmp at (node_verdicts one first nodes) ≡ find phrase_cmp at (node_verdicts other second nodes)
  nodes_alike Forest.nil = refl
  nodes_alike (Forest.cons label inner rest) =
      both_found at (part_verdicts (surroundings one first label.slot) label.slot 0 label.parts)
      (node_verdicts one first inner ++ node_verdicts one first rest)
      (part_verdicts (surroundings other second label.slot) label.slot 0 label.parts)
      (node_verdicts other second inner ++ node_verdicts other second rest) (own_alike label.slot label.parts)
      (both_found at (node_verdicts one first inner) (node_verdicts one first rest) (node_verdicts other second inner)
      (node_verdicts other second rest) (nodes_alike inner) (nodes_alike rest))

-- ---- the marks among verdicts

below_none : (q : PhraseAt) (es : VerdictList) → T (below_all phrase_cmp q es) → find phrase_cmp q es ≡ None
below_none q [] below = refl
below_none q (e ∷ es) below = by (phrase_cmp q e.0) below (below_none q es)
  where
    by : (o : Ordering) → T (is_lt o && below_all phrase_cmp q es) → (T (below_all phrase_cmp q es) → find phrase_cmp q es ≡ None)
        → cond (is_eq o) (Some e.1) (find phrase_cmp q es) ≡ None
    by Less below again = again below
    by Equal below again = absurd below
    by Greater below again = absurd below

-- the mark at a place is the offence of the verdict there
mark_at : (verdicts : VerdictMap) (at : PhraseAt) → get (offences verdicts) at ≡ option_flatten (get verdicts at)
mark_at verdicts at =
    get-from_entries places_total (filter_map offence_at (entries verdicts)) at
    ∙ listed (entries verdicts) (entries_sorted verdicts)
    ∙ ap option_flatten (sym (get-entries verdicts at))
  where
    first : (a b : Bool) → T (a && b) → T a
    first true b p = tt
    first false b p = absurd p

    second : (a b : Bool) → T (a && b) → T b
    second true b p = p
    second false b p = absurd p

    step : (e : PhraseAt × Option MarkKind) (es : VerdictList) → T (below_all phrase_cmp e.0 es)
        → find phrase_cmp at (filter_map offence_at es) ≡ option_flatten (find phrase_cmp at es)
        → find phrase_cmp at (filter_map offence_at (e ∷ es)) ≡ option_flatten (find phrase_cmp at (e ∷ es))
    step (key, None) es below rest = by (eq_by_cmp phrase_cmp at key) refl
      where
        by : (b : Bool) → eq_by_cmp phrase_cmp at key ≡ b
            → find phrase_cmp at (filter_map offence_at es) ≡ option_flatten (cond b (Some None) (find phrase_cmp at es))
        by false other = rest
        by true same =
            rest
            ∙ ap option_flatten (below_none at es (subst (λ k. T (below_all phrase_cmp k es)) (sym (same_place at key same)) below))
    step (key, Some kind) es below rest = by (eq_by_cmp phrase_cmp at key)
      where
        by : (b : Bool)
            → cond b (Some kind) (find phrase_cmp at (filter_map offence_at es)) ≡ option_flatten (cond b (Some (Some kind)) (find phrase_cmp at es))
        by true = refl
        by false = rest

    listed : (es : VerdictList) → T (is_sorted phrase_cmp es) → find phrase_cmp at (filter_map offence_at es) ≡ option_flatten (find phrase_cmp at es)
    listed [] sorted = refl
    listed (e ∷ es) sorted =
        step e es (first (below_all phrase_cmp e.0 es) (is_sorted phrase_cmp es) sorted)
        (listed es (second (below_all phrase_cmp e.0 es) (is_sorted phrase_cmp es) sorted))

-- where as much is found among the verdicts of two programs, they have the same mark there
pub same_mark : (one other : Forest) (at : PhraseAt)
    → find phrase_cmp at (procedure_verdicts one one) ≡ find phrase_cmp at (procedure_verdicts other other)
    → get (Marks one) at ≡ get (Marks other) at
same_mark one other at same =
    mark_at (Verdicts one) at
    ∙ ap option_flatten
    (get-from_entries places_total (procedure_verdicts one one) at ∙ same
    ∙ sym (get-from_entries places_total (procedure_verdicts other other) at))
    ∙ sym (mark_at (Verdicts other) at)
