-- The phrase at a place among nodes, and the verdict that is found there by it.
use Rattle.std.proofs.Common.{◌≡◌, ℕ, zero, suc, ◌+◌, ◌≤◌, Bool, true, false, cond, List, [], ◌∷◌, ◌++◌, Option, Some, None, option_map, refl, sym, ap, ◌∙◌, append_assoc, arith, eq-eqb, eqb-true, ne_eqb, true≢false}
use Rattle.std.specs.Prelude.{◌==◌, if◌then◌else◌}
use Rattle.std.specs.FinMap.{find}
use Rattle.std.specs.Option.{option_or}
use Rattle.plcs_base.specs.Mark.{phrase_cmp}
use Rattle.plcs_base.specs.declared.mark.MarkKind.{MarkKind}
use Rattle.plcs_base.specs.declared.place.PhraseAt.{PhraseAt}
use Rattle.plcs_grammar.specs.PlainPhrase.{PlainPhrase}
use Rattle.template_tree.specs.Checks.Marks.{VerdictList, node_verdicts, part_verdicts, procedure_verdicts, surroundings}
use Rattle.template_tree.specs.Checks.Verdict.{verdict}
use Rattle.template_tree.specs.Programs.Part.{part_at}
use Rattle.template_tree.specs.Programs.PlainTree.{Forest, Label, PlainNode, forest, join}
use Rattle.template_tree.specs.Programs.Slots.{times}
use Rattle.type_marks.proofs.PlacedVerdicts.{find_both, other_slot, own_part}

-- the phrase at a place, if it stands in a part of a node
abbrev pub own_phrase : PhraseAt → Label → Option PlainPhrase
own_phrase at label = if at.slot.0 == label.slot then part_at label.parts at.part else None

-- the phrase at a place, if it stands in one of the nodes
abbrev pub phrase_in : PhraseAt → Forest → Option PlainPhrase
phrase_in at Forest.nil = None
phrase_in at (Forest.cons label inner rest) =
    option_or (own_phrase at label) (option_or (phrase_in at inner) (phrase_in at rest))

-- ---- one after the other

or_joined : {A : Type 0} (a b c : Option A) → option_or (option_or a b) c ≡ option_or a (option_or b c)
or_joined None b c = refl
or_joined (Some x) b c = refl

map_or : {A B : Type 0} (f : A → B) (a b : Option A) → option_map f (option_or a b) ≡ option_or (option_map f a) (option_map f b)
map_or f None b = refl
map_or f (Some x) b = refl

map_agree : {A B : Type 0} (f g : A → B) (o : Option A) → ((x : A) → o ≡ Some x → f x ≡ g x) → option_map f o ≡ option_map g o
map_agree f g None same = refl
map_agree f g (Some x) same = ap (λ y. Some y) (same x refl)

pub phrase_join : (at : PhraseAt) (one other : Forest) → phrase_in at (join one other) ≡ option_or (phrase_in at one) (phrase_in at other)
phrase_join at Forest.nil other = refl
phrase_join at (Forest.cons label inner rest) other =
    ap (λ (o : Option PlainPhrase). option_or (own_phrase at label) (option_or (phrase_in at inner) o)) (phrase_join at rest other)
    ∙ ap (option_or (own_phrase at label)) (sym (or_joined (phrase_in at inner) (phrase_in at rest) (phrase_in at other)))
    ∙ sym (or_joined (own_phrase at label) (option_or (phrase_in at inner) (phrase_in at rest)) (phrase_in at other))

-- how often a slot counts at a node, by whether it is the node's
abbrev pub one_if : Bool → ℕ
one_if here = cond here 1 0

-- it counts once where it is
pub once_here : (slot n : ℕ) → slot ≡ n → one_if (slot == n) ≡ 1
once_here slot n same = ap one_if (eq-eqb slot n same)

-- a place is found in no other slot
pub own_apart : (at : PhraseAt) (label : Label) → (at.slot.0 ≡ label.slot → ⊥) → own_phrase at label ≡ None
own_apart at label apart = ap (λ (b : Bool). if b then part_at label.parts at.part else None) (ne_eqb at.slot.0 label.slot apart)

pub own_here : (at : PhraseAt) (label : Label) → at.slot.0 ≡ label.slot → own_phrase at label ≡ part_at label.parts at.part
own_here at label same = ap (λ (b : Bool). if b then part_at label.parts at.part else None) (eq-eqb at.slot.0 label.slot same)

-- nothing is found where the slot doesn't stand
pub phrase_absent : (at : PhraseAt) (nodes : Forest) → times at.slot.0 nodes ≡ 0 → phrase_in at nodes ≡ None
phrase_absent at Forest.nil absent = refl
phrase_absent at (Forest.cons label inner rest) absent =
    (λ i.
    option_or (own_apart at label apart i)
    (option_or (phrase_absent at inner (omega (arith, absent)) i) (phrase_absent at rest (omega (arith, absent)) i)))
  where
    apart : at.slot.0 ≡ label.slot → ⊥
    apart e = omega (arith, once_here label.slot at.slot.0 (sym e), absent)

-- so the slot stands where a phrase is found
pub phrase_live : (at : PhraseAt) (nodes : Forest) (phrase : PlainPhrase) → phrase_in at nodes ≡ Some phrase → 1 ≤ times at.slot.0 nodes
phrase_live at nodes phrase is = by (times at.slot.0 nodes) refl
  where
    by : (n : ℕ) → times at.slot.0 nodes ≡ n → 1 ≤ n
    by zero none = let absent = phrase_absent at nodes none in absurd (cc)
    by (suc n) some = omega arith

-- ---- the verdicts of nodes

module _ (program : Forest) (procedure : PlainNode) (at : PhraseAt) where
  own_found : (label : Label)
      → find phrase_cmp at (part_verdicts (surroundings program procedure label.slot) label.slot 0 label.parts)
      ≡ option_map (verdict (surroundings program procedure at.slot.0)) (own_phrase at label)
  own_found label = by (at.slot.0 == label.slot) refl
    where
      by : (b : Bool) → (at.slot.0 == label.slot) ≡ b
          → find phrase_cmp at (part_verdicts (surroundings program procedure label.slot) label.slot 0 label.parts)
          ≡ option_map (verdict (surroundings program procedure at.slot.0)) (if b then part_at label.parts at.part else None)
      by true e =
          let same : at.slot.0 ≡ label.slot = eqb-true at.slot.0 label.slot e in
          own_part (surroundings program procedure label.slot) at label.slot same 0 at.part label.parts (omega arith)
          ∙ ap (λ (slot : ℕ). option_map (verdict (surroundings program procedure slot)) (part_at label.parts at.part)) (sym same)
      by false e =
          other_slot (surroundings program procedure label.slot) at label.slot
          (λ same. true≢false (sym (eq-eqb at.slot.0 label.slot same) ∙ e)) 0 label.parts

  pub nodes_found : (nodes : Forest)
      → find phrase_cmp at (node_verdicts program procedure nodes)
      ≡ option_map (verdict (surroundings program procedure at.slot.0)) (phrase_in at nodes)
  nodes_found Forest.nil = refl
  nodes_found (Forest.cons label inner rest) =
      let own = part_verdicts (surroundings program procedure label.slot) label.slot 0 label.parts in
      let within = node_verdicts program procedure inner in
      let behind = node_verdicts program procedure rest in
      let judge = verdict (surroundings program procedure at.slot.0) in
      find_both at own (within ++ behind)
      ∙ (λ i. option_or (own_found label i) (find phrase_cmp at (within ++ behind)))
      ∙ ap (option_or (option_map judge (own_phrase at label)))
      (find_both at within behind
      ∙ (λ i. option_or (nodes_found inner i) (nodes_found rest i))
      ∙ sym (map_or judge (phrase_in at inner) (phrase_in at rest)))
      ∙ sym (map_or judge (own_phrase at label) (option_or (phrase_in at inner) (phrase_in at rest)))

-- one phrase is found in two procedures, and has one verdict
pub nodes_agree : (one other : Forest) (first second : PlainNode) (at : PhraseAt)
    → phrase_in at (forest (first ∷ [])) ≡ phrase_in at (forest (second ∷ []))
    → ((phrase : PlainPhrase) → phrase_in at (forest (first ∷ [])) ≡ Some phrase
    → verdict (surroundings one first at.slot.0) phrase ≡ verdict (surroundings other second at.slot.0) phrase)
    → find phrase_cmp at (node_verdicts one first (forest (first ∷ [])))
    ≡ find phrase_cmp at (node_verdicts other second (forest (second ∷ [])))
nodes_agree one other first second at found same =
    nodes_found one first at (forest (first ∷ []))
    ∙ map_agree (verdict (surroundings one first at.slot.0)) (verdict (surroundings other second at.slot.0))
    (phrase_in at (forest (first ∷ []))) same
    ∙ ap (option_map (verdict (surroundings other second at.slot.0))) found
    ∙ sym (nodes_found other second at (forest (second ∷ [])))

-- verdicts of main and procedures joined
pub procedures_join : (program : Forest) (one other : Forest)
    → procedure_verdicts program (join one other) ≡ procedure_verdicts program one ++ procedure_verdicts program other
procedures_join program Forest.nil other = refl
procedures_join program (Forest.cons label inner rest) other =
    let item : PlainNode = record { label = label; inner = inner } in
    let own = node_verdicts program item (Forest.cons label inner Forest.nil) in
    ap (λ (vs : VerdictList). own ++ vs) (procedures_join program rest other)
    ∙ sym (append_assoc own (procedure_verdicts program rest) (procedure_verdicts program other))
