-- The mark of a variable list is the offence that its procedure's items make of it.
-- Its slot stands once, so that among the verdicts of the program its own is the one that is found; and that looks at
-- these items alone.
use Rattle.std.specs.Prelude.{◌≡◌, refl, ℕ, zero, suc, ◌+◌, ◌<◌, ◌≤◌, ◌==◌, ◌&&◌, nat_eq, Bool, true, false, cond, if◌then◌else◌, List, [], ◌∷◌, ◌++◌, Option, Some, None, is_some, option_map, slice_get, unwrap_or}
use Rattle.std.specs.FinMap.{find, get-from_entries}
use Rattle.std.specs.Option.{option_flatten, option_or}
use Rattle.std.specs.Ordering.{eq_by_cmp}
use Rattle.std.proofs.Common.{ap, sym, ◌∙◌, subst, arith, inl, inr}
use Rattle.std.proofs.lemmas.Bool.{eq-eqb, eqb-false, eqb-true, le-ltb, lt-ltb, ne_eqb}
use Rattle.std.proofs.lemmas.Option.{none-some}
use Rattle.plcs_base.specs.Mark.{phrase_cmp}
use Rattle.plcs_base.specs.declared.mark.MarkKind.{MarkKind}
use Rattle.plcs_grammar.specs.PlainPhrase.{PlainPhrase, PlainVarRef}
use Rattle.plcs_grammar.specs.Template.{row_of}
use Rattle.template_tree.specs.Edits.Edit.{procedure_of}
use Rattle.template_tree.specs.Checks.Environment.{items_inside, procedure_at}
use Rattle.template_tree.specs.Checks.Marks.{VerdictList, Verdicts, node_verdicts, part_verdicts, procedure_verdicts, surroundings}
use Rattle.template_tree.specs.Checks.Mention.{phrase_at}
use Rattle.template_tree.specs.Positions.Place.{PlainPlace, Site, place_at, begin, end_at, in_turn, inner_end, site, site_among}
use Rattle.template_tree.specs.Programs.PlainTree.{Forest, Label, PlainNode, forest, nodes}
use Rattle.template_tree.specs.Programs.Slots.{times}
use Rattle.template_tree.specs.Checks.Verdict.{Surroundings, references_offence, verdict}
use Rattle.tree_steps.specs.ListVerdict.{ListMarksFollowItems}
use Rattle.tree_steps.specs.RunPlace.{is_first_marked}
use Rattle.plcs_base.specs.PlaceOrder.{place_ties, places_total}
use Rattle.tree_steps.proofs.PlaceMarks.{mark_at}
use Rattle.tree_steps.proofs.SitedSlots.{either_found, found_among, site_there}
use Rattle.tree_steps.proofs.StandingSlots.{counted, found_first, found_later, has, one_if, stands_counted}

-- ---- what is found in joined lists

-- the verdict that is found at the first part of a slot
abbrev found_in : ℕ → VerdictList → Option (Option MarkKind)
found_in slot list = find phrase_cmp (phrase_at slot 0) list

none_level : (same : Bool) (own : Option MarkKind) (one joined behind : Option (Option MarkKind)) → cond same (Some own) one ≡ None
    → (one ≡ None → joined ≡ behind) → cond same (Some own) joined ≡ behind
none_level true own one joined behind e later = absurd (none-some own (sym e))
none_level false own one joined behind e later = later e

front_none : (slot : ℕ) (one other : VerdictList) → found_in slot one ≡ None → found_in slot (one ++ other) ≡ found_in slot other
front_none slot [] other e = refl
front_none slot (entry ∷ one) other e =
    none_level (eq_by_cmp phrase_cmp (phrase_at slot 0) entry.0) entry.1 (found_in slot one) (found_in slot (one ++ other)) (found_in slot other) e
    (front_none slot one other)

some_level : (same : Bool) (own there : Option MarkKind) (one joined : Option (Option MarkKind)) → cond same (Some own) one ≡ Some there
    → (one ≡ Some there → joined ≡ Some there) → cond same (Some own) joined ≡ Some there
some_level true own there one joined e later = e
some_level false own there one joined e later = later e

front_some : (slot : ℕ) (one other : VerdictList) (there : Option MarkKind) → found_in slot one ≡ Some there
    → found_in slot (one ++ other) ≡ Some there
front_some slot [] other there e = absurd (none-some there e)
front_some slot (entry ∷ one) other there e =
    some_level (eq_by_cmp phrase_cmp (phrase_at slot 0) entry.0) entry.1 there (found_in slot one) (found_in slot (one ++ other)) e
    (front_some slot one other there)

-- ---- what is found among the parts of a node

other_place : (slot other part : ℕ) → (slot ≡ other → ⊥) → eq_by_cmp phrase_cmp (phrase_at slot 0) (phrase_at other part) ≡ false
other_place slot other part apart =
    sym (place_ties (phrase_at slot 0) (phrase_at other part)) ∙ ap (λ (b : Bool). b && nat_eq 0 part) (ne_eqb slot other apart)

own_place : (slot : ℕ) → eq_by_cmp phrase_cmp (phrase_at slot 0) (phrase_at slot 0) ≡ true
own_place slot =
    sym (place_ties (phrase_at slot 0) (phrase_at slot 0)) ∙ ap (λ (b : Bool). b && true) (eq-eqb slot slot refl)

other_parts : (s : Surroundings) (slot other part : ℕ) (parts : List (Option PlainPhrase)) → (slot ≡ other → ⊥)
    → found_in slot (part_verdicts s other part parts) ≡ None
other_parts s slot other part [] apart = refl
other_parts s slot other part (None ∷ parts) apart = other_parts s slot other (part + 1) parts apart
other_parts s slot other part (Some phrase ∷ parts) apart =
    ap (λ (b : Bool). cond b (Some (verdict s phrase)) (found_in slot (part_verdicts s other (part + 1) parts))) (other_place slot other part apart)
    ∙ other_parts s slot other (part + 1) parts apart

own_parts : (program : Forest) (procedure : PlainNode) (slot own : ℕ) (parts others : List (Option PlainPhrase)) (phrase : PlainPhrase)
    → own ≡ slot → parts ≡ Some phrase ∷ others
    → found_in slot (part_verdicts (surroundings program procedure own) own 0 parts) ≡ Some (verdict (surroundings program procedure slot) phrase)
own_parts program procedure slot own parts others phrase same are =
    ap (λ (n : ℕ). found_in slot (part_verdicts (surroundings program procedure n) n 0 parts)) same
    ∙ (ap (λ (ps : List (Option PlainPhrase)). found_in slot (part_verdicts (surroundings program procedure slot) slot 0 ps)) are
    ∙ ap (λ (b : Bool). cond b (Some (verdict (surroundings program procedure slot) phrase))
    (found_in slot (part_verdicts (surroundings program procedure slot) slot 1 others)))
    (own_place slot))

-- ---- what is found among nodes

absent_nodes : (program : Forest) (procedure : PlainNode) (items : Forest) (slot : ℕ) → times slot items ≡ 0
    → found_in slot (node_verdicts program procedure items) ≡ None
absent_nodes program procedure Forest.nil slot none = refl
absent_nodes program procedure (Forest.cons label inner rest) slot none =
    let apart : (slot ≡ label.slot → ⊥) = λ same. let one = counted label.slot slot (sym same) in omega (arith, none, one) in
    front_none slot (part_verdicts (surroundings program procedure label.slot) label.slot 0 label.parts)
    (node_verdicts program procedure inner ++ node_verdicts program procedure rest)
    (other_parts (surroundings program procedure label.slot) slot label.slot 0 label.parts apart)
    ∙ (front_none slot (node_verdicts program procedure inner) (node_verdicts program procedure rest)
    (absent_nodes program procedure inner slot (omega (arith, none)))
    ∙ absent_nodes program procedure rest slot (omega (arith, none)))

-- the node itself, or what stands inside it or behind it
nodes_level : (same : Bool) (program : Forest) (procedure : PlainNode) (label : Label) (inner rest : Forest) (slot : ℕ) (after : PlainPlace)
    (within behind : Option Site) (found : Site) (phrase : PlainPhrase) (others : List (Option PlainPhrase))
    → times slot (Forest.cons label inner rest) ≤ 1 → (label.slot == slot) ≡ same → found.label.parts ≡ Some phrase ∷ others
    → (within ≡ Some found → found_in slot (node_verdicts program procedure inner) ≡ Some (verdict (surroundings program procedure slot) phrase))
    → (behind ≡ Some found
    → (1 ≤ times slot rest) × (found_in slot (node_verdicts program procedure rest) ≡ Some (verdict (surroundings program procedure slot) phrase)))
    → (if same then Some (let own : Site = record { label = label; inner = inner; after = after } in own) else option_or within behind) ≡ Some found
    → found_in slot (node_verdicts program procedure (Forest.cons label inner rest)) ≡ Some (verdict (surroundings program procedure slot) phrase)
nodes_level true program procedure label inner rest slot after within behind found phrase others once same parts inside later e =
    let is = ap (site_there found) e in
    front_some slot (part_verdicts (surroundings program procedure label.slot) label.slot 0 label.parts)
    (node_verdicts program procedure inner ++ node_verdicts program procedure rest) (verdict (surroundings program procedure slot) phrase)
    (own_parts program procedure slot label.slot label.parts others phrase (eqb-true label.slot slot same)
    (ap (λ (s : Site). s.label.parts) is ∙ parts))
nodes_level false program procedure label inner rest slot after within behind found phrase others once same parts inside later e =
    let own = part_verdicts (surroundings program procedure label.slot) label.slot 0 label.parts in
    let there = verdict (surroundings program procedure slot) phrase in
    front_none slot own (node_verdicts program procedure inner ++ node_verdicts program procedure rest)
    (other_parts (surroundings program procedure label.slot) slot label.slot 0 label.parts (λ is. eqb-false label.slot slot same (sym is)))
    ∙ elim (either_found within behind found e) as
    (λ _. found_in slot (node_verdicts program procedure inner ++ node_verdicts program procedure rest) ≡ Some there) [
      | inl a ↦ front_some slot (node_verdicts program procedure inner) (node_verdicts program procedure rest) there (inside a)
      | inr b ↦
          (let some : 1 ≤ times slot rest = (later b).0 in
          front_none slot (node_verdicts program procedure inner) (node_verdicts program procedure rest)
          (absent_nodes program procedure inner slot (omega (arith, once, some)))
          ∙ (later b).1)
    ]

found_nodes : (program : Forest) (procedure : PlainNode) (items : Forest) (slot : ℕ) (turn : Bool) (place : PlainPlace) (found : Site)
    (phrase : PlainPhrase) (others : List (Option PlainPhrase))
    → times slot items ≤ 1 → site_among slot turn items place ≡ Some found → found.label.parts ≡ Some phrase ∷ others
    → found_in slot (node_verdicts program procedure items) ≡ Some (verdict (surroundings program procedure slot) phrase)
found_nodes program procedure Forest.nil slot turn place found phrase others once e parts = absurd (none-some found e)
found_nodes program procedure (Forest.cons label inner rest) slot turn place found phrase others once e parts =
    let after : PlainPlace = if turn then begin rest place else place in
    let inner_turn : Bool = in_turn (row_of label.kind).sections in
    let inner_end_at : PlainPlace = end_at label.slot (inner_end label.kind) after in
    nodes_level (label.slot == slot) program procedure label inner rest slot after
    (site_among slot inner_turn inner inner_end_at) (site_among slot turn rest place) found phrase others once refl parts
    (λ a. found_nodes program procedure inner slot inner_turn inner_end_at found phrase others (omega (arith, once)) a parts)
    (λ b.
    let there = found_among [] slot turn rest place found b in (
      stands_counted [] rest slot found.label.kind there.around there.stands,
      found_nodes program procedure rest slot turn place found phrase others (omega (arith, once)) b parts,
    ))
    e

-- ---- what is found among procedures

-- what is there, or else the node
abbrev node_there : PlainNode → Option PlainNode → PlainNode
node_there node None = node
node_there node (Some there) = there

-- a slot in one of the procedures is counted among all
counted_in : (items : Forest) (number : ℕ) (procedure : PlainNode) (slot : ℕ) → slice_get (nodes items) number ≡ Some procedure
    → times slot (forest (procedure ∷ [])) ≤ times slot items
counted_in Forest.nil number procedure slot e = absurd (none-some procedure e)
counted_in (Forest.cons label inner rest) zero procedure slot e =
    let same : record { label = label; inner = inner } ≡ procedure = ap (node_there procedure) e in
    subst (λ (p : PlainNode). times slot (forest (p ∷ [])) ≤ times slot (Forest.cons label inner rest)) same (omega arith)
counted_in (Forest.cons label inner rest) (suc number) procedure slot e =
    let less = counted_in rest number procedure slot e in
    omega (arith, less)

found_procedures : (program items : Forest) (number : ℕ) (procedure : PlainNode) (slot : ℕ) (found : Site) (phrase : PlainPhrase)
    (others : List (Option PlainPhrase))
    → times slot items ≤ 1 → slice_get (nodes items) number ≡ Some procedure → site (forest (procedure ∷ [])) slot ≡ Some found
    → found.label.parts ≡ Some phrase ∷ others
    → found_in slot (procedure_verdicts program items) ≡ Some (verdict (surroundings program procedure slot) phrase)
found_procedures program Forest.nil number procedure slot found phrase others once e here parts = absurd (none-some procedure e)
found_procedures program (Forest.cons label inner rest) zero procedure slot found phrase others once e here parts =
    let node : PlainNode = record { label = label; inner = inner } in
    let same : node ≡ procedure = ap (node_there procedure) e in
    let few : times slot (forest (procedure ∷ [])) ≤ times slot (Forest.cons label inner rest) =
    counted_in (Forest.cons label inner rest) zero procedure slot e in
    front_some slot (node_verdicts program node (forest (node ∷ []))) (procedure_verdicts program rest)
    (verdict (surroundings program procedure slot) phrase)
    (ap (λ (p : PlainNode). found_in slot (node_verdicts program p (forest (p ∷ [])))) same
    ∙ found_nodes program procedure (forest (procedure ∷ [])) slot false (place_at 0 1) found phrase others (omega (arith, few, once)) here parts)
found_procedures program (Forest.cons label inner rest) (suc number) procedure slot found phrase others once e here parts =
    let node : PlainNode = record { label = label; inner = inner } in
    let there = found_among [] slot false (forest (procedure ∷ [])) (place_at 0 1) found here in
    let some : 1 ≤ times slot (forest (procedure ∷ [])) =
    stands_counted [] (forest (procedure ∷ [])) slot found.label.kind there.around there.stands in
    let few : times slot (forest (procedure ∷ [])) ≤ times slot rest = counted_in rest number procedure slot e in
    front_none slot (node_verdicts program node (forest (node ∷ []))) (procedure_verdicts program rest)
    (absent_nodes program node (forest (node ∷ [])) slot (omega (arith, some, few, once)))
    ∙ found_procedures program rest number procedure slot found phrase others (omega (arith, once)) e here parts

-- ---- the procedure of a slot

-- what a slot's procedure is: which of the program's, by number and by slot, with the slot's site in it
record InProcedure (items : Forest) (slot procedure : ℕ) (found : Site) : Type 0 where
  number : ℕ
  node : PlainNode
  there : slice_get (nodes items) number ≡ Some node
  held : site (forest (node ∷ [])) slot ≡ Some found
  named : procedure_at items procedure ≡ Some node

absent_level : (items : Forest) (slot : ℕ) (found : Option Site) → site items slot ≡ found → times slot items ≡ 0 → found ≡ None
absent_level items slot None e none = refl
absent_level items slot (Some found) e none =
    let there = found_among [] slot false items (place_at 0 1) found e in
    let some : 1 ≤ times slot items = stands_counted [] items slot found.label.kind there.around there.stands in
    absurd (omega (arith, none, some))

-- a slot that doesn't stand has no site
absent_site : (items : Forest) (slot : ℕ) → times slot items ≡ 0 → site items slot ≡ None
absent_site items slot none = absent_level items slot (site items slot) refl none

-- what isn't found in an item is found behind it
past_level : (same : Bool) (own : Site) (within behind : Option Site) → (if same then Some own else option_or within None) ≡ None
    → (if same then Some own else option_or within behind) ≡ behind
past_level true own within behind e = absurd (none-some own (sym e))
past_level false own None behind e = refl
past_level false own (Some one) behind e = absurd (none-some one (sym e))

named_level : (same : Bool) (label : Label) (inner rest : Forest) (procedure : ℕ) (node : PlainNode) → (label.slot == procedure) ≡ same
    → (procedure_at rest procedure ≡ Some node → 1 ≤ times procedure rest)
    → (if same then Some (let own : PlainNode = record { label = label; inner = inner } in own) else procedure_at rest procedure) ≡ Some node
    → 1 ≤ times procedure (Forest.cons label inner rest)
named_level true label inner rest procedure node same later e =
    let one : one_if label.slot procedure ≡ 1 = counted label.slot procedure (eqb-true label.slot procedure same) in
    omega (arith, one)
named_level false label inner rest procedure node same later e =
    let some : 1 ≤ times procedure rest = later e in
    omega (arith, some)

-- the slot of a procedure stands
named_counted : (items : Forest) (procedure : ℕ) (node : PlainNode) → procedure_at items procedure ≡ Some node → 1 ≤ times procedure items
named_counted Forest.nil procedure node e = absurd (none-some node e)
named_counted (Forest.cons label inner rest) procedure node e =
    named_level (label.slot == procedure) label inner rest procedure node refl (named_counted rest procedure node) e

named_first : (label : Label) (inner rest : Forest) (procedure : ℕ) → label.slot ≡ procedure
    → procedure_at (Forest.cons label inner rest) procedure ≡ Some (let own : PlainNode = record { label = label; inner = inner } in own)
named_first label inner rest procedure same = rw (eq-eqb label.slot procedure same) refl

named_later : (label : Label) (inner rest : Forest) (procedure : ℕ) → (label.slot ≡ procedure → ⊥)
    → procedure_at (Forest.cons label inner rest) procedure ≡ procedure_at rest procedure
named_later label inner rest procedure apart = rw (ne_eqb label.slot procedure apart) refl

-- the number that is there, or else this one
abbrev number_there : ℕ → Option ℕ → ℕ
number_there n None = n
number_there n (Some there) = there

-- by how often the slot stands in the first of the procedures
procedure_level : (n : ℕ) (label : Label) (inner rest : Forest) (slot procedure : ℕ) (found : Site)
    → n ≡ times slot (forest ((let own : PlainNode = record { label = label; inner = inner } in own) ∷ []))
    → times slot (Forest.cons label inner rest) ≤ 1 → times procedure (Forest.cons label inner rest) ≤ 1
    → procedure_of (Forest.cons label inner rest) slot ≡ Some procedure → site (Forest.cons label inner rest) slot ≡ Some found
    → (procedure_of rest slot ≡ Some procedure → site rest slot ≡ Some found → InProcedure rest slot procedure found)
    → InProcedure (Forest.cons label inner rest) slot procedure found
procedure_level zero label inner rest slot procedure found is once own e here later =
    let item : PlainNode = record { label = label; inner = inner } in
    let none : times slot (forest (item ∷ [])) ≤ 0 = omega (arith, is) in
    let behind : procedure_of rest slot ≡ Some procedure =
    sym (found_later (has slot) item (nodes rest) (le-ltb 0 (times slot (forest (item ∷ []))) none)) ∙ e in
    let past : site (Forest.cons label inner rest) slot ≡ site rest slot =
    past_level (label.slot == slot) (record { label = label; inner = inner; after = place_at 0 1 })
    (site_among slot (in_turn (row_of label.kind).sections) inner (end_at label.slot (inner_end label.kind) (place_at 0 1))) (site rest slot)
    (absent_site (forest (item ∷ [])) slot (omega (arith, is))) in
    let there : InProcedure rest slot procedure found = later behind (sym past ∙ here) in
    let some : 1 ≤ times procedure rest = named_counted rest procedure there.node there.named in
    let apart : (label.slot ≡ procedure → ⊥) =
    λ same. let one : one_if label.slot procedure ≡ 1 = counted label.slot procedure same in omega (arith, own, some, one) in
    record {
      number = suc there.number;
      node = there.node;
      there = there.there;
      held = there.held;
      named = named_later label inner rest procedure apart ∙ there.named;
    }
procedure_level (suc n) label inner rest slot procedure found is once own e here later =
    let item : PlainNode = record { label = label; inner = inner } in
    let some : 0 < times slot (forest (item ∷ [])) = omega (arith, is) in
    let first : Some label.slot ≡ Some procedure =
    sym (found_first (has slot) item (nodes rest) (lt-ltb 0 (times slot (forest (item ∷ []))) some)) ∙ e in
    let behind : site rest slot ≡ None = absent_site rest slot (omega (arith, is, once)) in
    record {
      number = 0;
      node = item;
      there = refl;
      held =
          sym (ap (λ (o : Option Site).
          if label.slot == slot
          then Some (let own : Site = record { label = label; inner = inner; after = place_at 0 1 } in own)
          else option_or (site_among slot (in_turn (row_of label.kind).sections) inner (end_at label.slot (inner_end label.kind) (place_at 0 1))) o)
          behind)
          ∙ here;
      named = named_first label inner rest procedure (ap (number_there label.slot) first);
    }

in_procedure : (items : Forest) (slot procedure : ℕ) (found : Site) → times slot items ≤ 1 → times procedure items ≤ 1
    → procedure_of items slot ≡ Some procedure → site items slot ≡ Some found → InProcedure items slot procedure found
in_procedure Forest.nil slot procedure found once own e here = absurd (none-some procedure e)
in_procedure (Forest.cons label inner rest) slot procedure found once own e here =
    procedure_level (times slot (forest ((let node : PlainNode = record { label = label; inner = inner } in node) ∷ []))) label inner rest slot procedure
    found refl once own e here (in_procedure rest slot procedure found (omega (arith, once)) (omega (arith, own)))

-- ---- the law

marks_by_number : (items : Forest) (number : ℕ) (procedure : PlainNode) (slot : ℕ) (found : Site) (targets : List PlainVarRef) (others : List (Option PlainPhrase))
    → times slot items ≤ 1 → slice_get (nodes items) number ≡ Some procedure
    → site (forest (procedure ∷ [])) slot ≡ Some found → found.label.parts ≡ Some (PlainPhrase.variable_list targets) ∷ others
    → is_first_marked items slot ≡ is_some (references_offence (items_inside procedure.inner) targets)
marks_by_number items number procedure slot found targets others once e here parts =
    ap is_some
    (mark_at (Verdicts items) (phrase_at slot 0)
    ∙ ap option_flatten
    (get-from_entries places_total (procedure_verdicts items items) (phrase_at slot 0)
    ∙ found_procedures items items number procedure slot found (PlainPhrase.variable_list targets) others once e here parts))

pub list_marks_follow_items : ListMarksFollowItems
list_marks_follow_items items slot procedure found targets others once own e here parts =
    let there = in_procedure items slot procedure found once own e here in
    marks_by_number items there.number there.node slot found targets others once there.there there.held parts
    ∙ ap (λ (node : Option PlainNode).
    is_some (references_offence (unwrap_or (option_map (λ (n : PlainNode). items_inside n.inner) node) []) targets))
    (sym there.named)
