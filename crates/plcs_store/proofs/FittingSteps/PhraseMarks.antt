-- The mark of a phrase is the offence that its verdict tells, by the items of the procedure in which its node stands.
-- Its slot stands once, so that among the verdicts of the program its own is the one that is found.
use Rattle.std.specs.Prelude.{◌≡◌, refl, ℕ, zero, suc, ◌+◌, ◌≤◌, ◌⊎◌, ◌==◌, ◌&&◌, nat_eq, nat_lt, T, Bool, true, false, cond, if◌then◌else◌, List, [], ◌∷◌, ◌++◌, Option, Some, None}
use Rattle.std.specs.Cmp.{IsTotalOrder}
use Rattle.std.specs.FinMap.{entries, entries_sorted, find, get, get-entries, get-from_entries, is_sorted, nat_cmp-IsAntisymmetric}
use Rattle.std.specs.FinMap.Entries.{below_all}
use Rattle.std.specs.List.{filter_map}
use Rattle.std.specs.Option.{option_flatten, option_or}
use Rattle.std.specs.Ordering.{eq_by_cmp, is_eq, is_lt, nat_cmp, ordering_then}
use Rattle.std.specs.declared.cmp.Ordering.{Ordering}
use Rattle.std.specs.declared.cmp.Ordering.TheVariants.{Less, Equal, Greater}
use Rattle.std.proofs.Common.{ap, sym, ◌∙◌, subst, arith, inl, inr}
use Rattle.std.proofs.lemmas.Bool.{eq-eqb, eqb-true, ne_eqb}
use Rattle.std.proofs.lemmas.Bool.Decides.{nat_tests}
use Rattle.std.proofs.lemmas.Cmp.{nat_cmp_total, on_total, then_total}
use Rattle.std.proofs.lemmas.Option.{none-some}
use Rattle.plcs_base.specs.Mark.{phrase_cmp}
use Rattle.plcs_base.specs.declared.mark.MarkKind.{MarkKind}
use Rattle.plcs_base.specs.declared.place.PhraseAt.{PhraseAt}
use Rattle.plcs_grammar.specs.declared.node_kind.NodeKind.{NodeKind}
use Rattle.plcs_grammar.specs.PlainPhrase.{PlainPhrase}
use Rattle.plcs_grammar.specs.Template.{row_of}
use Rattle.template_tree.specs.Checks.Environment.{procedure_at}
use Rattle.template_tree.specs.Checks.Marks.{Marks, VerdictList, VerdictMap, Verdicts, node_verdicts, offence_at, offences, part_verdicts, procedure_verdicts, surroundings}
use Rattle.template_tree.specs.Checks.Mention.{phrase_at}
use Rattle.template_tree.specs.Programs.Part.{part_at}
use Rattle.template_tree.specs.Positions.Place.{PlainPlace, Site, begin, end_at, in_turn, inner_end, site_among}
use Rattle.template_tree.specs.Programs.PlainTree.{Forest, Label, PlainNode}
use Rattle.template_tree.specs.Programs.Program.{AreNodes, IsNode, sorts}
use Rattle.template_tree.specs.Programs.Slots.{times}
use Rattle.template_tree.specs.Checks.Verdict.{Surroundings, verdict}
use Rattle.tree_steps.specs.StandingSlot.{Around, StandsBelow, StandsInside, outermost_slot}

-- ---- nodes that stand somewhere

-- a node with the label, with these nodes inside it, is one of the nodes, or stands inside one
abbrev pub HasNode : Forest → Label → Forest → Type 0
HasNode Forest.nil own within = ⊥
HasNode (Forest.cons label inner rest) own within =
    ((label ≡ own) × (inner ≡ within)) ⊎ (HasNode inner own within ⊎ HasNode rest own within)

abbrev one_if : ℕ → ℕ → ℕ
one_if own slot = if own == slot then 1 else 0

counted : (own slot : ℕ) → own ≡ slot → one_if own slot ≡ 1
counted own slot same = ap (λ (b : Bool). if b then 1 else 0) (eq-eqb own slot same)

pub node_counted : (items : Forest) (own : Label) (within : Forest) → HasNode items own within → 1 ≤ times own.slot items
node_counted Forest.nil own within has = absurd has
node_counted (Forest.cons label inner rest) own within (inl is) =
    let one = counted label.slot own.slot (ap (λ (l : Label). l.slot) is.0) in omega (arith, one)
node_counted (Forest.cons label inner rest) own within (inr (inl has)) =
    let some = node_counted inner own within has in omega (arith, some)
node_counted (Forest.cons label inner rest) own within (inr (inr has)) =
    let some = node_counted rest own within has in omega (arith, some)

-- a node of a program is what its row asks for
pub node_sound : (items : Forest) (own : Label) (within : Forest) → HasNode items own within → AreNodes items → IsNode own (sorts within)
node_sound Forest.nil own within has are = absurd has
node_sound (Forest.cons label inner rest) own within (inl is) are =
    subst (λ (l : Label). IsNode l (sorts within)) is.0 (subst (λ (f : Forest). IsNode label (sorts f)) is.1 are.0)
node_sound (Forest.cons label inner rest) own within (inr (inl has)) are = node_sound inner own within has are.1
node_sound (Forest.cons label inner rest) own within (inr (inr has)) are = node_sound rest own within has are.2

abbrev site_or : Site → Option Site → Site
site_or other None = other
site_or other (Some found) = found

-- what a site is of stands there
site_level : (same : Bool) (label : Label) (inner rest : Forest) (after : PlainPlace) (within behind : Option Site) (slot : ℕ) (found : Site)
    → (label.slot == slot) ≡ same
    → (within ≡ Some found → HasNode inner found.label found.inner × (found.label.slot ≡ slot))
    → (behind ≡ Some found → HasNode rest found.label found.inner × (found.label.slot ≡ slot))
    → (if same then Some (let own : Site = record { label = label; inner = inner; after = after } in own) else option_or within behind) ≡ Some found
    → HasNode (Forest.cons label inner rest) found.label found.inner × (found.label.slot ≡ slot)
site_level true label inner rest after within behind slot found same inside later e =
    let is = ap (site_or found) e in (
      inl (ap (λ (s : Site). s.label) is, ap (λ (s : Site). s.inner) is),
      ap (λ (s : Site). s.label.slot) (sym is) ∙ eqb-true label.slot slot same,
    )
site_level false label inner rest after None behind slot found same inside later e =
    let there = later e in (inr (inr there.0), there.1)
site_level false label inner rest after (Some one) behind slot found same inside later e =
    let there = inside e in (inr (inl there.0), there.1)

pub site_node : (items : Forest) (slot : ℕ) (turn : Bool) (place : PlainPlace) (found : Site) → site_among slot turn items place ≡ Some found
    → HasNode items found.label found.inner × (found.label.slot ≡ slot)
site_node Forest.nil slot turn place found e = absurd (none-some found e)
site_node (Forest.cons label inner rest) slot turn place found e =
    let after : PlainPlace = if turn then begin rest place else place in
    let inner_turn : Bool = in_turn (row_of label.kind).sections in
    let inner_place : PlainPlace = end_at label.slot (inner_end label.kind) after in
    site_level (label.slot == slot) label inner rest after (site_among slot inner_turn inner inner_place) (site_among slot turn rest place) slot found refl
    (site_node inner slot inner_turn inner_place found) (site_node rest slot turn place found) e

-- a node stands in its slot, below the nodes above, in the procedure that encloses these
abbrev Stands : (procedure : ℕ) → Around → Forest → Label → Type 0
Stands procedure above items own = (around : Around) × StandsBelow above items own.slot own.kind around × (outermost_slot own.slot around ≡ procedure)

node_stands : (outer : ℕ × NodeKind) (above : Around) (items : Forest) (own : Label) (within : Forest) → HasNode items own within
    → Stands (outermost_slot outer.0 above) (outer ∷ above) items own
node_stands outer above Forest.nil own within has = absurd has
node_stands outer above (Forest.cons label inner rest) own within (inl is) =
    (outer ∷ above, inl (ap (λ (l : Label). l.slot) is.0, ap (λ (l : Label). l.kind) is.0, refl), refl)
node_stands outer above (Forest.cons label inner rest) own within (inr (inl has)) =
    let (around, stands, same) = node_stands (label.slot, label.kind) (outer ∷ above) inner own within has in (around, inr (inl stands), same)
node_stands outer above (Forest.cons label inner rest) own within (inr (inr has)) =
    let (around, stands, same) = node_stands outer above rest own within has in (around, inr (inr stands), same)

-- ---- the order of places

places_total : IsTotalOrder phrase_cmp
places_total = then_total (on_total (λ (at : PhraseAt). at.slot.0) nat_cmp_total) (on_total (λ (at : PhraseAt). at.part) nat_cmp_total)

same_place : (x y : PhraseAt) → eq_by_cmp phrase_cmp x y ≡ true → x ≡ y
same_place x y same = by (nat_cmp x.slot.0 y.slot.0) (nat_cmp x.part y.part) refl refl same
  where
    by : (a b : Ordering) → nat_cmp x.slot.0 y.slot.0 ≡ a → nat_cmp x.part y.part ≡ b → is_eq (ordering_then a b) ≡ true → x ≡ y
    by Equal Equal e f same =
        λ i. record { slot = record { 0 = nat_cmp-IsAntisymmetric x.slot.0 y.slot.0 e i }; part = nat_cmp-IsAntisymmetric x.part y.part f i }
    by Less b e f same = absurd (cc)
    by Greater b e f same = absurd (cc)
    by Equal Less e f same = absurd (cc)
    by Equal Greater e f same = absurd (cc)

nat_ties : (m n : ℕ) → nat_eq m n ≡ is_eq (nat_cmp m n)
nat_ties m n = by (nat_lt m n) (nat_eq m n) refl refl
  where
    by : (less same : Bool) → nat_lt m n ≡ less → nat_eq m n ≡ same → same ≡ is_eq (cond less Less (cond same Equal Greater))
    by true true e f = absurd (grind (arith, nat_tests))
    by true false e f = refl
    by false true e f = refl
    by false false e f = refl

-- the test of places is that of their slots and parts
place_ties : (x y : PhraseAt) → (nat_eq x.slot.0 y.slot.0 && nat_eq x.part y.part) ≡ eq_by_cmp phrase_cmp x y
place_ties x y =
    ap (λ (b : Bool). b && nat_eq x.part y.part) (nat_ties x.slot.0 y.slot.0)
    ∙ ap (λ (b : Bool). is_eq (nat_cmp x.slot.0 y.slot.0) && b) (nat_ties x.part y.part)
    ∙ by (nat_cmp x.slot.0 y.slot.0) (nat_cmp x.part y.part)
  where
    by : (a b : Ordering) → (is_eq a && is_eq b) ≡ is_eq (ordering_then a b)
    by Less b = refl
    by Equal b = refl
    by Greater b = refl

same_slots : (slot part other number : ℕ) → eq_by_cmp phrase_cmp (phrase_at slot part) (phrase_at other number) ≡ (nat_eq slot other && nat_eq part number)
same_slots slot part other number = sym (place_ties (phrase_at slot part) (phrase_at other number))

-- ---- the marks among verdicts

below_none : (q : PhraseAt) (es : VerdictList) → T (below_all phrase_cmp q es) → find phrase_cmp q es ≡ None
below_none q [] below = refl
below_none q (e ∷ es) below = by (phrase_cmp q e.0) below (below_none q es)
  where
    by : (o : Ordering) → T (is_lt o && below_all phrase_cmp q es) → (T (below_all phrase_cmp q es) → find phrase_cmp q es ≡ None)
        → cond (is_eq o) (Some e.1) (find phrase_cmp q es) ≡ None
    by Less below again = again below
    by Equal below again = absurd below
    by Greater below again = absurd below

-- the mark at a place is the offence of the verdict there
mark_at : (verdicts : VerdictMap) (at : PhraseAt) → get (offences verdicts) at ≡ option_flatten (get verdicts at)
mark_at verdicts at =
    get-from_entries places_total (filter_map offence_at (entries verdicts)) at
    ∙ listed (entries verdicts) (entries_sorted verdicts)
    ∙ ap option_flatten (sym (get-entries verdicts at))
  where
    first : (a b : Bool) → T (a && b) → T a
    first true b p = tt
    first false b p = absurd p

    second : (a b : Bool) → T (a && b) → T b
    second true b p = p
    second false b p = absurd p

    step : (e : PhraseAt × Option MarkKind) (es : VerdictList) → T (below_all phrase_cmp e.0 es)
        → find phrase_cmp at (filter_map offence_at es) ≡ option_flatten (find phrase_cmp at es)
        → find phrase_cmp at (filter_map offence_at (e ∷ es)) ≡ option_flatten (find phrase_cmp at (e ∷ es))
    step (key, None) es below rest = by (eq_by_cmp phrase_cmp at key) refl
      where
        by : (b : Bool) → eq_by_cmp phrase_cmp at key ≡ b
            → find phrase_cmp at (filter_map offence_at es) ≡ option_flatten (cond b (Some None) (find phrase_cmp at es))
        by false other = rest
        by true same =
            rest
            ∙ ap option_flatten (below_none at es (subst (λ k. T (below_all phrase_cmp k es)) (sym (same_place at key same)) below))
    step (key, Some kind) es below rest = by (eq_by_cmp phrase_cmp at key)
      where
        by : (b : Bool)
            → cond b (Some kind) (find phrase_cmp at (filter_map offence_at es)) ≡ option_flatten (cond b (Some (Some kind)) (find phrase_cmp at es))
        by true = refl
        by false = rest

    listed : (es : VerdictList) → T (is_sorted phrase_cmp es) → find phrase_cmp at (filter_map offence_at es) ≡ option_flatten (find phrase_cmp at es)
    listed [] sorted = refl
    listed (e ∷ es) sorted =
        step e es (first (below_all phrase_cmp e.0 es) (is_sorted phrase_cmp es) sorted)
        (listed es (second (below_all phrase_cmp e.0 es) (is_sorted phrase_cmp es) sorted))

-- ---- what is found in joined lists

-- the verdict that is found at a part of a slot
abbrev found_in : (slot part : ℕ) → VerdictList → Option (Option MarkKind)
found_in slot part list = find phrase_cmp (phrase_at slot part) list

none_level : (same : Bool) (own : Option MarkKind) (one joined behind : Option (Option MarkKind)) → cond same (Some own) one ≡ None
    → (one ≡ None → joined ≡ behind) → cond same (Some own) joined ≡ behind
none_level true own one joined behind e later = absurd (none-some own (sym e))
none_level false own one joined behind e later = later e

front_none : (slot part : ℕ) (one other : VerdictList) → found_in slot part one ≡ None → found_in slot part (one ++ other) ≡ found_in slot part other
front_none slot part [] other e = refl
front_none slot part (entry ∷ one) other e =
    none_level (eq_by_cmp phrase_cmp (phrase_at slot part) entry.0) entry.1 (found_in slot part one) (found_in slot part (one ++ other))
    (found_in slot part other) e (front_none slot part one other)

some_level : (same : Bool) (own there : Option MarkKind) (one joined : Option (Option MarkKind)) → cond same (Some own) one ≡ Some there
    → (one ≡ Some there → joined ≡ Some there) → cond same (Some own) joined ≡ Some there
some_level true own there one joined e later = e
some_level false own there one joined e later = later e

front_some : (slot part : ℕ) (one other : VerdictList) (there : Option MarkKind) → found_in slot part one ≡ Some there
    → found_in slot part (one ++ other) ≡ Some there
front_some slot part [] other there e = absurd (none-some there e)
front_some slot part (entry ∷ one) other there e =
    some_level (eq_by_cmp phrase_cmp (phrase_at slot part) entry.0) entry.1 there (found_in slot part one) (found_in slot part (one ++ other)) e
    (front_some slot part one other there)

-- ---- what is found among the parts of a node

other_parts : (s : Surroundings) (slot part other number : ℕ) (parts : List (Option PlainPhrase)) → (slot ≡ other → ⊥)
    → found_in slot part (part_verdicts s other number parts) ≡ None
other_parts s slot part other number [] apart = refl
other_parts s slot part other number (None ∷ parts) apart = other_parts s slot part other (number + 1) parts apart
other_parts s slot part other number (Some phrase ∷ parts) apart =
    ap (λ (b : Bool). cond b (Some (verdict s phrase)) (found_in slot part (part_verdicts s other (number + 1) parts)))
    (same_slots slot part other number ∙ ap (λ (b : Bool). b && nat_eq part number) (ne_eqb slot other apart))
    ∙ other_parts s slot part other (number + 1) parts apart

-- a place of the same slot, by its part
own_place : (slot part number : ℕ) (same : Bool) → nat_eq part number ≡ same
    → eq_by_cmp phrase_cmp (phrase_at slot part) (phrase_at slot number) ≡ same
own_place slot part number same e =
    same_slots slot part slot number ∙ (ap (λ (b : Bool). b && nat_eq part number) (eq-eqb slot slot refl) ∙ e)

abbrev phrase_or : PlainPhrase → Option PlainPhrase → PlainPhrase
phrase_or other None = other
phrase_or other (Some there) = there

own_parts : (s : Surroundings) (slot first k : ℕ) (parts : List (Option PlainPhrase)) (phrase : PlainPhrase) → part_at parts k ≡ Some phrase
    → found_in slot (first + k) (part_verdicts s slot first parts) ≡ Some (verdict s phrase)
own_parts s slot first k [] phrase e = absurd (none-some phrase e)
own_parts s slot first zero (None ∷ parts) phrase e = absurd (none-some phrase e)
own_parts s slot first zero (Some one ∷ parts) phrase e =
    ap (λ (b : Bool). cond b (Some (verdict s one)) (found_in slot (first + 0) (part_verdicts s slot (first + 1) parts)))
    (own_place slot (first + 0) first true (eq-eqb (first + 0) first (omega arith)))
    ∙ ap (λ (o : Option PlainPhrase). Some (verdict s (phrase_or one o))) e
own_parts s slot first (suc k) (None ∷ parts) phrase e =
    ap (λ (n : ℕ). found_in slot n (part_verdicts s slot (first + 1) parts)) (omega arith) ∙ own_parts s slot (first + 1) k parts phrase e
own_parts s slot first (suc k) (Some one ∷ parts) phrase e =
    ap (λ (b : Bool). cond b (Some (verdict s one)) (found_in slot (first + suc k) (part_verdicts s slot (first + 1) parts)))
    (own_place slot (first + suc k) first false (ne_eqb (first + suc k) first (λ same. omega (arith, same))))
    ∙ (ap (λ (n : ℕ). found_in slot n (part_verdicts s slot (first + 1) parts)) (omega arith) ∙ own_parts s slot (first + 1) k parts phrase e)

-- ---- what is found among nodes

absent_nodes : (program : Forest) (procedure : PlainNode) (items : Forest) (slot part : ℕ) → times slot items ≡ 0
    → found_in slot part (node_verdicts program procedure items) ≡ None
absent_nodes program procedure Forest.nil slot part none = refl
absent_nodes program procedure (Forest.cons label inner rest) slot part none =
    let apart : (slot ≡ label.slot → ⊥) = λ same. let one = counted label.slot slot (sym same) in omega (arith, none, one) in
    front_none slot part (part_verdicts (surroundings program procedure label.slot) label.slot 0 label.parts)
    (node_verdicts program procedure inner ++ node_verdicts program procedure rest)
    (other_parts (surroundings program procedure label.slot) slot part label.slot 0 label.parts apart)
    ∙ (front_none slot part (node_verdicts program procedure inner) (node_verdicts program procedure rest)
    (absent_nodes program procedure inner slot part (omega (arith, none)))
    ∙ absent_nodes program procedure rest slot part (omega (arith, none)))

found_nodes : (program : Forest) (procedure : PlainNode) (items : Forest) (own : Label) (within : Forest) (part : ℕ) (phrase : PlainPhrase)
    → times own.slot items ≤ 1 → HasNode items own within → part_at own.parts part ≡ Some phrase
    → found_in own.slot part (node_verdicts program procedure items) ≡ Some (verdict (surroundings program procedure own.slot) phrase)
found_nodes program procedure Forest.nil own within part phrase once has e = absurd has
found_nodes program procedure (Forest.cons label inner rest) own within part phrase once (inl is) e =
    let s : Label → Surroundings = λ l. surroundings program procedure l.slot in
    front_some own.slot part (part_verdicts (s label) label.slot 0 label.parts)
    (node_verdicts program procedure inner ++ node_verdicts program procedure rest) (verdict (s own) phrase)
    (ap (λ (l : Label). found_in own.slot part (part_verdicts (s l) l.slot 0 l.parts)) is.0
    ∙ (ap (λ (n : ℕ). found_in own.slot n (part_verdicts (s own) own.slot 0 own.parts)) (omega arith)
    ∙ own_parts (s own) own.slot 0 part own.parts phrase e))
found_nodes program procedure (Forest.cons label inner rest) own within part phrase once (inr (inl has)) e =
    let some = node_counted inner own within has in
    let apart : (own.slot ≡ label.slot → ⊥) = λ same. let one = counted label.slot own.slot (sym same) in omega (arith, once, one, some) in
    front_none own.slot part (part_verdicts (surroundings program procedure label.slot) label.slot 0 label.parts)
    (node_verdicts program procedure inner ++ node_verdicts program procedure rest)
    (other_parts (surroundings program procedure label.slot) own.slot part label.slot 0 label.parts apart)
    ∙ front_some own.slot part (node_verdicts program procedure inner) (node_verdicts program procedure rest)
    (verdict (surroundings program procedure own.slot) phrase)
    (found_nodes program procedure inner own within part phrase (omega (arith, once)) has e)
found_nodes program procedure (Forest.cons label inner rest) own within part phrase once (inr (inr has)) e =
    let some = node_counted rest own within has in
    let apart : (own.slot ≡ label.slot → ⊥) = λ same. let one = counted label.slot own.slot (sym same) in omega (arith, once, one, some) in
    front_none own.slot part (part_verdicts (surroundings program procedure label.slot) label.slot 0 label.parts)
    (node_verdicts program procedure inner ++ node_verdicts program procedure rest)
    (other_parts (surroundings program procedure label.slot) own.slot part label.slot 0 label.parts apart)
    ∙ (front_none own.slot part (node_verdicts program procedure inner) (node_verdicts program procedure rest)
    (absent_nodes program procedure inner own.slot part (omega (arith, once, some)))
    ∙ found_nodes program procedure rest own within part phrase (omega (arith, once)) has e)

-- ---- what is found among procedures

named_level : (same : Bool) (label : Label) (inner rest : Forest) (procedure : ℕ) (node : PlainNode) → (label.slot == procedure) ≡ same
    → (procedure_at rest procedure ≡ Some node → 1 ≤ times procedure rest)
    → (if same then Some (let own : PlainNode = record { label = label; inner = inner } in own) else procedure_at rest procedure) ≡ Some node
    → 1 ≤ times procedure (Forest.cons label inner rest)
named_level true label inner rest procedure node same later e =
    let one : one_if label.slot procedure ≡ 1 = counted label.slot procedure (eqb-true label.slot procedure same) in
    omega (arith, one)
named_level false label inner rest procedure node same later e =
    let some : 1 ≤ times procedure rest = later e in
    omega (arith, some)

-- the slot of a procedure stands
pub named_counted : (items : Forest) (procedure : ℕ) (node : PlainNode) → procedure_at items procedure ≡ Some node → 1 ≤ times procedure items
named_counted Forest.nil procedure node e = absurd (none-some node e)
named_counted (Forest.cons label inner rest) procedure node e =
    named_level (label.slot == procedure) label inner rest procedure node refl (named_counted rest procedure node) e

pub named_first : (label : Label) (inner rest : Forest)
    → procedure_at (Forest.cons label inner rest) label.slot ≡ Some (let own : PlainNode = record { label = label; inner = inner } in own)
named_first label inner rest =
    ap (λ (b : Bool). if b then Some (let own : PlainNode = record { label = label; inner = inner } in own) else procedure_at rest label.slot)
    (eq-eqb label.slot label.slot refl)

pub named_later : (label : Label) (inner rest : Forest) (procedure : ℕ) → (label.slot ≡ procedure → ⊥)
    → procedure_at (Forest.cons label inner rest) procedure ≡ procedure_at rest procedure
named_later label inner rest procedure apart =
    ap (λ (b : Bool). if b then Some (let own : PlainNode = record { label = label; inner = inner } in own) else procedure_at rest procedure)
    (ne_eqb label.slot procedure apart)

-- the procedure in which a node stands, and the verdicts of its phrases
pub record InProcedure (program items : Forest) (own : Label) : Type 0 where
  pub node : PlainNode
  pub named : procedure_at items node.label.slot ≡ Some node
  pub around : Around
  pub stands : StandsInside items own.slot own.kind around
  pub outermost : outermost_slot own.slot around ≡ node.label.slot
  pub found : (part : ℕ) (phrase : PlainPhrase) → part_at own.parts part ≡ Some phrase
      → find phrase_cmp (phrase_at own.slot part) (procedure_verdicts program items) ≡ Some (verdict (surroundings program node own.slot) phrase)

-- main or the procedure is the node itself, or it stands inside
in_first : (program : Forest) (label : Label) (inner rest : Forest) (own : Label) (within : Forest) → times own.slot (Forest.cons label inner rest) ≤ 1
    → HasNode (Forest.cons label inner Forest.nil) own within
    → (around : Around) → StandsInside (Forest.cons label inner rest) own.slot own.kind around → outermost_slot own.slot around ≡ label.slot
    → InProcedure program (Forest.cons label inner rest) own
in_first program label inner rest own within once has around stands same =
    let node : PlainNode = record { label = label; inner = inner } in
    record {
      node = node;
      named = named_first label inner rest;
      around = around;
      stands = stands;
      outermost = same;
      found =
          λ part phrase e.
          front_some own.slot part (node_verdicts program node (Forest.cons label inner Forest.nil)) (procedure_verdicts program rest)
          (verdict (surroundings program node own.slot) phrase)
          (found_nodes program node (Forest.cons label inner Forest.nil) own within part phrase (omega (arith, once)) has e);
    }

pub in_procedure : (program items : Forest) (own : Label) (within : Forest) → ((slot : ℕ) → times slot items ≤ 1) → HasNode items own within
    → InProcedure program items own
in_procedure program Forest.nil own within once has = absurd has
in_procedure program (Forest.cons label inner rest) own within once (inl is) =
    in_first program label inner rest own within (once own.slot) (inl is) []
    (inl (ap (λ (l : Label). l.slot) is.0, ap (λ (l : Label). l.kind) is.0, refl)) (ap (λ (l : Label). l.slot) (sym is.0))
in_procedure program (Forest.cons label inner rest) own within once (inr (inl has)) =
    let (around, stands, same) = node_stands (label.slot, label.kind) [] inner own within has in
    in_first program label inner rest own within (once own.slot) (inr (inl has)) around (inr (inl stands)) same
in_procedure program (Forest.cons label inner rest) own within once (inr (inr has)) =
    let there : InProcedure program rest own =
    in_procedure program rest own within (λ slot. let few = once slot in omega (arith, few)) has in
    let some : 1 ≤ times there.node.label.slot rest = named_counted rest there.node.label.slot there.node there.named in
    let few : times there.node.label.slot (Forest.cons label inner rest) ≤ 1 = once there.node.label.slot in
    let own_few : times own.slot (Forest.cons label inner rest) ≤ 1 = once own.slot in
    let own_some = node_counted rest own within has in
    let node : PlainNode = record { label = label; inner = inner } in
    record {
      node = there.node;
      named =
          named_later label inner rest there.node.label.slot
          (λ same. let one = counted label.slot there.node.label.slot same in omega (arith, few, some, one))
          ∙ there.named;
      around = there.around;
      stands = inr (inr there.stands);
      outermost = there.outermost;
      found =
          λ part phrase e.
          front_none own.slot part (node_verdicts program node (Forest.cons label inner Forest.nil)) (procedure_verdicts program rest)
          (absent_nodes program node (Forest.cons label inner Forest.nil) own.slot part (omega (arith, own_few, own_some)))
          ∙ there.found part phrase e;
    }

-- ---- the mark

-- the mark of a phrase is the offence of its verdict
pub mark_is : (program : Forest) (own : Label) (its : InProcedure program program own) (part : ℕ) (phrase : PlainPhrase)
    → part_at own.parts part ≡ Some phrase
    → get (Marks program) (phrase_at own.slot part) ≡ verdict (surroundings program its.node own.slot) phrase
mark_is program own its part phrase e =
    mark_at (Verdicts program) (phrase_at own.slot part)
    ∙ ap option_flatten
    (get-from_entries places_total (procedure_verdicts program program) (phrase_at own.slot part) ∙ its.found part phrase e)
