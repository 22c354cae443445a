-- The span of a slot holds the code of what stands there: it is that of the first node in the slot, whose code stands
-- where its span says.
use Rattle.std.proofs.Common.{◌≡◌, ℕ, ◌≤◌, Bool, true, false, List, [], ◌∷◌, ◌++◌, Option, Some, None, refl, ap, sym, ◌∙◌, append_assoc, arith}
use Rattle.std.specs.Prelude.{◌==◌, cond, flat_map, if◌then◌else◌}
use Rattle.std.specs.FinMap.{find, get-from_entries, nat_cmp-IsAntisymmetric}
use Rattle.std.specs.Option.{option_or}
use Rattle.std.specs.Ordering.{eq_by_cmp, is_eq, nat_cmp}
use Rattle.std.specs.declared.cmp.Ordering.{Ordering}
use Rattle.std.specs.declared.cmp.Ordering.TheVariants.{Less, Equal, Greater}
use Rattle.std.proofs.Math.Bool.{false≢true}
use Rattle.std.proofs.lemmas.Bool.{eqb-true, eq-eqb}
use Rattle.std.proofs.lemmas.Cmp.{nat_cmp_total, tied_itself}
use Rattle.std.proofs.lemmas.Option.{none-some}
use Rattle.plcs_base.specs.Mark.{MarkMap}
use Rattle.plcs_base.specs.Scope.{ItemMap}
use Rattle.plcs_grammar.specs.Template.{row_of}
use Rattle.template_tree.specs.Positions.Place.{PlainPlace, Site, end_at, in_turn, inner_end, place_at, site_among}
use Rattle.template_tree.specs.Programs.PlainTree.{Forest}
use Rattle.template_tree.specs.Programs.Slots.{times}
use Rattle.plcs_code.specs.CodeLaws.{SpansHoldCode}
use Rattle.plcs_code.specs.declared.node_span.NodeSpan.{NodeSpan}
use Rattle.plcs_code.specs.Gen.{codes_joined, has_code, node_codes, node_spans, span_by_slot}
use Rattle.plcs_code.proofs.FoundSites.{after_node, one_if, other_slot, site_cases, site_counted, site_of, site_within, siteless_nowhere}
use Rattle.plcs_code.proofs.FoundNodes.{code_of_site, first_node, inner_gap, inner_start, node_at_site, node_long, own_node, rest_start}
use Rattle.plcs_code.proofs.StoodCode.{stands_holds}

-- ---- what is found among spans

-- a span: its first address and its length
abbrev pub Span : Type 0
Span = ℕ × ℕ

-- the node, or else another
abbrev pub node_or : NodeSpan → Option NodeSpan → NodeSpan
node_or node None = node
node_or node (Some there) = there

-- the span of the slot among those of nodes
abbrev pub span_found : (slot : ℕ) → List NodeSpan → Option Span
span_found slot spans = find nat_cmp slot (flat_map span_by_slot spans)

-- what is found in two lists is found in the first, or else in the second
found_append : (slot : ℕ) (one other : List (ℕ × Span)) → find nat_cmp slot (one ++ other) ≡ option_or (find nat_cmp slot one) (find nat_cmp slot other)
found_append slot [] other = refl
found_append slot (e ∷ one) other = by (eq_by_cmp nat_cmp slot e.0) (found_append slot one other)
  where
    by : (b : Bool) → find nat_cmp slot (one ++ other) ≡ option_or (find nat_cmp slot one) (find nat_cmp slot other)
        → cond b (Some e.1) (find nat_cmp slot (one ++ other)) ≡ option_or (cond b (Some e.1) (find nat_cmp slot one)) (find nat_cmp slot other)
    by true again = refl
    by false again = again

spans_append : (one other : List NodeSpan) → flat_map span_by_slot (one ++ other) ≡ flat_map span_by_slot one ++ flat_map span_by_slot other
spans_append [] other = refl
spans_append (node ∷ one) other =
    ap (λ (es : List (ℕ × Span)). span_by_slot node ++ es) (spans_append one other)
    ∙ sym (append_assoc (span_by_slot node) (flat_map span_by_slot one) (flat_map span_by_slot other))

-- among a node's own span, those inside it and those behind it
found_three : (slot : ℕ) (node : NodeSpan) (within behind : List NodeSpan)
    → span_found slot (node ∷ (within ++ behind))
    ≡ option_or (find nat_cmp slot (span_by_slot node)) (option_or (span_found slot within) (span_found slot behind))
found_three slot node within behind =
    found_append slot (span_by_slot node) (flat_map span_by_slot (within ++ behind))
    ∙ ap (option_or (find nat_cmp slot (span_by_slot node)))
    (ap (find nat_cmp slot) (spans_append within behind) ∙ found_append slot (flat_map span_by_slot within) (flat_map span_by_slot behind))

-- ---- a node's own span

-- another slot isn't found
other_ties : (slot own : ℕ) → (own == slot) ≡ false → eq_by_cmp nat_cmp slot own ≡ false
other_ties slot own other = by (nat_cmp slot own) refl
  where
    by : (o : Ordering) → nat_cmp slot own ≡ o → is_eq o ≡ false
    by Less e = refl
    by Greater e = refl
    by Equal e = absurd (false≢true (sym other ∙ eq-eqb own slot (sym (nat_cmp-IsAntisymmetric slot own e))))

own_ties : (slot own : ℕ) → own ≡ slot → eq_by_cmp nat_cmp slot own ≡ true
own_ties slot own same = ap (λ (n : ℕ). eq_by_cmp nat_cmp slot n) same ∙ ap is_eq (tied_itself nat_cmp_total slot)

-- the span of a node, if it has code or not
abbrev span_if : Bool → NodeSpan → List (ℕ × Span)
span_if b node = if b then (node.slot.0, (node.start, node.length)) ∷ [] else []

none_own : (slot : ℕ) (node : NodeSpan) → (node.slot.0 == slot) ≡ false → find nat_cmp slot (span_by_slot node) ≡ None
none_own slot node other = by (has_code node.kind)
  where
    by : (b : Bool) → find nat_cmp slot (span_if b node) ≡ None
    by true = ap (λ (b : Bool). cond b (Some (node.start, node.length)) None) (other_ties slot node.slot.0 other)
    by false = refl

none_codeless : (slot : ℕ) (node : NodeSpan) → has_code node.kind ≡ false → find nat_cmp slot (span_by_slot node) ≡ None
none_codeless slot node is =
    ap (λ (b : Bool). find nat_cmp slot (span_if b node)) is

own_span : (slot : ℕ) (node : NodeSpan) → node.slot.0 ≡ slot → has_code node.kind ≡ true
    → find nat_cmp slot (span_by_slot node) ≡ Some (node.start, node.length)
own_span slot node same is =
    ap (λ (b : Bool). find nat_cmp slot (span_if b node)) is
    ∙ ap (λ (b : Bool). cond b (Some (node.start, node.length)) None) (own_ties slot node.slot.0 same)

-- ---- the spans of nodes

none_of_three : (own within behind : Option Span) → own ≡ None → within ≡ None → behind ≡ None → option_or own (option_or within behind) ≡ None
none_of_three own within behind a b c = ap (λ (o : Option Span). option_or o (option_or within behind)) a ∙ ap (λ (o : Option Span). option_or o behind) b ∙ c

-- a slot that stands nowhere has no span
nowhere_none : (marks : MarkMap) (items : ItemMap) (slot start gap : ℕ) (nodes : Forest) → times slot nodes ≤ 0
    → span_found slot (node_spans marks items start gap nodes) ≡ None
nowhere_none marks items slot start gap Forest.nil none = refl
nowhere_none marks items slot start gap (Forest.cons label inner rest) none =
    let no : one_if (label.slot == slot) ≤ 0 = omega (arith, none) in
    let node = own_node marks items start label inner in
    let within = node_spans marks items (inner_start marks items start label inner) (inner_gap marks items label inner) inner in
    let behind = node_spans marks items (rest_start marks items start gap label inner) 0 rest in
    found_three slot node within behind
    ∙ none_of_three (find nat_cmp slot (span_by_slot node)) (span_found slot within) (span_found slot behind)
    (none_own slot node (other_slot (label.slot == slot) no))
    (nowhere_none marks items slot (inner_start marks items start label inner) (inner_gap marks items label inner) inner (omega (arith, none)))
    (nowhere_none marks items slot (rest_start marks items start gap label inner) 0 rest (omega (arith, none)))

-- a slot that stands but once, at a node without code, has none
codeless_none : (marks : MarkMap) (items : ItemMap) (slot start gap : ℕ) (turn : Bool) (nodes : Forest) (place : PlainPlace) (found : Site)
    → times slot nodes ≤ 1 → site_among slot turn nodes place ≡ Some found → has_code found.label.kind ≡ false
    → span_found slot (node_spans marks items start gap nodes) ≡ None
codeless_none marks items slot start gap turn Forest.nil place found once e is = absurd (none-some found e)
codeless_none marks items slot start gap turn (Forest.cons label inner rest) place found once e is =
    let node = own_node marks items start label inner in
    let within = node_spans marks items (inner_start marks items start label inner) (inner_gap marks items label inner) inner in
    let behind = node_spans marks items (rest_start marks items start gap label inner) 0 rest in
    let inner_turn = in_turn (row_of label.kind).sections in
    let inner_place = end_at label.slot (inner_end label.kind) (after_node turn rest place) in
    let no_within = nowhere_none marks items slot (inner_start marks items start label inner) (inner_gap marks items label inner) inner in
    let no_behind = nowhere_none marks items slot (rest_start marks items start gap label inner) 0 rest in
    found_three slot node within behind
    ∙ site_cases (label.slot == slot) (site_of turn label inner rest place) (site_within slot turn label inner rest place)
    (site_among slot turn rest place) found e
    (λ same own.
    let one : one_if (label.slot == slot) ≡ 1 = ap one_if same in
    none_of_three (find nat_cmp slot (span_by_slot node)) (span_found slot within) (span_found slot behind)
    (none_codeless slot node (ap (λ (there : Site). has_code there.label.kind) own ∙ is))
    (no_within (omega (arith, once, one))) (no_behind (omega (arith, once, one))))
    (λ other inside.
    let some : 1 ≤ times slot inner = site_counted slot inner_turn inner inner_place found inside in
    none_of_three (find nat_cmp slot (span_by_slot node)) (span_found slot within) (span_found slot behind) (none_own slot node other)
    (codeless_none marks items slot (inner_start marks items start label inner) (inner_gap marks items label inner) inner_turn inner inner_place found
    (omega (arith, once)) inside is)
    (no_behind (omega (arith, once, some))))
    (λ other none later.
    let some : 1 ≤ times slot rest = site_counted slot turn rest place found later in
    none_of_three (find nat_cmp slot (span_by_slot node)) (span_found slot within) (span_found slot behind) (none_own slot node other)
    (no_within (omega (arith, once, some)))
    (codeless_none marks items slot (rest_start marks items start gap label inner) 0 turn rest place found (omega (arith, once)) later is))

-- ---- the span of a node

-- the first node in the slot has its span, if it has code
pub first_span : (slot : ℕ) (spans : List NodeSpan) (node : NodeSpan) → first_node slot spans ≡ Some node → has_code node.kind ≡ true
    → span_found slot spans ≡ Some (node.start, node.length)
first_span slot [] node e is = absurd (none-some node e)
first_span slot (own ∷ spans) node e is = by (own.slot.0 == slot) refl e (first_span slot spans node)
  where
    by : (b : Bool) → (own.slot.0 == slot) ≡ b → (if b then Some own else first_node slot spans) ≡ Some node
        → (first_node slot spans ≡ Some node → has_code node.kind ≡ true → span_found slot spans ≡ Some (node.start, node.length))
        → span_found slot (own ∷ spans) ≡ Some (node.start, node.length)
    by true same e again =
        let here : own ≡ node = ap (node_or own) e in
        found_append slot (span_by_slot own) (flat_map span_by_slot spans)
        ∙ ap (λ (o : Option Span). option_or o (span_found slot spans))
        (own_span slot own (eqb-true own.slot.0 slot same) (ap (λ (n : NodeSpan). has_code n.kind) here ∙ is))
        ∙ ap (λ (n : NodeSpan). Some (n.start, n.length)) here
    by false other e again =
        found_append slot (span_by_slot own) (flat_map span_by_slot spans)
        ∙ ap (λ (o : Option Span). option_or o (span_found slot spans)) (none_own slot own other)
        ∙ again e is

-- ---- the law

pub spans_hold_code : SpansHoldCode
spans_hold_code =
    record {
      held = λ marks items program slot found e is.
          let there = node_at_site marks items program slot found e in
          let node = own_node marks items there.0 found.label found.inner in
          let long = node_long marks items found.label found.inner in (
            there.0,
            get-from_entries nat_cmp_total (flat_map span_by_slot (node_spans marks items 0 0 program)) slot
                ∙ first_span slot (node_spans marks items 0 0 program) node there.1 is
                ∙ ap (λ (n : ℕ). Some (there.0, n)) (sym long),
            stands_holds (codes_joined (node_codes marks items program)) there.0 (code_of_site marks items found) there.2,
          );
      codeless = λ marks items program slot found once e is.
          get-from_entries nat_cmp_total (flat_map span_by_slot (node_spans marks items 0 0 program)) slot
          ∙ codeless_none marks items slot 0 0 false program (place_at 0 1) found once e is;
      absent = λ marks items program slot e.
          get-from_entries nat_cmp_total (flat_map span_by_slot (node_spans marks items 0 0 program)) slot
          ∙ nowhere_none marks items slot 0 0 program (siteless_nowhere slot false program (place_at 0 1) e);
    }
