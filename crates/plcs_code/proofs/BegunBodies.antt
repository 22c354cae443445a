-- The law `bodies_begin`: what stands inside a node begins with the step at which a run begins that comes to it.
-- What a run passes over before that has no code.
use Rattle.std.proofs.Common.{◌≡◌, ℕ, ◌+◌, Bool, true, false, ◌⊎◌, inl, inr, List, [], ◌∷◌, ◌++◌, length, Some, refl, ap, sym, subst, ◌∙◌, arith}
use Rattle.std.specs.Prelude.{◌||◌, flat_map, if◌then◌else◌, is_some, slice_get, take}
use Rattle.std.specs.FinMap.{get-from_entries}
use Rattle.std.specs.List.{list_any}
use Rattle.std.specs.Option.{option_to_list}
use Rattle.std.proofs.Math.Bool.{false≢true}
use Rattle.std.proofs.lemmas.Cmp.{nat_cmp_total}
use Rattle.plcs_base.specs.Mark.{MarkMap}
use Rattle.plcs_base.specs.Scope.{ItemMap}
use Rattle.plcs_grammar.specs.declared.node_kind.NodeKind.{NodeKind}
use Rattle.plcs_grammar.specs.declared.node_kind.Sort.{Sort}
use Rattle.plcs_grammar.specs.declared.template.Template.{Template}
use Rattle.plcs_grammar.specs.Template.{PlainSection, row_of}
use Rattle.template_tree.specs.Positions.Place.{PlainPlace, begin, begins_run, passes_in, place_at}
use Rattle.template_tree.specs.Programs.PlainTree.{Forest, Label}
use Rattle.template_tree.specs.Programs.Program.{AreNodes, Fill, IsNode, sort_of, sorts}
use Rattle.template_tree.specs.Programs.Part.{part_at}
use Rattle.plcs_code.specs.ExprCode.{counter_name}
use Rattle.plcs_code.specs.Gen.{code_around, codes_around, codes_joined, has_code, length_around, node_codes, node_lengths, node_spans, span_by_slot}
use Rattle.plcs_code.specs.Landing.{BodiesBegin, SecondBodiesBegin, length_before}
use Rattle.plcs_code.specs.Pieces.{count_pieces, first_length, kind_jumps, other_lengths, pieces, suspension}
use Rattle.plcs_code.specs.PlainInstr.{PlainInstr}
use Rattle.plcs_code.proofs.BegunCode.{FirstBegins, begin_read, node_begins, passed_read, stands_read}
use Rattle.plcs_code.proofs.FoundNodes.{around_nothing, inner_jumps, inner_stands, inner_start, node_at_site, node_long, own_node}
use Rattle.plcs_code.proofs.FoundSites.{site_inner, site_node}
use Rattle.plcs_code.proofs.HeldSpans.{first_span}
use Rattle.plcs_code.proofs.LandedEnds.{AreBodies, Listed, passed_over_codeless, if_else_sorts, if_sorts, kind_form, none_between, none_inside}
use Rattle.plcs_code.proofs.StoodCode.{StandsAt, first_stands, second_stands}

or_false : (one other : Bool) → one ≡ false → (one || other) ≡ true → other ≡ true
or_false true other e both = absurd (false≢true (sym e))
or_false false other e both = both

module _ (marks : MarkMap) (items : ItemMap) (instrs : List PlainInstr) where
  -- nodes in order, at one of which a run begins, begin with the step at which a run begins that comes to them
  nodes_read : (start : ℕ) (nodes : Forest) (behind : PlainPlace) → AreNodes nodes → AreBodies (sorts nodes)
      → list_any begins_run (sorts nodes) ≡ true → StandsAt instrs start (codes_joined (node_codes marks items nodes))
      → slice_get instrs start ≡ Some (PlainInstr.place (begin nodes behind))
  nodes_read start Forest.nil behind are bodies some stands = absurd (false≢true some)
  nodes_read start (Forest.cons label inner rest) behind are bodies some stands =
      by (begins_run (sort_of label.kind)) refl (passes_in label.kind) refl
      (λ none.
      let code = code_around marks items label (node_codes marks items inner) in
      let long : length code ≡ 0 = passed_over_codeless marks items label inner label.kind refl are.0.inner bodies.0 none in
      nodes_read start rest behind are.2 bodies.1
      (or_false (begins_run (sort_of label.kind)) (list_any begins_run (sorts rest)) none some)
      (second_stands instrs start start code (codes_joined (node_codes marks items rest)) (omega (arith, long)) stands))
    where
      by : (begins : Bool) → begins_run (sort_of label.kind) ≡ begins → (passes : Bool) → passes_in label.kind ≡ passes
          → (begins_run (sort_of label.kind) ≡ false → slice_get instrs start ≡ Some (PlainInstr.place (begin rest behind)))
          → slice_get instrs start
          ≡ Some (PlainInstr.place (if begins then (if passes then begin inner behind else place_at label.slot 0) else begin rest behind))
      by false is passes pass later = later is
      by true is true pass later =
          passed_read marks items instrs start label inner behind are.0.inner are.1 pass
          (first_stands instrs start (code_around marks items label (node_codes marks items inner)) (codes_joined (node_codes marks items rest)) stands)
      by true is false stays later =
          let begins = node_begins marks items label (node_codes marks items inner) are.0.parts is stays in
          stands_read instrs start (PlainInstr.place (place_at label.slot 0)) begins.0
          (subst (StandsAt instrs start) begins.1
          (first_stands instrs start (code_around marks items label (node_codes marks items inner)) (codes_joined (node_codes marks items rest)) stands))

  -- what stands inside a node, and that the node has code
  abbrev Begins : (start : ℕ) → Label → Forest → PlainPlace → Type 0
  Begins start label inner behind =
      (has_code label.kind ≡ true)
      × (slice_get instrs (inner_start marks items start label inner) ≡ Some (PlainInstr.place (begin inner behind)))

  inner_read : (start : ℕ) (label : Label) (inner : Forest) (behind : PlainPlace) → IsNode label (sorts inner) → AreNodes inner
      → list_any begins_run (sorts inner) ≡ true → StandsAt instrs start (code_around marks items label (node_codes marks items inner))
      → Begins start label inner behind
  inner_read start label inner behind node are some stands = by (kind_form label.kind)
    where
      codes : List (List PlainInstr)
      codes = node_codes marks items inner

      told : StandsAt instrs (inner_start marks items start label inner) (codes_around (option_to_list (inner_jumps marks items label inner).between) (node_codes marks items inner))
      told = inner_stands marks items instrs start label inner stands

      starts : FirstBegins (sorts inner) → slice_get instrs (inner_start marks items start label inner) ≡ Some (PlainInstr.place (begin inner behind))
      starts first =
          begin_read marks items instrs (inner_start marks items start label inner) (option_to_list (inner_jumps marks items label inner).between) inner behind are first told

      by : ((row_of label.kind).sections ≡ []) ⊎ (Listed label.kind ⊎ ((label.kind ≡ NodeKind.Filled Template.If) ⊎ (label.kind ≡ NodeKind.Filled Template.IfElse)))
          → Begins start label inner behind
      by (inl lone) =
          let none : inner ≡ Forest.nil = none_inside inner (subst (λ (l : List PlainSection). Fill l (sorts inner)) lone node.inner) in
          absurd (false≢true (ap (λ (f : Forest). list_any begins_run (sorts f)) (sym none) ∙ some))
      by (inr (inl listed)) =
          let nothing : option_to_list (inner_jumps marks items label inner).between ≡ [] =
          ap option_to_list (none_between marks items label (node_lengths marks items inner) listed.joins) in
          let joined : codes_around (option_to_list (inner_jumps marks items label inner).between) (node_codes marks items inner) ≡ codes_joined (node_codes marks items inner) =
          ap (λ (l : List PlainInstr). codes_around l (node_codes marks items inner)) nothing ∙ around_nothing (node_codes marks items inner) in (
            listed.code,
            nodes_read (inner_start marks items start label inner) inner behind are (listed.bodies (sorts inner) node.inner) some
                (subst (StandsAt instrs (inner_start marks items start label inner)) joined told),
          )
      by (inr (inr (inl kind))) = (
        ap has_code kind,
        starts (subst FirstBegins (sym (if_sorts (sorts inner) (subst (λ (k : NodeKind). Fill (row_of k).sections (sorts inner)) kind node.inner))) refl),
      )
      by (inr (inr (inr kind))) = (
        ap has_code kind,
        starts (subst FirstBegins (sym (if_else_sorts (sorts inner) (subst (λ (k : NodeKind). Fill (row_of k).sections (sorts inner)) kind node.inner))) refl),
      )

pub bodies_begin : BodiesBegin
bodies_begin marks items program slot found behind is e some =
    let instrs = codes_joined (node_codes marks items program) in
    let own = site_node slot false program (place_at 0 1) found is.sound e in
    let within = site_inner slot false program (place_at 0 1) found is.sound e in
    let there = node_at_site marks items program slot found e in
    let node = own_node marks items there.0 found.label found.inner in
    let begins = inner_read marks items instrs there.0 found.label found.inner behind own within some there.2 in
    let same : there.0 + length_before marks items found.label found.inner ≡ inner_start marks items there.0 found.label found.inner = omega arith in (
      there.0,
      node.length,
      get-from_entries nat_cmp_total (flat_map span_by_slot (node_spans marks items 0 0 program)) slot
          ∙ first_span slot (node_spans marks items 0 0 program) node there.1 begins.0,
      ap (slice_get instrs) same ∙ begins.1,
    )

-- of two sorts the second alone, at which a run begins
second_starts : (sort : Sort) (others : List Sort) (one other : Sort) → begins_run other ≡ true → sort ∷ others ≡ one ∷ (other ∷ [])
    → FirstBegins others
second_starts sort others one other begins e = subst FirstBegins (sym (ap behind e)) begins
  where
    behind : List Sort → List Sort
    behind [] = []
    behind (first ∷ rest) = rest

pub second_bodies_begin : SecondBodiesBegin
second_bodies_begin marks items program slot found first within rest behind is e kind same =
    let instrs = codes_joined (node_codes marks items program) in
    let label = found.label in
    let own = site_node slot false program (place_at 0 1) found is.sound e in
    let inner_are : AreNodes (Forest.cons first within rest) =
    subst AreNodes same (site_inner slot false program (place_at 0 1) found is.sound e) in
    let there = node_at_site marks items program slot found e in
    let node = own_node marks items there.0 found.label found.inner in
    let two : sorts (Forest.cons first within rest) ≡ Sort.Statement ∷ (Sort.Statement ∷ []) =
    ap sorts (sym same) ∙ if_else_sorts (sorts found.inner) (subst (λ (k : NodeKind). Fill (row_of k).sections (sorts found.inner)) kind own.inner) in
    let at : ℕ = inner_start marks items there.0 label found.inner in
    let between : List PlainInstr = option_to_list (inner_jumps marks items label found.inner).between in
    let one : length between ≡ 1 =
    ap (λ (k : NodeKind). length (option_to_list (kind_jumps label.slot (counter_name (part_at label.parts 0)) (is_some (suspension marks label.slot label.parts)) (is_some (suspension marks label.slot (take 1 label.parts))) (count_pieces (pieces marks items label)) (first_length (node_lengths marks items found.inner)) (other_lengths (node_lengths marks items found.inner)) k).between)) kind in
    let code = code_around marks items first (node_codes marks items within) in
    let codes = node_codes marks items rest in
    let told : StandsAt instrs at (codes_around between (code ∷ codes)) =
    subst (λ (f : Forest). StandsAt instrs at (codes_around between (node_codes marks items f))) same
    (inner_stands marks items instrs there.0 label found.inner there.2) in
    let long : length code ≡ length_around marks items first (node_lengths marks items within) = node_long marks items first within in
    let target : ℕ = there.0 + length_before marks items label found.inner + length_around marks items first (node_lengths marks items within) + 1 in
    let last : StandsAt instrs target (codes_around [] codes) =
    subst (StandsAt instrs target) (sym (around_nothing codes))
    (second_stands instrs (at + length code) target between (codes_joined codes) (omega (arith, one, long))
    (second_stands instrs at (at + length code) code (between ++ codes_joined codes) refl told)) in (
      there.0,
      node.length,
      get-from_entries nat_cmp_total (flat_map span_by_slot (node_spans marks items 0 0 program)) slot
          ∙ first_span slot (node_spans marks items 0 0 program) node there.1 (ap has_code kind),
      begin_read marks items instrs target [] rest behind inner_are.2 (second_starts (sort_of first.kind) (sorts rest) Sort.Statement Sort.Statement refl two) last,
    )
