-- The node of a slot among the spans of nodes. Spans and codes go through a program by one recursion, and what stands
-- among instructions at an address has each of its pieces there, so the code of each node stands where its span says.
-- The first node in a slot is the one at the site of the slot.
use Rattle.std.proofs.Common.{◌≡◌, ℕ, ◌+◌, ◌≤◌, Bool, true, false, List, [], ◌∷◌, ◌++◌, length, map, Option, Some, None, refl, ap, sym, subst, ◌∙◌, arith}
use Rattle.std.specs.Prelude.{◌==◌, if◌then◌else◌}
use Rattle.std.specs.Option.{option_or, option_to_list}
use Rattle.std.proofs.lemmas.Option.{none-some}
use Rattle.plcs_base.specs.Mark.{MarkMap}
use Rattle.plcs_base.specs.Scope.{ItemMap}
use Rattle.plcs_grammar.specs.Template.{row_of}
use Rattle.template_tree.specs.Positions.Place.{PlainPlace, Site, end_at, in_turn, inner_end, place_at, site, site_among}
use Rattle.template_tree.specs.Programs.PlainTree.{Forest, Label}
use Rattle.template_tree.specs.Programs.Slots.{times}
use Rattle.plcs_code.specs.declared.node_span.NodeSpan.{NodeSpan}
use Rattle.plcs_code.specs.Gen.{code_around, codes_around, codes_joined, length_around, node_codes, node_lengths, node_spans}
use Rattle.plcs_code.specs.Pieces.{CodeJumps, first_length, jumps, pieces}
use Rattle.plcs_code.specs.PlainInstr.{PlainInstr}
use Rattle.plcs_code.proofs.CodeLengths.{lengths_told}
use Rattle.plcs_code.proofs.FoundSites.{after_node, one_if, other_slot, site_cases, site_of, site_within, siteless_nowhere}
use Rattle.plcs_code.proofs.StoodCode.{StandsAt, all_stand, first_stands, second_stands}

-- ---- the first node in a slot

abbrev pub first_node : (slot : ℕ) → List NodeSpan → Option NodeSpan
first_node slot [] = None
first_node slot (node ∷ spans) = if node.slot.0 == slot then Some node else first_node slot spans

-- it is among the first spans, or else among the others
first_append : (slot : ℕ) (one other : List NodeSpan) → first_node slot (one ++ other) ≡ option_or (first_node slot one) (first_node slot other)
first_append slot [] other = refl
first_append slot (node ∷ one) other = by (node.slot.0 == slot) (first_append slot one other)
  where
    by : (b : Bool) → first_node slot (one ++ other) ≡ option_or (first_node slot one) (first_node slot other)
        → (if b then Some node else first_node slot (one ++ other)) ≡ option_or (if b then Some node else first_node slot one) (first_node slot other)
    by true again = refl
    by false again = again

-- the node itself
pub first_own : (slot : ℕ) (node : NodeSpan) (spans : List NodeSpan) → (node.slot.0 == slot) ≡ true → first_node slot (node ∷ spans) ≡ Some node
first_own slot node spans same = ap (λ (b : Bool). if b then Some node else first_node slot spans) same

-- one inside it, or behind it
pub first_other : (slot : ℕ) (node : NodeSpan) (within behind : List NodeSpan) → (node.slot.0 == slot) ≡ false
    → first_node slot (node ∷ (within ++ behind)) ≡ option_or (first_node slot within) (first_node slot behind)
first_other slot node within behind other =
    ap (λ (b : Bool). if b then Some node else first_node slot (within ++ behind)) other ∙ first_append slot within behind

-- ---- the spans of nodes

-- the span of a node, with the code inside it
abbrev pub own_node : MarkMap → ItemMap → (start : ℕ) → Label → (inner : Forest) → NodeSpan
own_node marks items start label inner =
    record {
      slot = record { 0 = label.slot };
      kind = label.kind;
      start = start;
      length = length_around marks items label (node_lengths marks items inner);
    }

-- the jumps of a node, with the code inside it
abbrev pub inner_jumps : MarkMap → ItemMap → Label → (inner : Forest) → CodeJumps
inner_jumps marks items label inner = jumps marks items label (node_lengths marks items inner)

-- where what stands inside a node begins
abbrev pub inner_start : MarkMap → ItemMap → (start : ℕ) → Label → (inner : Forest) → ℕ
inner_start marks items start label inner =
    start + length (pieces marks items label).before + length (option_to_list (inner_jumps marks items label inner).ahead)

-- how many instructions stand behind the first node inside it
abbrev pub inner_gap : MarkMap → ItemMap → Label → (inner : Forest) → ℕ
inner_gap marks items label inner = length (option_to_list (inner_jumps marks items label inner).between)

-- where what stands behind a node begins
abbrev pub rest_start : MarkMap → ItemMap → (start gap : ℕ) → Label → (inner : Forest) → ℕ
rest_start marks items start gap label inner = start + length_around marks items label (node_lengths marks items inner) + gap

-- a slot that stands nowhere has no node
pub nowhere_first : (marks : MarkMap) (items : ItemMap) (slot start gap : ℕ) (nodes : Forest) → times slot nodes ≤ 0
    → first_node slot (node_spans marks items start gap nodes) ≡ None
nowhere_first marks items slot start gap Forest.nil none = refl
nowhere_first marks items slot start gap (Forest.cons label inner rest) none =
    let no : one_if (label.slot == slot) ≤ 0 = omega (arith, none) in
    let node = own_node marks items start label inner in
    let within = node_spans marks items (inner_start marks items start label inner) (inner_gap marks items label inner) inner in
    let behind = node_spans marks items (rest_start marks items start gap label inner) 0 rest in
    first_other slot node within behind (other_slot (label.slot == slot) no)
    ∙ ap (λ (o : Option NodeSpan). option_or o (first_node slot behind))
    (nowhere_first marks items slot (inner_start marks items start label inner) (inner_gap marks items label inner) inner (omega (arith, none)))
    ∙ nowhere_first marks items slot (rest_start marks items start gap label inner) 0 rest (omega (arith, none))

-- ---- where codes stand

-- the code of what stands at a site
abbrev pub code_of_site : MarkMap → ItemMap → Site → List PlainInstr
code_of_site marks items site = code_around marks items site.label (node_codes marks items site.inner)

-- codes with nothing behind the first one are joined
pub around_nothing : (codes : List (List PlainInstr)) → codes_around [] codes ≡ codes_joined codes
around_nothing [] = refl
around_nothing (code ∷ codes) = refl

-- how long the code of a node is
pub node_long : (marks : MarkMap) (items : ItemMap) (label : Label) (inner : Forest)
    → length (code_around marks items label (node_codes marks items inner)) ≡ length_around marks items label (node_lengths marks items inner)
node_long marks items label inner = ap first_length (lengths_told marks items (Forest.cons label inner Forest.nil))

-- what stands inside a node stands among the instructions where the node does
pub inner_stands : (marks : MarkMap) (items : ItemMap) (instrs : List PlainInstr) (start : ℕ) (label : Label) (inner : Forest)
    → StandsAt instrs start (code_around marks items label (node_codes marks items inner))
    → StandsAt instrs (inner_start marks items start label inner)
    (codes_around (option_to_list (inner_jumps marks items label inner).between) (node_codes marks items inner))
inner_stands marks items instrs start label inner stands =
    let codes = node_codes marks items inner in
    let own = pieces marks items label in
    let around : CodeJumps = jumps marks items label (map length codes) in
    let told : CodeJumps = inner_jumps marks items label inner in
    let same : around ≡ told = ap (jumps marks items label) (lengths_told marks items inner) in
    let ahead = option_to_list around.ahead in
    let inside = codes_around (option_to_list around.between) codes in
    let end = own.behind ++ option_to_list around.back in
    let first : StandsAt instrs (start + length own.before) (ahead ++ (inside ++ end)) =
    second_stands instrs start (start + length own.before) own.before (ahead ++ (inside ++ end)) refl stands in
    let second : StandsAt instrs (start + length own.before + length ahead) (inside ++ end) =
    second_stands instrs (start + length own.before) (start + length own.before + length ahead) ahead (inside ++ end) refl first in
    let third : StandsAt instrs (start + length own.before + length ahead) inside =
    first_stands instrs (start + length own.before + length ahead) inside end second in
    subst
    (λ (j : CodeJumps). StandsAt instrs (start + length own.before + length (option_to_list j.ahead)) (codes_around (option_to_list j.between) codes))
    same third

-- ---- the node at a site

-- the first node in the slot is the one at the site, and its code stands where its span says
abbrev pub NodeFound : MarkMap → ItemMap → (instrs : List PlainInstr) → Option NodeSpan → Site → Type 0
NodeFound marks items instrs node found =
    (start : ℕ) × (node ≡ Some (own_node marks items start found.label found.inner)) × StandsAt instrs start (code_of_site marks items found)

node_among : (marks : MarkMap) (items : ItemMap) (instrs : List PlainInstr) (slot start gap : ℕ) (between : List PlainInstr) (turn : Bool) (nodes : Forest) (place : PlainPlace) (found : Site)
    → length between ≡ gap → StandsAt instrs start (codes_around between (node_codes marks items nodes))
    → site_among slot turn nodes place ≡ Some found
    → NodeFound marks items instrs (first_node slot (node_spans marks items start gap nodes)) found
node_among marks items instrs slot start gap between turn Forest.nil place found long stands e = absurd (none-some found e)
node_among marks items instrs slot start gap between turn (Forest.cons label inner rest) place found long stands e =
    let node = own_node marks items start label inner in
    let from = inner_start marks items start label inner in
    let later_from = rest_start marks items start gap label inner in
    let within = node_spans marks items from (inner_gap marks items label inner) inner in
    let behind = node_spans marks items later_from 0 rest in
    let inner_turn = in_turn (row_of label.kind).sections in
    let inner_place = end_at label.slot (inner_end label.kind) (after_node turn rest place) in
    let code = code_around marks items label (node_codes marks items inner) in
    let codes = node_codes marks items rest in
    let whole : length code ≡ length_around marks items label (node_lengths marks items inner) = node_long marks items label inner in
    let own_stands : StandsAt instrs start code = first_stands instrs start code (between ++ codes_joined codes) stands in
    let next : StandsAt instrs (start + length code) (between ++ codes_joined codes) =
    second_stands instrs start (start + length code) code (between ++ codes_joined codes) refl stands in
    let last : StandsAt instrs later_from (codes_joined codes) =
    second_stands instrs (start + length code) later_from between (codes_joined codes) (omega (arith, whole, long)) next in
    site_cases (label.slot == slot) (site_of turn label inner rest place) (site_within slot turn label inner rest place)
    (site_among slot turn rest place) found e
    (λ same own.
    subst (NodeFound marks items instrs (first_node slot (node ∷ (within ++ behind)))) own
    (start, first_own slot node (within ++ behind) same, own_stands))
    (λ other inside.
    let there =
    node_among marks items instrs slot from (inner_gap marks items label inner) (option_to_list (inner_jumps marks items label inner).between) inner_turn inner inner_place found refl
    (inner_stands marks items instrs start label inner own_stands) inside in (
      there.0,
      first_other slot node within behind other ∙ ap (λ (o : Option NodeSpan). option_or o (first_node slot behind)) there.1,
      there.2,
    ))
    (λ other none later.
    let there =
    node_among marks items instrs slot later_from 0 [] turn rest place found refl
    (subst (StandsAt instrs later_from) (sym (around_nothing codes)) last) later in (
      there.0,
      first_other slot node within behind other
          ∙ ap (λ (o : Option NodeSpan). option_or o (first_node slot behind))
          (nowhere_first marks items slot from (inner_gap marks items label inner) inner (siteless_nowhere slot inner_turn inner inner_place none))
          ∙ there.1,
      there.2,
    ))

-- in a program
pub node_at_site : (marks : MarkMap) (items : ItemMap) (program : Forest) (slot : ℕ) (found : Site) → site program slot ≡ Some found
    → NodeFound marks items (codes_joined (node_codes marks items program)) (first_node slot (node_spans marks items 0 0 program)) found
node_at_site marks items program slot found e =
    let instrs = codes_joined (node_codes marks items program) in
    node_among marks items instrs slot 0 0 [] false program (place_at 0 1) found refl
    (subst (StandsAt instrs 0) (sym (around_nothing (node_codes marks items program))) (all_stand instrs)) e
