-- The code of a program, made afresh: its instructions, and the maps of its spans, addresses and headings.
use Rattle.std.specs.Prelude.{ℕ, ◌+◌, Bool, true, false, if◌then◌else◌, List, [], ◌∷◌, ◌++◌, length, map, sum, flat_map, Option, Some, None}
use Rattle.std.specs.FinMap.{FinMap, from_entries}
use Rattle.std.specs.Option.{option_to_list}
use Rattle.std.specs.Ordering.{nat_cmp, on, then_cmp}
use Rattle.std.specs.declared.cmp.Ordering.{Ordering}
use Rattle.std.specs.Cmp.Lexicographic.{slice_cmp}
use Rattle.plcs_base.specs.Mark.{MarkMap}
use Rattle.plcs_base.specs.Scope.{ItemMap}
use Rattle.plcs_base.specs.declared.place.Place.{Place}
use Rattle.plcs_grammar.specs.declared.node_kind.NodeKind.{NodeKind}
use Rattle.plcs_grammar.specs.declared.node_kind.Sort.{Sort}
use Rattle.plcs_grammar.specs.declared.template.Template.{Template}
use Rattle.template_tree.specs.Checks.Environment.{Heading, heading_of, may_be_called}
use Rattle.template_tree.specs.Positions.Place.{Site, passes_in, place_at, site}
use Rattle.template_tree.specs.Programs.PlainTree.{Label, Forest}
use Rattle.template_tree.specs.Programs.Program.{sort_of}
use Rattle.plcs_code.specs.declared.heading_entry.HeadingEntry.{HeadingEntry}
use Rattle.plcs_code.specs.declared.node_span.NodeSpan.{NodeSpan}
use Rattle.plcs_code.specs.PlainInstr.{PlainInstr, place_of}
use Rattle.plcs_code.specs.Pieces.{CodeJumps, CodePieces, jumps, pieces}

-- ---- the instructions

-- the codes of a program's nodes, one after the other
abbrev pub codes_joined : List (List PlainInstr) → List PlainInstr
codes_joined [] = []
codes_joined (code ∷ codes) = code ++ codes_joined codes

-- in the code that is made of a program, the codes of the nodes inside a node, with what stands behind the first one
abbrev pub codes_around : (between : List PlainInstr) → List (List PlainInstr) → List PlainInstr
codes_around between [] = between
codes_around between (code ∷ codes) = code ++ (between ++ codes_joined codes)

-- the code that is made of a node of a program: its pieces and its jumps, and the codes of the nodes inside it
abbrev pub code_with : CodePieces → CodeJumps → List (List PlainInstr) → List PlainInstr
code_with own jumps codes =
    own.before
    ++ (option_to_list jumps.ahead
    ++ (codes_around (option_to_list jumps.between) codes ++ (own.behind ++ option_to_list jumps.back)))

-- the code that is made of a node of a program, where these codes are made of the nodes inside it
abbrev pub code_around : MarkMap → ItemMap → Label → List (List PlainInstr) → List PlainInstr
code_around marks items label codes =
    code_with (pieces marks items label) (jumps marks items label (map length codes)) codes

-- the code of each of the nodes in order, what stands inside it included
abbrev pub node_codes : MarkMap → ItemMap → Forest → List (List PlainInstr)
node_codes marks items Forest.nil = []
node_codes marks items (Forest.cons label inner rest) =
    code_around marks items label (node_codes marks items inner) ∷ node_codes marks items rest

-- the own code of a node in the code of a program made afresh, without that of the nodes inside it, whose codes have
-- these lengths
abbrev pub own_instrs : MarkMap → ItemMap → Label → (lengths : List ℕ) → List PlainInstr
own_instrs marks items label lengths =
    let own = pieces marks items label in
    let around = jumps marks items label lengths in
    own.before
    ++ (option_to_list around.ahead ++ (option_to_list around.between ++ (own.behind ++ option_to_list around.back)))

-- how many instructions of its own a node has in the code of a program made afresh, which doesn't depend on what stands
-- inside it
abbrev pub own_length : MarkMap → ItemMap → Label → ℕ
own_length marks items label = length (own_instrs marks items label [])

-- how many instructions a node has in the code of a program made afresh, where the codes of the nodes inside it have
-- these lengths
abbrev pub length_around : MarkMap → ItemMap → Label → (lengths : List ℕ) → ℕ
length_around marks items label lengths = own_length marks items label + sum lengths

-- how many instructions each of the nodes in order has in code that is made afresh
abbrev pub node_lengths : MarkMap → ItemMap → Forest → List ℕ
node_lengths marks items Forest.nil = []
node_lengths marks items (Forest.cons label inner rest) =
    length_around marks items label (node_lengths marks items inner) ∷ node_lengths marks items rest

-- in the code of a program made afresh, the own code of what stands at a site: none where it isn't there
abbrev pub site_code : MarkMap → ItemMap → Option Site → List PlainInstr
site_code marks items None = []
site_code marks items (Some site) = own_instrs marks items site.label (node_lengths marks items site.inner)

-- the own code of a slot of the program: the code of what stands there, without that of its bodies and items; none
-- where the slot isn't live, or where a declaration or a hole for a procedure stands
abbrev pub own_code : MarkMap → ItemMap → (program : Forest) → (slot : ℕ) → List PlainInstr
own_code marks items program slot = site_code marks items (site program slot)

-- ---- where nodes stand

-- where the codes of nodes in order stand, and of those inside them, the first at an address, with a gap behind the
-- first
abbrev pub node_spans : MarkMap → ItemMap → (start gap : ℕ) → Forest → List NodeSpan
node_spans marks items start gap Forest.nil = []
node_spans marks items start gap (Forest.cons label inner rest) =
    let own = pieces marks items label in
    let around = jumps marks items label (node_lengths marks items inner) in
    let whole = length_around marks items label (node_lengths marks items inner) in
    record { slot = record { 0 = label.slot }; kind = label.kind; start = start; length = whole }
    ∷ (node_spans marks items (start + length own.before + length (option_to_list around.ahead))
    (length (option_to_list around.between)) inner
    ++ node_spans marks items (start + whole + gap) 0 rest)

-- whether the code of a program has any of nodes of the sort: declarations have none
abbrev pub sort_has_code : Sort → Bool
sort_has_code Sort.Main = true
sort_has_code Sort.Procedure = true
sort_has_code Sort.Declaration = false
sort_has_code Sort.Statement = true

-- whether a node of the kind has code, and so a span: a declaration has none, nor a hole for a procedure
abbrev pub has_code : NodeKind → Bool
has_code NodeKind.ProcedureHole = false
has_code other = sort_has_code (sort_of other)

-- the spans of slots: the address of the first instruction and the number of instructions of what stands in each slot
-- that has code
abbrev pub SpanMap : Type 0
SpanMap = FinMap nat_cmp (ℕ × ℕ)

-- the span of a node, by its slot, if it has code
abbrev pub span_by_slot : NodeSpan → List (ℕ × (ℕ × ℕ))
span_by_slot node = if has_code node.kind then (node.slot.0, (node.start, node.length)) ∷ [] else []

-- ---- where places stand

-- the order of places in the map of their addresses: by slot, and within a slot by point
abbrev pub place_cmp : Place → Place → Ordering
place_cmp = then_cmp (on (λ at. at.slot.0) nat_cmp) (on (λ at. at.point.0) nat_cmp)

-- the addresses in a program's code by places
abbrev pub AddressMap : Type 0
AddressMap = FinMap place_cmp ℕ

-- the address of an instruction, by the place where a step ends there, if one does
abbrev pub address_by_place : ℕ → PlainInstr → List (Place × ℕ)
address_by_place address (PlainInstr.place at) = (place_of at, address) ∷ []
address_by_place address other = []

-- the addresses in code that begins at an address, by the places at which steps end there
abbrev pub addresses_in : (address : ℕ) → List PlainInstr → List (Place × ℕ)
addresses_in address [] = []
addresses_in address (instr ∷ code) = address_by_place address instr ++ addresses_in (address + 1) code

-- whether a node of the kind is a call, which has an address where it comes back
abbrev pub is_call : NodeKind → Bool
is_call (NodeKind.Filled Template.Call) = true
is_call other = false

-- the addresses of a node, by its places at which no step ends: the start of a group, a comment or an Until is that
-- of its first item, and a call comes back behind its code
abbrev pub node_address : NodeSpan → List (Place × ℕ)
node_address node =
    if passes_in node.kind then (place_of (place_at node.slot.0 0), node.start) ∷ []
    else (if is_call node.kind then (place_of (place_at node.slot.0 1), node.start + node.length) ∷ [] else [])

-- ---- where procedures are entered

-- the order of names in the map of effective headings that the code of a program has: that of their bytes
abbrev pub name_cmp : List ℕ → List ℕ → Ordering
name_cmp = slice_cmp nat_cmp

-- the effective headings that code knows by their names
abbrev pub EntryMap : Type 0
EntryMap = FinMap name_cmp HeadingEntry

-- a procedure's heading at an address, by its name, if it is whole and may be called
abbrev pub heading_by_name : (slot address : ℕ) → Option Heading → List (List ℕ × HeadingEntry)
heading_by_name slot address None = []
heading_by_name slot address (Some heading) =
    if may_be_called heading.name then (heading.name, record { address = address; slot = record { 0 = slot } }) ∷ []
    else []

-- the headings of main and procedures in order, by their names, the first at an address
abbrev pub headings_by_name : MarkMap → ItemMap → (start : ℕ) → Forest → List (List ℕ × HeadingEntry)
headings_by_name marks items start Forest.nil = []
headings_by_name marks items start (Forest.cons label inner rest) =
    heading_by_name label.slot start (heading_of label.kind label.parts)
    ++ headings_by_name marks items (start + length_around marks items label (node_lengths marks items inner)) rest

-- ---- the whole

-- the code of a program: its instructions, the addresses of its places, its effective headings, of which the first of a
-- name counts, and the spans of its slots
pub record PlainCode : Type 0 where
  pub instrs : List PlainInstr
  pub addresses : AddressMap
  pub headings : EntryMap
  pub spans : SpanMap

-- the code of a program, with its marks and the effective items of its procedures: that of main and then of each
-- procedure in order
abbrev pub Gen : MarkMap → ItemMap → (program : Forest) → PlainCode
Gen marks items program =
    let instrs = codes_joined (node_codes marks items program) in
    let nodes = node_spans marks items 0 0 program in
    record {
      instrs = instrs;
      addresses = from_entries (flat_map node_address nodes ++ addresses_in 0 instrs);
      headings = from_entries (headings_by_name marks items 0 program);
      spans = from_entries (flat_map span_by_slot nodes);
    }
