-- The laws of code: its lengths, jumps, spans, places, addresses and entries.
use Rattle.std.specs.Prelude.{◌≡◌, ◌↔◌, ℕ, ◌+◌, ◌≤◌, ℤ, ◌+ℤ◌, pos, Bool, false, true, All, IsSome, length, List, map, take, drop, Option, None, Some, is_some, not, ◌&&◌, ◌==◌, option_and_then, option_map, slice_get}
use Rattle.std.specs.FinMap.{get}
use Rattle.plcs_base.specs.Mark.{MarkMap}
use Rattle.plcs_base.specs.Scope.{ItemMap}
use Rattle.plcs_grammar.specs.declared.node_kind.NodeKind.{NodeKind}
use Rattle.template_tree.specs.Checks.Environment.{Sig}
use Rattle.template_tree.specs.Checks.Mention.{phrase_at}
use Rattle.template_tree.specs.Positions.Place.{Exists, PlainPlace, Site, passes_in, place_at, site, site_start}
use Rattle.template_tree.specs.Programs.PlainTree.{Forest, Label}
use Rattle.template_tree.specs.Programs.Program.{IsProgram}
use Rattle.template_tree.specs.Programs.Slots.{times}
use Rattle.plcs_code.specs.declared.heading_entry.HeadingEntry.{HeadingEntry}
use Rattle.plcs_code.specs.Gen.{Gen, code_around, has_code, is_call, node_codes, node_lengths, own_code, own_instrs, own_length}
use Rattle.plcs_code.specs.PlainInstr.{PlainInstr, place_of}

-- ---- lengths

-- the law that the lengths of codes are told without them: jumps don't change how long a code is
abbrev pub LengthsAreTold : Type 0
LengthsAreTold = (marks : MarkMap) (items : ItemMap) (nodes : Forest)
    → map length (node_codes marks items nodes) ≡ node_lengths marks items nodes

-- the law that the own code of a node is as long, whatever the lengths of the codes inside it
abbrev pub OwnLengthsStay : Type 0
OwnLengthsStay =
    (marks : MarkMap) (items : ItemMap) (label : Label) (lengths : List ℕ)
    → length (own_instrs marks items label lengths) ≡ own_length marks items label

-- the law that the own code of a slot is as long as that of the node there
abbrev pub OwnCodesAreTold : Type 0
OwnCodesAreTold =
    (marks : MarkMap) (items : ItemMap) (program : Forest) (slot : ℕ) (found : Site) → site program slot ≡ Some found
    → length (own_code marks items program slot) ≡ own_length marks items found.label

-- by the laws of code: how many instructions the own codes of nodes have together, those of nodes inside others too
abbrev pub own_lengths : MarkMap → ItemMap → Forest → ℕ
own_lengths marks items Forest.nil = 0
own_lengths marks items (Forest.cons label inner rest) =
    own_length marks items label + own_lengths marks items inner + own_lengths marks items rest

-- the law that the code of a program is as long as the own codes of all its nodes together
abbrev pub OwnCodesAddUp : Type 0
OwnCodesAddUp =
    (marks : MarkMap) (items : ItemMap) (program : Forest)
    → length (Gen marks items program).instrs ≡ own_lengths marks items program

-- ---- jumps

-- how far an instruction jumps, if it may jump; by the laws of code each jump stays in the code
abbrev pub jump_of : PlainInstr → Option ℤ
jump_of (PlainInstr.place at) = None
jump_of PlainInstr.suspend_placeholder = None
jump_of PlainInstr.suspend_marked = None
jump_of (PlainInstr.push_number z) = None
jump_of (PlainInstr.push_bit b) = None
jump_of (PlainInstr.push_text text) = None
jump_of (PlainInstr.load name) = None
jump_of (PlainInstr.load_at name) = None
jump_of (PlainInstr.store name) = None
jump_of (PlainInstr.store_at name) = None
jump_of (PlainInstr.unary op) = None
jump_of (PlainInstr.binary op) = None
jump_of (PlainInstr.builtin function n) = None
jump_of (PlainInstr.jump d) = Some d
jump_of (PlainInstr.jump_false d) = Some d
jump_of (PlainInstr.for_enter slot name d) = Some d
jump_of (PlainInstr.for_next slot name d) = Some d
jump_of (PlainInstr.get name) = None
jump_of (PlainInstr.get_at name) = None
jump_of (PlainInstr.put n) = None
jump_of (PlainInstr.put_skip n) = None
jump_of (PlainInstr.reference name) = None
jump_of (PlainInstr.reference_at name) = None
jump_of PlainInstr.dummy = None
jump_of (PlainInstr.call name n) = None
jump_of (PlainInstr.parameter name ty) = None
jump_of (PlainInstr.cell name ty n) = None
jump_of PlainInstr.leave = None

-- each jump of the code goes to an address in it, or to the one behind it
abbrev pub JumpsStayIn : List PlainInstr → Type 0
JumpsStayIn code =
    (address : ℕ) (d : ℤ) → option_and_then jump_of (slice_get code address) ≡ Some d
    → (target : ℕ) × (pos target ≡ pos (address + 1) +ℤ d) × (target ≤ length code)

-- the law that the jumps of a program's code stay inside it
abbrev pub JumpsStayInside : Type 0
JumpsStayInside = (marks : MarkMap) (items : ItemMap) (program : Forest) → JumpsStayIn (Gen marks items program).instrs

-- the law that the jumps of the code of each of the nodes stay inside that
abbrev pub JumpsStayInNodes : Type 0
JumpsStayInNodes = (marks : MarkMap) (items : ItemMap) (nodes : Forest) → All JumpsStayIn (node_codes marks items nodes)

-- ---- spans

-- the instructions from an address on are the code, if it isn't longer than they are, as the law of spans says it
abbrev pub HasCodeAt : List PlainInstr → (start : ℕ) → List PlainInstr → Type 0
HasCodeAt instrs start code = take (length code) (drop start instrs) ≡ code

-- the code of the site of a slot stands in that of the program where the span of the slot says
abbrev pub SpanHolds : MarkMap → ItemMap → (program : Forest) → (slot : ℕ) → Site → Type 0
SpanHolds marks items program slot site =
    let whole = Gen marks items program in
    let code = code_around marks items site.label (node_codes marks items site.inner) in
    (start : ℕ) × (get whole.spans slot ≡ Some (start, length code)) × HasCodeAt whole.instrs start code

-- the law that the slot of each node that has code has the span of that code; a slot that stands but once, at a node
-- without code, has none, and nor has one that stands nowhere
pub record SpansHoldCode : Type 0 where
  pub held : (marks : MarkMap) (items : ItemMap) (program : Forest) (slot : ℕ) (found : Site)
      → site program slot ≡ Some found → has_code found.label.kind ≡ true
      → SpanHolds marks items program slot found
  pub codeless : (marks : MarkMap) (items : ItemMap) (program : Forest) (slot : ℕ) (found : Site)
      → times slot program ≤ 1 → site program slot ≡ Some found → has_code found.label.kind ≡ false
      → get (Gen marks items program).spans slot ≡ None
  pub absent : (marks : MarkMap) (items : ItemMap) (program : Forest) (slot : ℕ)
      → site program slot ≡ None → get (Gen marks items program).spans slot ≡ None

-- ---- places

-- whether the marks have one of the first phrase in the slot, as the law of code asks on the addresses of places
abbrev pub is_marked_first : MarkMap → (slot : ℕ) → Bool
is_marked_first marks slot = is_some (get marks (phrase_at slot 0))

-- the law that a place of a program whose slot stands but once exists, by the marks, exactly where code has an
-- address for it
abbrev pub PlacesHaveAddresses : Type 0
PlacesHaveAddresses =
    (marks : MarkMap) (items : ItemMap) (program : Forest) (place : PlainPlace) → IsProgram program
    → times place.slot program ≤ 1
    → Exists (is_marked_first marks) program place ↔ IsSome (get (Gen marks items program).addresses (place_of place))

-- ---- what stands at addresses

-- whether a step ends at the point of a node of the kind, if a run has that, as the law of addresses says it: not at
-- the start of what passes a run on, nor where a call comes back
abbrev pub ends_step : NodeKind → (point : ℕ) → Bool
ends_step kind point = not (passes_in kind && (point == 0)) && not (is_call kind && (point == 1))

-- the law that a place whose slot stands but once has at its address the step that ends there
abbrev pub AddressesHoldSteps : Type 0
AddressesHoldSteps =
    (marks : MarkMap) (items : ItemMap) (program : Forest) (place : PlainPlace) (found : Site) (address : ℕ)
    → times place.slot program ≤ 1 → site program place.slot ≡ Some found
    → ends_step found.label.kind place.point ≡ true
    → get (Gen marks items program).addresses (place_of place) ≡ Some address
    → slice_get (Gen marks items program).instrs address ≡ Some (PlainInstr.place place)

-- the law that the start of a node of a program that passes a run on has the address at which the span of its code
-- begins, and there stands the step at which a run begins that comes to it
abbrev pub PassedStartsStand : Type 0
PassedStartsStand =
    (marks : MarkMap) (items : ItemMap) (program : Forest) (slot : ℕ) (found : Site) → IsProgram program
    → site program slot ≡ Some found → passes_in found.label.kind ≡ true
    → (start count : ℕ) × (get (Gen marks items program).spans slot ≡ Some (start, count))
    × (get (Gen marks items program).addresses (place_of (place_at slot 0)) ≡ Some start)
    × (slice_get (Gen marks items program).instrs start ≡ Some (PlainInstr.place (site_start found)))

-- the law that where a call comes back has the address at which the span of its code ends
abbrev pub CallsComeBack : Type 0
CallsComeBack =
    (marks : MarkMap) (items : ItemMap) (program : Forest) (slot : ℕ) (found : Site)
    → site program slot ≡ Some found → is_call found.label.kind ≡ true
    → (start count : ℕ) × (get (Gen marks items program).spans slot ≡ Some (start, count))
    × (get (Gen marks items program).addresses (place_of (place_at slot 1)) ≡ Some (start + count))

-- ---- entries

-- the law that the headings that code knows are the effective ones, each of the same slot
abbrev pub EntriesAreHeadings : Type 0
EntriesAreHeadings =
    (marks : MarkMap) (items : ItemMap) (program : Forest) (name : List ℕ)
    → option_map (λ entry. entry.slot.0) (get (Gen marks items program).headings name)
    ≡ option_map (λ signature. signature.slot) (Sig program name)

-- the law that the procedure of an entry, whose slot stands but once, begins at the address of the entry
abbrev pub EntriesBeginProcedures : Type 0
EntriesBeginProcedures =
    (marks : MarkMap) (items : ItemMap) (program : Forest) (name : List ℕ) (entry : HeadingEntry)
    → times entry.slot.0 program ≤ 1
    → get (Gen marks items program).headings name ≡ Some entry
    → (count : ℕ) × (get (Gen marks items program).spans entry.slot.0 ≡ Some (entry.address, count))
