-- Where a run comes to that goes on in code: by jumps alone at the end of a node, and at once where a body begins.
-- Also that the step of a place stands at the address of that alone.
use Rattle.std.specs.Prelude.{◌≡◌, ℕ, zero, suc, ◌+◌, ◌<◌, ◌≤◌, ℤ, ◌+ℤ◌, pos, true, List, length, Some, slice_get}
use Rattle.std.specs.FinMap.{get}
use Rattle.std.specs.List.{list_any}
use Rattle.std.specs.Option.{option_to_list}
use Rattle.plcs_base.specs.Mark.{MarkMap}
use Rattle.plcs_base.specs.Scope.{ItemMap}
use Rattle.plcs_grammar.specs.declared.node_kind.NodeKind.{NodeKind}
use Rattle.plcs_grammar.specs.declared.template.Template.{Template}
use Rattle.template_tree.specs.Positions.Place.{PlainPlace, Site, begin, begins_run, goes_on_behind, site}
use Rattle.template_tree.specs.Programs.PlainTree.{Forest, Label}
use Rattle.template_tree.specs.Programs.Program.{IsProgram, sort_of, sorts}
use Rattle.template_tree.specs.Programs.Slots.{times}
use Rattle.plcs_code.specs.CodeLaws.{ends_step}
use Rattle.plcs_code.specs.Gen.{Gen, length_around, node_lengths}
use Rattle.plcs_code.specs.Pieces.{jumps, pieces}
use Rattle.plcs_code.specs.PlainInstr.{PlainInstr, place_of}

-- ---- by jumps alone

-- a run that comes to the address comes by so many jumps, and by no other instruction, to the step that ends at the
-- place
abbrev pub LandsBy : List PlainInstr → PlainPlace → (jumps address : ℕ) → Type 0
LandsBy instrs place zero address = slice_get instrs address ≡ Some (PlainInstr.place place)
LandsBy instrs place (suc jumps) address =
    (d : ℤ) × (target : ℕ) × (slice_get instrs address ≡ Some (PlainInstr.jump d))
    × (pos target ≡ pos (address + 1) +ℤ d)
    × LandsBy instrs place jumps target

-- a run that comes to the address comes to the step that ends at the place by jumps alone, which are fewer than the
-- instructions from the address on
pub record Lands (instrs : List PlainInstr) (address : ℕ) (place : PlainPlace) : Type 0 where
  pub jumps : ℕ
  pub few : address + jumps < length instrs
  pub by : LandsBy instrs place jumps address

-- where a run comes to at the end of the code of a node that it goes on behind: by jumps alone to where it goes on once
-- the node is done
abbrev pub StatementsGoOn : Type 0
StatementsGoOn =
    (marks : MarkMap) (items : ItemMap) (program : Forest) (slot : ℕ) (found : Site) → IsProgram program
    → site program slot ≡ Some found → goes_on_behind (sort_of found.label.kind) ≡ true
    → (start count : ℕ) × (get (Gen marks items program).spans slot ≡ Some (start, count))
    × Lands (Gen marks items program).instrs (start + count) found.after

-- ---- where bodies begin

-- where a run comes to the body of a node: so many instructions of the code of the node stand before that of what
-- stands inside it
abbrev pub length_before : MarkMap → ItemMap → Label → (inner : Forest) → ℕ
length_before marks items label inner =
    length (pieces marks items label).before
    + length (option_to_list (jumps marks items label (node_lengths marks items inner)).ahead)

-- in code what stands inside a node, if a run begins at any of it, starts at once with the place at which a run begins
-- that comes to it
abbrev pub BodiesBegin : Type 0
BodiesBegin =
    (marks : MarkMap) (items : ItemMap) (program : Forest) (slot : ℕ) (found : Site) (behind : PlainPlace)
    → IsProgram program
    → site program slot ≡ Some found → list_any begins_run (sorts found.inner) ≡ true
    → (start count : ℕ) × (get (Gen marks items program).spans slot ≡ Some (start, count))
    × (slice_get (Gen marks items program).instrs (start + length_before marks items found.label found.inner)
    ≡ Some (PlainInstr.place (begin found.inner behind)))

-- in code the second of the two bodies of an IF begins at once with the place at which a run begins that comes to it
abbrev pub SecondBodiesBegin : Type 0
SecondBodiesBegin =
    (marks : MarkMap) (items : ItemMap) (program : Forest) (slot : ℕ) (found : Site) (first : Label)
    (within rest : Forest) (behind : PlainPlace)
    → IsProgram program → site program slot ≡ Some found → found.label.kind ≡ NodeKind.Filled Template.IfElse
    → found.inner ≡ Forest.cons first within rest
    → (start count : ℕ) × (get (Gen marks items program).spans slot ≡ Some (start, count))
    × (slice_get (Gen marks items program).instrs
    (start + length_before marks items found.label found.inner
    + length_around marks items first (node_lengths marks items within) + 1)
    ≡ Some (PlainInstr.place (begin rest behind)))

-- ---- where steps stand

-- where a run that goes on in code comes to the step of a place, whose slot stands but once, it comes to the address of
-- that place
abbrev pub StepsHaveAddresses : Type 0
StepsHaveAddresses =
    (marks : MarkMap) (items : ItemMap) (program : Forest) (place : PlainPlace) (found : Site) (address : ℕ)
    → IsProgram program → times place.slot program ≤ 1 → site program place.slot ≡ Some found
    → ends_step found.label.kind place.point ≡ true
    → slice_get (Gen marks items program).instrs address ≡ Some (PlainInstr.place place)
    → get (Gen marks items program).addresses (place_of place) ≡ Some address
