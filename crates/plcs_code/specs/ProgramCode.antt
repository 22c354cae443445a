-- The code of a program by its own marks and effective items, and what code depends on: neither room nor elision.
use Rattle.std.specs.Prelude.{◌≡◌, ℕ, List, map}
use Rattle.std.specs.FinMap.{from_entries}
use Rattle.plcs_base.specs.Mark.{MarkMap}
use Rattle.plcs_base.specs.Scope.{ItemMap}
use Rattle.template_tree.specs.Checks.Environment.{items_inside}
use Rattle.template_tree.specs.Checks.Marks.{Marks}
use Rattle.template_tree.specs.Checks.ProgramMaps.{MarksTell, ScopeTells, items_in}
use Rattle.template_tree.specs.Edits.Edit.{edit_at, whole}
use Rattle.template_tree.specs.Edits.Elision.{toggled}
use Rattle.template_tree.specs.Programs.PlainTree.{Forest, nodes, roomless}
use Rattle.plcs_code.specs.Gen.{Gen, PlainCode}

-- ---- the code of a program

-- the effective items of main and of each procedure, by its slot, with which the code of the program is made
abbrev pub program_items : (program : Forest) → ItemMap
program_items program = from_entries (map (λ node. (node.label.slot, items_inside node.inner)) (nodes program))

-- the code of a program by its own marks and its own effective items
abbrev pub program_code : (program : Forest) → PlainCode
program_code program = Gen (Marks program) (program_items program) program

-- ---- laws

-- the law of the items that code asks for: those that the map has of slots, and nothing else of it
abbrev pub CodeAsksItems : Type 0
CodeAsksItems =
    (marks : MarkMap) (items others : ItemMap) (program : Forest)
    → ((slot : ℕ) → items_in items slot ≡ items_in others slot)
    → Gen marks items program ≡ Gen marks others program

-- a program and it without room have the same code by the same marks and items
abbrev pub CodeIgnoresRoom : Type 0
CodeIgnoresRoom = (marks : MarkMap) (items : ItemMap) (program : Forest)
    → Gen marks items (roomless program) ≡ Gen marks items program

-- a program and it with the comment at a path turned have the same code by the same marks and items
abbrev pub CodeIgnoresElision : Type 0
CodeIgnoresElision =
    (marks : MarkMap) (items : ItemMap) (program : Forest) (path : List ℕ)
    → Gen marks items (edit_at toggled path program) ≡ Gen marks items program

-- the map of a program's effective items, with which its code is made, tells of the program
abbrev pub ProgramItemsTell : Type 0
ProgramItemsTell = (program : Forest) → ScopeTells (program_items program) program

-- the code that is made by any marks and items that tell of the program is the code of the program
abbrev pub CodeIsOfProgram : Type 0
CodeIsOfProgram =
    (program : Forest) (marks : MarkMap) (items : ItemMap) → MarksTell marks program → ScopeTells items program
    → Gen marks items program ≡ program_code program

-- the code of a program is that of it without room
abbrev pub ProgramCodeIgnoresRoom : Type 0
ProgramCodeIgnoresRoom = (program : Forest) → program_code (roomless program) ≡ program_code program

-- the code of a program is that of it with the comment at a path turned
abbrev pub ProgramCodeIgnoresElision : Type 0
ProgramCodeIgnoresElision =
    (program : Forest) (path : List ℕ) → program_code (edit_at toggled path program) ≡ program_code program

-- programs that are the same but for what is elided, and for room, have the same code
abbrev pub ProgramCodeIgnoresAllElision : Type 0
ProgramCodeIgnoresAllElision =
    (one other : Forest) → roomless (whole one) ≡ roomless (whole other) → program_code one ≡ program_code other
