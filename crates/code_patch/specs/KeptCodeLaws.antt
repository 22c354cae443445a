-- The laws of kept code: what is kept of the code of a program tells just that code, is the same by all maps that tell
-- of the program, and depends neither on room nor on elision; nor do bills on room.
use Rattle.std.specs.Prelude.{◌≡◌, ℕ, List}
use Rattle.plcs_base.specs.Mark.{MarkMap}
use Rattle.plcs_base.specs.Scope.{ItemMap}
use Rattle.template_tree.specs.Checks.ProgramMaps.{MarksTell, ScopeTells}
use Rattle.template_tree.specs.declared.change.What.{What}
use Rattle.template_tree.specs.Edits.Edit.{edit_at}
use Rattle.template_tree.specs.Edits.Elision.{toggled}
use Rattle.template_tree.specs.Programs.PlainTree.{Forest, roomless}
use Rattle.plcs_code.specs.Gen.{Gen}
use Rattle.code_patch.specs.Bill.{edit_bill}
use Rattle.code_patch.specs.CodeEdit.{roomless_code}
use Rattle.code_patch.specs.CodeForest.{CodeForest, kept_code, kept_program, told_code}

-- code that is kept of a program by these marks and items, whatever the room of its lists, tells its code by them
abbrev pub KeptCodeIsTold : Type 0
KeptCodeIsTold =
    (code : CodeForest) (marks : MarkMap) (items : ItemMap) (program : Forest)
    → roomless_code code ≡ kept_code marks items program → told_code code ≡ Gen marks items program

-- what is kept of the code of a program by any marks and items that tell of it is what is kept by its own
abbrev pub KeptCodeIsOfProgram : Type 0
KeptCodeIsOfProgram =
    (program : Forest) (marks : MarkMap) (items : ItemMap) → MarksTell marks program → ScopeTells items program
    → kept_code marks items program ≡ kept_program program

-- what is kept of the code of a program is the same whatever room its lists have
abbrev pub KeptCodeIgnoresRoom : Type 0
KeptCodeIgnoresRoom = (program : Forest) → kept_program (roomless program) ≡ kept_program program

-- and whichever of its comments is turned
abbrev pub KeptCodeIgnoresElision : Type 0
KeptCodeIgnoresElision =
    (program : Forest) (path : List ℕ) → kept_program (edit_at toggled path program) ≡ kept_program program

-- bills don't depend on the room of lists
abbrev pub BillsIgnoreRoom : Type 0
BillsIgnoreRoom =
    (what : What) (at : ℕ) (before after : Forest)
    → edit_bill what at (roomless before) (roomless after) ≡ edit_bill what at before after
