-- The laws of tables of declarations: a prepared edit that is put in place leaves the table of the program after it,
-- and neither room nor elision plays a part in which table is that of a program.
use Rattle.std.specs.Prelude.{◌↔◌, ℕ, List}
use Rattle.template_tree.specs.Edits.Edit.{edit_at}
use Rattle.template_tree.specs.Edits.Elision.{toggled}
use Rattle.template_tree.specs.Programs.PlainTree.{Forest, roomless}
use Rattle.decl_table.specs.Agreement.{IsDeclsOf}
use Rattle.decl_table.specs.DeclEdit.{IsDeclsAfter, IsPutInPlace, PlainDeclEdit}
use Rattle.decl_table.specs.PlainDecls.{PlainDecls, roomless_decls}

-- a prepared edit that was put in place makes the table that of the program after it
abbrev pub PutInPlaceAgrees : Type 0
PutInPlaceAgrees =
    (edit : PlainDeclEdit) (before now : PlainDecls) (program : Forest)
    → IsDeclsAfter before edit program → IsPutInPlace edit before now → IsDeclsOf now program

-- a table is that of a program exactly where it is without its room
abbrev pub TablesIgnoreRoom : Type 0
TablesIgnoreRoom =
    (decls : PlainDecls) (program : Forest) → IsDeclsOf (roomless_decls decls) program ↔ IsDeclsOf decls program

-- a table is that of a program exactly where it is that of the program without the room of its lists
abbrev pub TablesIgnoreProgramRoom : Type 0
TablesIgnoreProgramRoom =
    (decls : PlainDecls) (program : Forest) → IsDeclsOf decls (roomless program) ↔ IsDeclsOf decls program

-- a table is that of a program exactly where it is that of the program with the comment at a path turned
abbrev pub TablesIgnoreElision : Type 0
TablesIgnoreElision =
    (decls : PlainDecls) (program : Forest) (path : List ℕ)
    → IsDeclsOf decls (edit_at toggled path program) ↔ IsDeclsOf decls program
