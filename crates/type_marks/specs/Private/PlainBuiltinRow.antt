-- The plain form of a row of the table of built-in functions.
use Rattle.template_tree.specs.Checks.KindTable.{PlainBuiltinRow}
use Rattle.type_marks.specs.declared.kind_table.BuiltinRow.{BuiltinRow as Row}

-- the plain form of a row of the code's table of built-in functions
abbrev pub plain_builtin_row : Row → PlainBuiltinRow
plain_builtin_row row = record { takes = row.takes.now; perhaps = row.perhaps; gives = row.gives }
