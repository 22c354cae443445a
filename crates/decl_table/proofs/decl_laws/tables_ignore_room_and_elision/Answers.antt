use Rattle.std.proofs.Common.{sym, ◌∙◌}
use Rattle.template_tree.specs.Programs.PlainTree.{roomless}
use Rattle.decl_table.specs.PlainDecls.{mentions_of}
use Rattle.decl_table.proofs.EditedHeadings.{headed_roomless}
use Rattle.decl_table.proofs.EditedScopes.{items_roomless}
use Rattle.decl_table.proofs.EditedUses.{uses_alike}
use Rattle.decl_table.proofs.Gaps.{mentions_roomless}
use Rattle.decl_table.proofs.PreparedNames.{names_roomless}
use Rattle.decl_table.proofs.TurnedNames.{table_turned}
use Rattle.decl_table.proofs.decl_laws.tables_ignore_room_and_elision.Goals as goal

pub returns-clause-table : goal.returns-clause-table
returns-clause-table c = λ decls program. (
  λ is. record { items_are = is.items_are; headings_are = is.headings_are; uses_are = is.uses_are; names_are = is.names_are },
  λ is. record { items_are = is.items_are; headings_are = is.headings_are; uses_are = is.uses_are; names_are = is.names_are },
)

pub returns-clause-program : goal.returns-clause-program
returns-clause-program c = λ decls program. (
  λ is. record {
    items_are = λ slot. is.items_are slot ∙ items_roomless slot program;
    headings_are = λ name. is.headings_are name ∙ headed_roomless name program;
    uses_are = λ name. uses_alike name (roomless program) program (mentions_of name decls.uses) (mentions_roomless name program) (is.uses_are name);
    names_are = is.names_are ∙ names_roomless program;
  },
  λ is. record {
    items_are = λ slot. is.items_are slot ∙ sym (items_roomless slot program);
    headings_are = λ name. is.headings_are name ∙ sym (headed_roomless name program);
    uses_are =
        λ name. uses_alike name program (roomless program) (mentions_of name decls.uses) (sym (mentions_roomless name program)) (is.uses_are name);
    names_are = is.names_are ∙ sym (names_roomless program);
  },
)

pub returns-clause-elision : goal.returns-clause-elision
returns-clause-elision c = λ decls program path.
    table_turned decls program path (c.checks_ignore_room_and_elision.ensures.elision program path)
