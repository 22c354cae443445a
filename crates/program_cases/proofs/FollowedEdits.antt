-- Edits of a program that are followed by what is kept of it.
use Rattle.std.specs.Prelude.{◌≡◌}
use Rattle.std.proofs.Common.{subst, sym, ◌∙◌}
use Rattle.template_tree.specs.declared.change.Change.{Change}
use Rattle.template_tree.specs.Checks.Marks.{VerdictMap, Verdicts}
use Rattle.template_tree.specs.Programs.PlainTree.{PlainTree}
use Rattle.decl_table.specs.Agreement.{IsDeclsBefore, IsDeclsOf}
use Rattle.decl_table.specs.DeclEdit.{IsDeclEdit, PlainDeclEdit}
use Rattle.decl_table.specs.DeclLaws.{TablesIgnoreRoom}
use Rattle.decl_table.specs.PlainDecls.{PlainDecls, roomless_decls}
use Rattle.type_marks.specs.MarkEdit.{AreVerdictsBefore}

-- a table that an edit was prepared for is still that of the tree before it
pub before_still : TablesIgnoreRoom → (old new : PlainDecls) (before after : PlainTree) (change : Change)
    → roomless_decls new ≡ roomless_decls old → IsDeclsBefore old before after change → IsDeclsBefore new before after change
before_still room old new before after change same is =
    record {
      tree = is.tree;
      decls_are =
          (room new before.items).0
          (subst (λ decls. IsDeclsOf decls before.items) (sym same) ((room old before.items).1 is.decls_are));
      differs = is.differs;
    }

-- the verdicts are those before an edit that was prepared for the table
pub verdicts_before : TablesIgnoreRoom → (old new : PlainDecls) (verdicts : VerdictMap) (before after : PlainTree) (change : Change)
    (edit : PlainDeclEdit) → roomless_decls new ≡ roomless_decls old → IsDeclsBefore old before after change
    → verdicts ≡ Verdicts before.items → IsDeclEdit before after change new edit
    → AreVerdictsBefore verdicts after change new edit
verdicts_before room old new verdicts before after change edit same is verdicts_are prepared =
    record {
      before = before;
      table = before_still room old new before after change same is;
      verdicts_are = verdicts_are;
      edit_is = prepared;
    }
