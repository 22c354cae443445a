-- Which table of declarations is that of which program.
use Rattle.std.specs.Prelude.{◌≡◌, ℕ, List, option_map}
use Rattle.template_tree.specs.declared.change.Change.{Change}
use Rattle.template_tree.specs.Checks.Environment.{Sig}
use Rattle.template_tree.specs.Checks.Mention.{AreUses}
use Rattle.template_tree.specs.Edits.Edit.{Differs}
use Rattle.template_tree.specs.Programs.PlainTree.{Forest, PlainTree}
use Rattle.template_tree.specs.Programs.Tree.{IsTree}
use Rattle.template_tree.specs.Checks.ProgramMaps.{ScopeTells}
use Rattle.decl_table.specs.Names.{names_of}
use Rattle.decl_table.specs.PlainDecls.{PlainDecls, mentions_of, slot_of}

-- the table of declarations is that of the program: each procedure's effective items, each name's effective
-- heading, each name's uses, and the names of each node
pub record IsDeclsOf (decls : PlainDecls) (program : Forest) : Type 0 where
  pub items_are : ScopeTells decls.items program
  pub headings_are : (name : List ℕ)
      → slot_of name decls.headings ≡ option_map (λ signature. signature.slot) (Sig program name)
  pub uses_are : (name : List ℕ) → AreUses name program (mentions_of name decls.uses)
  pub names_are : decls.names ≡ names_of program

-- the table of declarations is that of this tree, from which the one after the edit differs by the change
pub record IsDeclsBefore (decls : PlainDecls) (before after : PlainTree) (change : Change) : Type 0 where
  pub tree : IsTree before
  pub decls_are : IsDeclsOf decls before.items
  pub differs : Differs before after change
