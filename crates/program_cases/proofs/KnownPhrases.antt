-- What the table of a whole program knows.
use Rattle.std.proofs.Common.{ap}
use Rattle.plcs_grammar.specs.PlainPhrase.{PlainPhrase}
use Rattle.decl_table.specs.Agreement.{IsDeclsOf}
use Rattle.decl_table.specs.PlainDecls.{PlainDecls}
use Rattle.template_tree.specs.Checks.Environment.{item_named}
use Rattle.template_tree.specs.Programs.PlainTree.{Forest, PlainNode}
use Rattle.decl_table.specs.Knowledge.{Knows}

-- the table of a program knows all that is asked for where a phrase of it is checked
pub knows : (decls : PlainDecls) (program : Forest) → IsDeclsOf decls program → (procedure : PlainNode) (phrase : PlainPhrase)
    → Knows decls program procedure phrase
knows decls program are procedure phrase =
    record {
      items = λ name is. ap (item_named name) (are.items_are procedure.label.slot);
      headings = λ name is. are.headings_are name;
      parameters = λ name is signature there other among. ap (item_named other) (are.items_are signature.slot);
    }
