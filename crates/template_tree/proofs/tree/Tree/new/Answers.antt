use Rattle.std.specs.Prelude.{◌≡◌, List, Option, map}
use Rattle.std.proofs.Common.{ap}
use Rattle.plcs_grammar.specs.PlainPhrase.{PlainPhrase}
use Rattle.plcs_grammar.specs.declared.node_kind.NodeKind.{NodeKind}
use Rattle.template_tree.specs.Programs.PlainPhrasePlace.{plain_phrase_place}
use Rattle.template_tree.specs.Programs.PlainTree.{PlainNode, forest, roomless}
use Rattle.template_tree.specs.Programs.NewTree.{bare_label, new_items}
use Rattle.template_tree.proofs.Trees.NewPrograms.{new_is, new_is_tree}
use Rattle.template_tree.proofs.tree.Tree.new.Goals as goal

-- the items are those of the new program
items_are : (c : goal.After-new-2) → roomless (forest c.in-Ok-two.items.items) ≡ new_items
items_are c =
    new_is c.in-Ok-two.items.items c.in-Ok.inner.items
    record {
      label =
          record (bare_label 0 NodeKind.Main) { parts = map plain_phrase_place c.new.result.items; spare = c.in-Ok.inner.spare };
      inner = forest c.in-Ok.inner.items;
    }
    record {
      declaration = c.bare-declaration.result;
      statement = c.bare-statement.result;
      procedure = c.bare-procedure.result;
      declaration_is = c.bare-declaration.ensures;
      statement_is = c.bare-statement.ensures;
      procedure_is = c.bare-procedure.ensures;
      inner_is = c.in-Ok.ensures;
      main_is =
          ap (λ (parts : List (Option PlainPhrase)). let node : PlainNode = record { label = record (bare_label 0 NodeKind.Main) { parts = parts }; inner = forest c.in-Ok.inner.items } in node)
          (ap (map plain_phrase_place) c.new.ensures.items);
      items_are = c.in-Ok-two.ensures;
    }

pub returns-clause-program : goal.returns-clause-program
returns-clause-program c = items_are c

pub returns-clause-tree : goal.returns-clause-tree
returns-clause-tree c = new_is_tree (forest c.in-Ok-two.items.items) c.in-Ok-two.items.spare (items_are c)
