use Rattle.std.specs.Prelude.{◌≡◌, length}
use Rattle.std.proofs.Common.{arith, sym, ap, ◌∙◌}
use Rattle.template_tree.proofs.tree.Tree.procedures.Goals as goal
use Rattle.template_tree.specs.Programs.PlainTree.{PlainTree, nodes, nodes_forest}
use Rattle.template_tree.proofs.Trees.Counts.{items_few, program_has_main}

-- its items are those of the plain tree
items_are : (c : goal.After-len) → c.len.result ≡ length (nodes c.args.self.now.items)
items_are c =
    c.len.ensures
    ∙ (sym (ap length (nodes_forest c.self.inside.items.items)) ∙ ap (λ (tree : PlainTree). length (nodes tree.items)) c.self.view_is)

pub overflow_cast-result : goal.overflow_cast-result
overflow_cast-result c = omega (arith, items_are c, items_few c.args.self.now.items, c.requires.tree.few)

pub returns : goal.returns
returns c = omega (arith, items_are c, program_has_main c.args.self.now.items c.requires.tree.program)
