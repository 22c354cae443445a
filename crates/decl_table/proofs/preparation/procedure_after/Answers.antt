-- The item at the first number of the path, unless it was dropped itself.
use Rattle.std.proofs.Common.{ap, sym, ◌∙◌}
use Rattle.template_tree.specs.Positions.Path.{node_at}
use Rattle.decl_table.proofs.LeftItems.{left_none, left_nowhere, left_some}
use Rattle.decl_table.proofs.MendedNameLists.{empty}
use Rattle.decl_table.proofs.preparation.procedure_after.Goals as goal

pub returns-in_default-clause-procedure : goal.returns-in_default-clause-procedure
returns-in_default-clause-procedure c =
    left_nowhere c.args.change.now.what c.args.path.now c.args.tree.now.items (empty c.args.path.now c.in_default.ensures.cases)

pub returns-then-is_item_dropped-clause-procedure : goal.returns-then-is_item_dropped-clause-procedure
returns-then-is_item_dropped-clause-procedure c =
    left_none c.args.change.now.what c.args.path.now c.in-Some.k.now c.in-Some.rest.now c.args.tree.now.items c.in-Some.ensures.cases.0
    (sym c.is_item_dropped.ensures ∙ c.if-is_item_dropped.true)

pub returns-clause-procedure : goal.returns-clause-procedure
returns-clause-procedure c =
    c.node.ensures.found
    ∙ ap (node_at c.args.tree.now.items) c.path_of_item.ensures
    ∙ c.items_are_nodes.ensures.found c.args.tree.now.items c.in-Some.k.now
    ∙ left_some c.args.change.now.what c.args.path.now c.in-Some.k.now c.in-Some.rest.now c.args.tree.now.items c.in-Some.ensures.cases.0
    (sym c.is_item_dropped.ensures ∙ c.if-is_item_dropped.false)
