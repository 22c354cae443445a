use Rattle.std.proofs.Common.{◌∙◌, ap}
use Rattle.template_tree.specs.Positions.Path.{node_at}
use Rattle.type_marks.proofs.procedures.procedure_item.Goals as goal

pub returns-clause-item : goal.returns-clause-item
returns-clause-item c =
    c.node.ensures.found ∙ ap (node_at c.args.tree.now.items) c.path_of_item.ensures ∙ c.items_are_nodes.ensures.found c.args.tree.now.items c.args.k
