use Rattle.std.proofs.Common.{◌∙◌, ap}
use Rattle.template_tree.specs.Positions.Path.{node_at}
use Rattle.decl_table.proofs.known_table.item.Goals as goal

pub returns : goal.returns
returns c =
    c.node.ensures.found ∙ ap (node_at c.args.tree.now.items) c.path_of_item.ensures ∙ c.items_are_nodes.ensures.found c.args.tree.now.items c.args.k
