use Rattle.std.proofs.Common.{Some, ap, sym, ◌∙◌}
use Rattle.template_tree.specs.Programs.PlainTree.{Forest, forest, roomless}
use Rattle.file_store.specs.Private.Reader as machine
use Rattle.file_store.specs.Private.Views.{filling_of}
use Rattle.file_store.proofs.OpenNodes.{roomless_push}
use Rattle.file_store.proofs.reader.open_nodes.with_node.Goals as goal

pub returns-in-Ok : goal.returns-in-Ok
returns-in-Ok c =
    ap (λ (z : Forest). Some (let list : machine.OpenList = record { items = z; filling = filling_of c.args.list.filling } in list))
    (sym (ap (λ items. roomless (forest items)) c.in-Ok.ensures.put ∙ roomless_push c.args.list.items.items c.args.node))
