use Rattle.std.specs.Prelude.{length}
use Rattle.std.proofs.Common.{arith, ap}
use Rattle.decl_table.proofs.OpenedNames.{items_are}
use Rattle.decl_table.proofs.name_node.NameNode.drop_item.Goals as goal

pub remove-requires : goal.remove-requires
remove-requires c = record { there = omega (arith, c.requires.there, ap length (items_are c.self.inside c.args.self.now c.self.view_is)) }
