use Rattle.std.specs.Prelude.{length}
use Rattle.std.proofs.Common.{arith, ap}
use Rattle.decl_table.proofs.OpenedNames.{items_are}
use Rattle.decl_table.proofs.name_node.NameNode.put.Goals as goal

pub put-requires : goal.put-requires
put-requires c = record { there = omega (arith, c.requires.there, ap length (items_are c.self.inside c.args.self.now c.self.view_is)) }
