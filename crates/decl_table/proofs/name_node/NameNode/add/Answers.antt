use Rattle.std.specs.Prelude.{length}
use Rattle.std.proofs.Common.{arith, ap}
use Rattle.decl_table.proofs.OpenedNames.{items_are}
use Rattle.decl_table.proofs.name_node.NameNode.add.Goals as goal

pub move_into-requires-clause-room : goal.move_into-requires-clause-room
move_into-requires-clause-room c =
    omega (arith, c.requires.fits, c.room.view_is, ap length (items_are c.self.inside c.args.self.now c.self.view_is))

pub insert_within-requires-clause-there : goal.insert_within-requires-clause-there
insert_within-requires-clause-there c =
    omega (
      arith,
      c.requires.there,
      ap length (items_are c.self.inside c.args.self.now c.self.view_is),
      ap length c.move_into.ensures.items,
    )

pub insert_within-requires-clause-room : goal.insert_within-requires-clause-room
insert_within-requires-clause-room c =
    omega (
      arith,
      c.requires.fits,
      c.room.view_is,
      c.move_into.ensures.room,
      ap length (items_are c.self.inside c.args.self.now c.self.view_is),
    )
