-- The list and the numbers move into the room, which is larger than they are; then the node comes with its number.
use Rattle.std.specs.Prelude.{◌≡◌, length, map}
use Rattle.std.specs.List.{insert}
use Rattle.std.proofs.Common.{arith, ap, sym, ◌∙◌}
use Rattle.prefix_sums.specs.PlainPrefixSums.{PlainPrefixSums}
use Rattle.unparse_layout.specs.Private.Height.{height}
use Rattle.unparse_layout.specs.Private.PlainNodeLayout.{PlainNodeLayouts, node_layouts}
use Rattle.unparse_layout.proofs.MendedLists.{insert_count, insert_numbers, numbers_fit}
use Rattle.unparse_layout.proofs.Heights.{height_le}
use Rattle.unparse_layout.proofs.Opened.{items_are, numbers_are, numbers_length}
use Rattle.unparse_layout.proofs.node_layout.NodeLayout.add.Goals as goal

pub height-number-requires : goal.height-number-requires
height-number-requires c =
    record {
      fits =
          omega (
            arith,
            height_le c.args.item,
            insert_count (node_layouts c.args.self.now.inner) c.args.k c.args.item c.requires.there,
            c.requires.few,
          );
    }

pub move_into-requires-clause-room : goal.move_into-requires-clause-room
move_into-requires-clause-room c =
    omega (arith, c.requires.fits, c.room.view_is, ap length (items_are c.self.inside c.args.self.now c.self.view_is))

pub insert_within-requires-clause-there : goal.insert_within-requires-clause-there
insert_within-requires-clause-there c =
    omega (
      arith,
      c.requires.there,
      ap length (items_are c.self.inside c.args.self.now c.self.view_is),
      ap length c.move_into.ensures.items,
    )

pub insert_within-requires-clause-room : goal.insert_within-requires-clause-room
insert_within-requires-clause-room c =
    omega (
      arith,
      c.requires.fits,
      c.room.view_is,
      c.move_into.ensures.room,
      ap length (items_are c.self.inside c.args.self.now c.self.view_is),
    )

pub move_into-requires-2-clause-room : goal.move_into-requires-2-clause-room
move_into-requires-2-clause-room c =
    omega (
      arith,
      c.requires.fits,
      c.room.view_is,
      numbers_length c.self.inside c.args.self.now c.self.view_is c.self.invariant,
    )

pub insert-requires-clause-there : goal.insert-requires-clause-there
insert-requires-clause-there c =
    omega (
      arith,
      c.requires.there,
      numbers_length c.self.inside c.args.self.now c.self.view_is c.self.invariant,
      ap length c.move_into-2.ensures.numbers,
    )

pub insert-requires-clause-room : goal.insert-requires-clause-room
insert-requires-clause-room c =
    omega (
      arith,
      c.requires.fits,
      c.room.view_is,
      c.move_into-2.ensures.room,
      numbers_length c.self.inside c.args.self.now c.self.view_is c.self.invariant,
    )

pub insert-requires-clause-fits : goal.insert-requires-clause-fits
insert-requires-clause-fits c =
    let items = node_layouts c.args.self.now.inner in
    let are = c.move_into-2.ensures.numbers ∙ numbers_are c.self.inside c.args.self.now c.self.view_is c.self.invariant in
    let news = insert_numbers c.move_into-2.new.self.numbers items c.args.k c.args.item c.height-number.result are c.height-number.ensures in
    omega (
      arith,
      numbers_fit (insert c.move_into-2.new.self.numbers c.args.k c.height-number.result) (insert items c.args.k c.args.item) _ news
          c.requires.few,
    )

pub invariant_of-self : goal.invariant_of-self
invariant_of-self c =
    let olds : c.move_into-2.new.self.numbers ≡ map height c.self.inside.inner.items = c.move_into-2.ensures.numbers ∙ c.self.invariant.heights in
    record {
      heights =
          ap (λ (s : PlainPrefixSums). s.numbers) c.insert.ensures
          ∙ insert_numbers c.move_into-2.new.self.numbers c.self.inside.inner.items c.args.k c.args.item c.height-number.result olds c.height-number.ensures
          ∙ ap (λ items. map height (insert items c.args.k c.args.item)) (sym c.move_into.ensures.items)
          ∙ ap (λ (l : PlainNodeLayouts). map height l.items) (sym c.insert_within.ensures);
    }
