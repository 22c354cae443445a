use Rattle.std.specs.Prelude.{length, map, slice_set}
use Rattle.std.proofs.Common.{arith, ap, sym, ◌∙◌}
use Rattle.prefix_sums.specs.PlainPrefixSums.{PlainPrefixSums}
use Rattle.unparse_layout.specs.Private.Height.{height}
use Rattle.unparse_layout.specs.Private.PlainNodeLayout.{PlainNodeLayouts, node_layouts}
use Rattle.unparse_layout.proofs.MendedLists.{numbers_fit, set_count, set_numbers}
use Rattle.unparse_layout.proofs.Heights.{height_le}
use Rattle.unparse_layout.proofs.Opened.{items_are, numbers_are, numbers_length}
use Rattle.unparse_layout.proofs.node_layout.NodeLayout.put.Goals as goal

pub height-number-requires : goal.height-number-requires
height-number-requires c =
    record {
      fits =
          omega (
            arith,
            height_le c.args.item,
            set_count (node_layouts c.args.self.now.inner) c.args.k c.args.item c.requires.there,
            c.requires.few,
          );
    }

pub put-requires : goal.put-requires
put-requires c = record { there = omega (arith, c.requires.there, ap length (items_are c.self.inside c.args.self.now c.self.view_is)) }

pub set-requires-clause-there : goal.set-requires-clause-there
set-requires-clause-there c =
    omega (arith, c.requires.there, numbers_length c.self.inside c.args.self.now c.self.view_is c.self.invariant)

pub set-requires-clause-fits : goal.set-requires-clause-fits
set-requires-clause-fits c =
    let items = node_layouts c.args.self.now.inner in
    let are = numbers_are c.self.inside c.args.self.now c.self.view_is c.self.invariant in
    let news = set_numbers c.self.inside.heights.numbers items c.args.k c.args.item c.height-number.result are c.height-number.ensures in
    omega (
      arith,
      numbers_fit (slice_set c.self.inside.heights.numbers c.args.k c.height-number.result) (slice_set items c.args.k c.args.item) _ news
          c.requires.few,
    )

pub invariant_of-self : goal.invariant_of-self
invariant_of-self c =
    record {
      heights =
          ap (λ (s : PlainPrefixSums). s.numbers) c.set.ensures
          ∙ set_numbers c.self.inside.heights.numbers c.self.inside.inner.items c.args.k c.args.item c.height-number.result c.self.invariant.heights
          c.height-number.ensures
          ∙ ap (λ (l : PlainNodeLayouts). map height l.items) (sym c.put.ensures);
    }
