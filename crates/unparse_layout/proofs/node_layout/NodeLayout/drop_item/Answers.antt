use Rattle.std.specs.Prelude.{length, map}
use Rattle.std.specs.List.{remove}
use Rattle.std.proofs.Common.{arith, ap, sym, ◌∙◌}
use Rattle.prefix_sums.specs.PlainPrefixSums.{PlainPrefixSums}
use Rattle.unparse_layout.specs.Private.Height.{height}
use Rattle.unparse_layout.specs.Private.PlainNodeLayout.{PlainNodeLayouts}
use Rattle.unparse_layout.proofs.MendedLists.{remove_numbers}
use Rattle.unparse_layout.proofs.Opened.{items_are, numbers_length}
use Rattle.unparse_layout.proofs.node_layout.NodeLayout.drop_item.Goals as goal

pub remove-requires : goal.remove-requires
remove-requires c = record { there = omega (arith, c.requires.there, ap length (items_are c.self.inside c.args.self.now c.self.view_is)) }

pub remove-requires-2 : goal.remove-requires-2
remove-requires-2 c =
    record { there = omega (arith, c.requires.there, numbers_length c.self.inside c.args.self.now c.self.view_is c.self.invariant) }

pub invariant_of-self : goal.invariant_of-self
invariant_of-self c =
    record {
      heights =
          ap (λ (s : PlainPrefixSums). s.numbers) c.remove-2.ensures.left
          ∙ remove_numbers c.self.inside.heights.numbers c.self.inside.inner.items c.args.k c.self.invariant.heights
          ∙ ap (λ (l : PlainNodeLayouts). map height l.items) (sym c.remove.ensures.others);
    }
