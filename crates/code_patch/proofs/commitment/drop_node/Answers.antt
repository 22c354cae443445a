-- The node goes from the list and its length from the lengths, which are as many.
use Rattle.std.proofs.Common.{arith}
use Rattle.code_patch.proofs.ActedNodes.{forest_many, numbers_many}
use Rattle.code_patch.proofs.ActedSteps.{drop_made}
use Rattle.code_patch.proofs.commitment.drop_node.Goals as goal

pub remove-requires : goal.remove-requires
remove-requires g c = record { there = omega (arith, c.requires.fit, forest_many c.args.inner.now.items) }

pub remove-requires-2 : goal.remove-requires-2
remove-requires-2 g c =
    let items = c.args.inner.now.items in
    record { there = omega (arith, c.requires.fit, forest_many items, numbers_many items c.args.lengths.now.numbers c.args.k c.requires.lengths) }

pub returns : goal.returns
returns g c =
    let old = c.args.inner.now in
    drop_made c.args.k c.remove.result old c.remove.new.self c.args.lengths.now c.remove-2.new.self c.requires.lengths
    (omega (arith, c.requires.fit, forest_many old.items)) c.remove.ensures.left c.remove-2.ensures.left
