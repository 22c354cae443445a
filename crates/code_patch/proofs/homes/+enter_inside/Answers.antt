-- What is kept inside a node is smaller than the node, and the numbers of its nodes end.
use Rattle.std.specs.Prelude.{◌≡◌, Some, slice_get}
use Rattle.std.proofs.Common.{arith, sym}
use Rattle.std.proofs.lemmas.Option.{slice_get_within}
use Rattle.code_patch.specs.CodeForest.{code_nodes}
use Rattle.code_patch.proofs.FoundInstrs.{child_weight}
use Rattle.code_patch.proofs.homes.+enter_inside.Goals as goal

pub enter_inside-requires : goal.enter_inside-requires
enter_inside-requires g t c κs within =
    let inner = c.args.node.now.inner in
    let child = c.in-Some.child.now in
    let there : slice_get (code_nodes inner) c.loop-child.k ≡ Some child = sym c.in-Some.ensures in
    (omega (arith, child_weight inner c.loop-child.k child there), within)

pub loop-child-smaller : goal.loop-child-smaller
loop-child-smaller g t c =
    let inner = c.args.node.now.inner in
    let there : slice_get (code_nodes inner) c.loop-child.k ≡ Some c.in-Some.child.now = sym c.in-Some.ensures in
    omega (arith, slice_get_within (code_nodes inner) c.loop-child.k c.in-Some.child.now there)
