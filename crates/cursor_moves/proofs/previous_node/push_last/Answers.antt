use Rattle.std.proofs.Common.{sym, arith}
use Rattle.template_tree.specs.Positions.Stop.{visible_at}
use Rattle.cursor_moves.specs.Private.NextPath.{IsLastBelow}
use Rattle.cursor_moves.proofs.FoundNodes.{holds}
use Rattle.cursor_moves.proofs.Nodes.NextPaths.{not_missing, visible_is}
use Rattle.cursor_moves.proofs.Nodes.PathSteps.{path_shallow}
use Rattle.cursor_moves.proofs.previous_node.push_last.Goals as goal

pub push_last_below-requires-clause-room : goal.push_last_below-requires-clause-room
push_last_below-requires-clause-room c =
    let shallow = path_shallow c.args.tree.now.items c.args.path.now.items c.in-Some.node.now (sym c.in-Some.ensures.found) in
    omega (arith, shallow, c.requires.tree.shallow)

pub returns-in-Some : goal.returns-in-Some
returns-in-Some c =
    let items = c.args.tree.now.items in
    let path = c.args.path.now.items in
    let last = c.push_last_below.ensures in (
      last.0,
      last.1,
      holds (λ node. IsLastBelow node last.0) (visible_at items path) c.in-Some.node.now
          (visible_is items path c.in-Some.node.now c.requires.visible c.in-Some.ensures.found) last.2,
    )

pub returns-in_default : goal.returns-in_default
returns-in_default c =
    absurd (not_missing c.args.tree.now.items c.args.path.now.items c.requires.visible c.in_default.ensures.found)
