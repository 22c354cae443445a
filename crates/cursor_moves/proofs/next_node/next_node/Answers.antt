use Rattle.std.specs.Prelude.{◌++◌, ◌∷◌, [], length, None, Some}
use Rattle.std.proofs.Common.{ap, sym, ◌∙◌, arith, subst, lit<}
use Rattle.cursor_moves.specs.Private.NextPath.{LeadsOn, next_with}
use Rattle.cursor_moves.proofs.Nodes.PathSteps.{leads_to}
use Rattle.cursor_moves.proofs.Nodes.NextPaths.{next_beyond, next_inside, not_missing, room_inside, visible_is}
use Rattle.cursor_moves.proofs.next_node.next_node.Goals as goal

pub returns-in_default : goal.returns-in_default
returns-in_default c = absurd (not_missing c.args.tree.now.items c.args.path.now.items c.requires.visible c.in_default.ensures.found)

pub push-requires : goal.push-requires
push-requires c =
    let items = c.args.tree.now.items in
    let path = c.args.path.now.items in
    let room = room_inside items path c.in-Some.node.now (sym c.in-Some.ensures.found) (sym c.shows_inside.ensures ∙ c.if-shows_inside.true) in
    (lit< tt, omega (arith, room, ap length c.copy_path-next.ensures, c.requires.tree.shallow))

pub returns-then-shows_inside : goal.returns-then-shows_inside
returns-then-shows_inside c =
    let items = c.args.tree.now.items in
    let path = c.args.path.now.items in
    ap Some (c.push.ensures.items ∙ ap (λ way. way ++ 0 ∷ []) c.copy_path-next.ensures)
    ∙ sym (next_inside items path c.in-Some.node.now (visible_is items path c.in-Some.node.now c.requires.visible c.in-Some.ensures.found) (sym c.shows_inside.ensures ∙ c.if-shows_inside.true))

pub node_behind-requires-clause-there : goal.node_behind-requires-clause-there
node_behind-requires-clause-there c =
    let items = c.args.tree.now.items in
    subst (LeadsOn items) (sym c.copy_path-next.ensures) (leads_to items c.args.path.now.items c.in-Some.node.now (sym c.in-Some.ensures.found))

pub returns : goal.returns
returns c =
    let items = c.args.tree.now.items in
    let path = c.args.path.now.items in
    c.node_behind.ensures
    ∙ ap (next_with None items) c.copy_path-next.ensures
    ∙ sym (next_beyond items path c.in-Some.node.now (visible_is items path c.in-Some.node.now c.requires.visible c.in-Some.ensures.found) (sym c.shows_inside.ensures ∙ c.if-shows_inside.false))
