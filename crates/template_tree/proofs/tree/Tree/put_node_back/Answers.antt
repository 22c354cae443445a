use Rattle.std.specs.Prelude.{refl, [], ◌∷◌}
use Rattle.std.proofs.Common.{ap, sym}
use Rattle.template_tree.specs.Programs.PlainTree.{Forest, PlainTree, roomless_node, roomless_tree}
use Rattle.template_tree.proofs.Room.RoomlessEdits.{with_edit_is, nowhere_is, stays}
use Rattle.template_tree.proofs.tree.Tree.put_node_back.Goals as goal

pub returns-in_default : goal.returns-in_default
returns-in_default c =
    rw c.in_default.is
    (ap (λ (items : Forest). let t : PlainTree = record (roomless_tree c.args.self.now) { items = items } in t)
    (sym (stays c.args.path.now.items (roomless_tree c.args.self.now).items)))

pub returns-in_default-node_mut : goal.returns-in_default-node_mut
returns-in_default-node_mut c =
    rw c.in-Some.is
    (nowhere_is (λ _. c.in-Some.node ∷ []) (λ _. roomless_node c.in-Some.node ∷ []) (λ _. refl) c.args.path.now.items c.args.self.now
    (sym c.in_default-node_mut.ensures.found))

pub returns : goal.returns
returns c =
    rw (c.in-Some.is, c.replace.ensures.after)
    (with_edit_is (λ _. c.in-Some.node ∷ []) (λ _. roomless_node c.in-Some.node ∷ []) (λ _. refl) c.args.path.now.items c.args.self.now)
