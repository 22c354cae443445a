use Rattle.std.specs.Prelude.{◌≡◌, refl, None}
use Rattle.std.proofs.Common.{ap}
use Rattle.template_tree.specs.Programs.PlainTree.{PlainTree, roomless_node}
use Rattle.template_tree.specs.Positions.Path.{node_at}
use Rattle.template_tree.specs.Edits.Receipt.{PlainUndoing}
use Rattle.template_tree.specs.Edits.TreeEdit.{TreeEdit}
use Rattle.template_tree.specs.Private.Exchange.{MayReplace}
use Rattle.template_tree.proofs.Puts.PutEdits.{edit_there, put_receipt, of_there}
use Rattle.template_tree.proofs.tree.Tree.put.Goals as goal

pub returns-clause-edit : goal.returns-clause-edit
returns-clause-edit c =
    let drawn : c.self.inside.drawn ≡ c.args.self.now.drawn = ap (λ (t : PlainTree). t.drawn) c.self.view_is in
    let live : c.self.inside.live ≡ c.args.self.now.live = ap (λ (t : PlainTree). t.live) c.self.view_is in
    let there = c.exchange-old.ensures.old in
    edit_there (TreeEdit.put c.args.node) (node_at c.args.self.now.items c.args.path.now.items) c.args.self.now _ _ None c.exchange-old.result.0 there
    (put_receipt c.args.self.now c.args.path.now.items c.exchange-old.result.0 c.args.node _ c.exchange-old.result.1
    (PlainUndoing.put (roomless_node c.exchange-old.result.0)) None _ c.requires.tree there
    (of_there (node_at c.args.self.now.items c.args.path.now.items) (MayReplace c.args.self.now c.args.node) c.exchange-old.result.0 there c.requires.fits)
    c.exchange-old.ensures.put c.exchange-old.ensures.change refl refl (refl, refl) refl (λ _. tt)
    (λ i. record { change = c.exchange-old.result.1; path = c.copy_path.ensures i; undoing = PlainUndoing.put (roomless_node c.exchange-old.result.0); drawn = drawn i; live = live i }))
