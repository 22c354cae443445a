use Rattle.std.specs.Prelude.{◌∷◌, []}
use Rattle.std.specs.List.{insert}
use Rattle.std.proofs.Common.{arith, ap, sym, ◌∙◌, add-one}
use Rattle.template_tree.specs.Programs.PlainTree.{PlainNodes, forest}
use Rattle.template_tree.specs.Edits.Edit.{edit_at}
use Rattle.template_tree.specs.Edits.Receipt.{with_beside}
use Rattle.template_tree.proofs.Lists.ListChanges.{put_nowhere, put_before, put_behind}
use Rattle.template_tree.proofs.node.Nodes.insert_beside.Goals as goal

pub returns-then-k-len : goal.returns-then-k-len
returns-then-k-len c =
    put_nowhere (with_beside c.args.side c.args.node) c.args.self.now.items c.args.k (omega (arith, c.if-k-len.true, c.len.ensures))

pub returns-in-Before : goal.returns-in-Before
returns-in-Before c =
    ap (λ (list : PlainNodes). forest list.items) c.insert_within.ensures
    ∙ (put_before c.args.self.now.items c.args.k c.args.node (omega (arith, c.if-k-len.false, c.len.ensures))
    ∙ ap (λ side. edit_at (with_beside side c.args.node) (c.args.k ∷ []) (forest c.args.self.now.items)) (sym c.in-Before.is))

pub returns-in-After : goal.returns-in-After
returns-in-After c =
    ap (λ (list : PlainNodes). forest list.items) c.insert_within-in-After.ensures
    ∙ (ap (λ k. forest (insert c.args.self.now.items k c.args.node)) (add-one c.args.k)
    ∙ (put_behind c.args.self.now.items c.args.k c.args.node (omega (arith, c.if-k-len.false, c.len.ensures))
    ∙ ap (λ side. edit_at (with_beside side c.args.node) (c.args.k ∷ []) (forest c.args.self.now.items)) (sym c.in-After.is)))
