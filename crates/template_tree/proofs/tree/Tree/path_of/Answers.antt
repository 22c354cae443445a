use Rattle.std.proofs.Common.{◌≡◌, ◌∙◌, Some, ap, subst}
use Rattle.std.specs.Prelude.{IsNone, ◌↔◌}
use Rattle.template_tree.specs.Programs.PlainTree.{PlainTree, Forest, forest}
use Rattle.template_tree.specs.Programs.Slots.{times}
use Rattle.template_tree.proofs.Trees.SlotPaths.{settled}
use Rattle.template_tree.proofs.tree.Tree.path_of.Goals as goal

pub returns-in-Some-clause-none : goal.returns-in-Some-clause-none
returns-in-Some-clause-none c =
    settled (λ path. path.items) c.args.slot.0 c.args.self.now.items (Some c.in-Some.path) tt c.in-Some.ensures

pub returns-clause-none : goal.returns-clause-none
returns-clause-none c =
    let items : forest c.as_slice.result.now ≡ c.args.self.now.items =
    ap forest c.as_slice.ensures ∙ ap (λ (tree : PlainTree). tree.items) c.self.view_is in
    subst (λ (f : Forest). IsNone c.path_in.result ↔ (times c.args.slot.0 f ≡ 0)) items
    (settled (λ path. path.items) c.args.slot.0 (forest c.as_slice.result.now) c.path_in.result c.path_in.ensures.none c.path_in.ensures.path)
