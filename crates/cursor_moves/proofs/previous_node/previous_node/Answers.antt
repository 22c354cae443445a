use Rattle.std.specs.Prelude.{◌++◌}
use Rattle.std.specs.Option.{IsSome, IsSomeAnd}
use Rattle.std.proofs.Common.{ap, sym, ◌∙◌, arith, subst}
use Rattle.template_tree.specs.Positions.Stop.{visible_at}
use Rattle.cursor_moves.specs.Private.NextPath.{IsLastBelow, next_of}
use Rattle.cursor_moves.proofs.Nodes.PreviousNodes.{before_first_is, before_other_is, item_before_is}
use Rattle.cursor_moves.proofs.previous_node.previous_node.Goals as goal

pub returns-else-is_empty-clause-next : goal.returns-else-is_empty-clause-next
returns-else-is_empty-clause-next c =
    before_first_is c.args.tree.now.items c.args.path.now.items c.pop.new.self.items c.in-Some.k c.requires.visible
    (sym c.copy_path-previous.ensures ∙ c.in-Some.ensures.items) (omega (arith, c.in_default-checked_sub.ensures))
    (sym c.is_empty.ensures ∙ c.if-is_empty.false)

pub push_last-requires-clause-visible : goal.push_last-requires-clause-visible
push_last-requires-clause-visible c =
    subst (λ way. IsSome (visible_at c.args.tree.now.items way)) (sym c.push.ensures.items)
    (item_before_is c.args.tree.now.items c.args.path.now.items c.pop.new.self.items c.in-Some.k c.in-Some-checked_sub.before
    c.requires.visible (sym c.copy_path-previous.ensures ∙ c.in-Some.ensures.items) (omega (arith, c.in-Some-checked_sub.ensures)))

pub returns-clause-next : goal.returns-clause-next
returns-clause-next c =
    let items = c.args.tree.now.items in
    let last = c.push_last.ensures in
    ap (next_of items) (last.1 ∙ ap (λ way. way ++ last.0) c.push.ensures.items)
    ∙ before_other_is items c.args.path.now.items c.pop.new.self.items c.in-Some.k c.in-Some-checked_sub.before last.0
    c.requires.visible (sym c.copy_path-previous.ensures ∙ c.in-Some.ensures.items) (omega (arith, c.in-Some-checked_sub.ensures))
    (subst (λ way. IsSomeAnd (visible_at items way) (λ node. IsLastBelow node last.0)) c.push.ensures.items last.2)
