use Rattle.std.specs.Prelude.{◌++◌, ◌∷◌, [], ◌+◌, slice_get}
use Rattle.std.proofs.Common.{ap, sym, ◌∙◌, arith, append_assoc, lit<}
use Rattle.std.proofs.lemmas.List.{append-nil}
use Rattle.std.proofs.lemmas.Option.{none-some, slice_get-get_or, slice_get_past}
use Rattle.template_tree.specs.Programs.PlainTree.{nodes}
use Rattle.cursor_moves.specs.Private.NextPath.{IsLastBelow}
use Rattle.cursor_moves.proofs.FoundNodes.{holds}
use Rattle.cursor_moves.proofs.Nodes.LastItems.{last_item, none_shown}
use Rattle.cursor_moves.proofs.Nodes.PathSteps.{item_smaller}
use Rattle.cursor_moves.proofs.previous_node.+push_last_below.Goals as goal

pub returns-in_default : goal.returns-in_default
returns-in_default t c = ([], sym (append-nil c.args.path.now.items), none_shown c.args.node.now c.in_default.ensures)

pub returns-in_default-child : goal.returns-in_default-child
returns-in_default-child t c =
    let node = c.args.node.now in
    let last = last_item node.label.elided (nodes node.inner) c.in-Some.k c.in-Some.ensures in
    let there = slice_get-get_or (nodes node.inner) c.in-Some.k node (omega (arith, last.1)) in
    absurd (none-some _ (c.in_default-child.ensures ∙ there))

pub push-requires : goal.push-requires
push-requires t c =
    let smaller = item_smaller c.args.node.now.inner c.in-Some.k c.in-Some-child.item.now (sym c.in-Some-child.ensures) in
    (lit< tt, omega (arith, smaller.1, c.requires.room))

pub push_last_below-requires : goal.push_last_below-requires
push_last_below-requires t c =
    let smaller = item_smaller c.args.node.now.inner c.in-Some.k c.in-Some-child.item.now (sym c.in-Some-child.ensures) in
    (omega (arith, smaller.1), (omega (arith, smaller.0, c.requires.few), omega (arith, smaller.1, c.requires.room, c.push.ensures.len)))

pub returns : goal.returns
returns t c =
    let node = c.args.node.now in
    let k = c.in-Some.k in
    let rest = c.push_last_below.ensures in
    let last = last_item node.label.elided (nodes node.inner) k c.in-Some.ensures in
    let past = slice_get_past (nodes node.inner) (k + 1) (omega (arith, last.1)) in (
      k ∷ rest.0,
      rest.1 ∙ ap (λ way. way ++ rest.0) c.push.ensures.items ∙ append_assoc c.args.path.now.items (k ∷ []) rest.0,
      (
        last.0,
        past,
        holds (λ item. IsLastBelow item rest.0) (slice_get (nodes node.inner) k) c.in-Some-child.item.now (sym c.in-Some-child.ensures) rest.2,
      ),
    )
