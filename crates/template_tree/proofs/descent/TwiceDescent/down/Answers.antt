use Rattle.std.specs.Prelude.{◌≡◌, refl, ◌++◌, ◌∷◌, Some, None, option_and_then, slice_get}
use Rattle.std.proofs.Common.{ap, sym, ◌∙◌}
use mathlib.Core.Path.{fun_ext}
use borrow.Follows.Closed.{read_of}
use Rattle.std.specs.Option.{ghost_name_of}
use Rattle.template_tree.specs.contracts.node.Node as node_row
use Rattle.template_tree.specs.Programs.PlainTree.{PlainNode}
use Rattle.template_tree.specs.Edits.Lend.{put_in}
use Rattle.template_tree.specs.Positions.Path.{below}
use Rattle.template_tree.proofs.Trees.LentNodes.{lost_below, lost_in, with_below, lent_twice, lent_back, found_twice, both}
use Rattle.template_tree.proofs.descent.TwiceDescent.down.Goals as goal

pub returns-in_default-down : goal.returns-in_default-down
returns-in_default-down g c =
    let away : None ≡ option_and_then (λ item. below item c.in-Some.front.now) (slice_get c.args.list.now.items c.args.k) =
    c.in_default-down.ensures.found
    in (
      refl,
      record {
        writes_back = tt;
        found =
            rw c.in-Some.ensures.parts
            (lost_in c.in-Some.front.now (c.in-Some.front.now ++ (c.in-Some.middle ∷ c.in-Some.back.now)) (λ item. lost_below item c.in-Some.front.now (c.in-Some.middle ∷ c.in-Some.back.now))
            (slice_get c.args.list.now.items c.args.k) away);
      },
    )

pub returns : goal.returns
returns g c =
    let node : PlainNode = node_row.the_view c.node.inside in
    let there : option_and_then (λ item. below item c.in-Some.front.now) (slice_get c.args.list.now.items c.args.k) ≡ Some node =
    sym (ap Some c.node.view_is ∙ c.in-Some-down.ensures.found)
    in
    let path : c.args.path.now ≡ c.in-Some.front.now ++ (c.in-Some.middle ∷ c.in-Some.back.now) = c.in-Some.ensures.parts in
    let lent : (new : PlainNode)
    → put_in c.args.list.now c.args.k c.in-Some.front.now (with_below node.label c.node.inside.inner.items c.in-Some.middle c.in-Some.back.now new)
    ≡ put_in c.args.list.now c.args.k c.args.path.now new
    = λ new. rw path (lent_twice c.args.list.now c.args.k c.in-Some.front.now c.in-Some.middle c.in-Some.back.now node.label c.node.inside.inner.items there new)
    in
    let back : put_in c.args.list.now c.args.k c.in-Some.front.now node ≡ c.args.list.now =
    lent_back c.args.list.now c.args.k c.in-Some.front.now node there
    in (
      both (read_of (ghost_name_of c.down-3.result)) (fun_ext lent) back,
      record {
        writes_back = tt;
        found =
            c.down-3.ensures.found
            ∙ rw path (found_twice c.args.list.now.items c.args.k c.in-Some.front.now c.in-Some.middle c.in-Some.back.now node.label c.node.inside.inner.items there);
      },
    )
