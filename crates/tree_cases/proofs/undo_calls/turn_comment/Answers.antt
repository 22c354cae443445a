use Rattle.std.proofs.Common.{ap, sym, subst, ◌∙◌}
use Rattle.edit_undo.specs.EarlierTree.{RingFits}
use Rattle.template_tree.specs.Programs.PlainTree.{PlainTree, roomless_tree}
use Rattle.tree_cases.proofs.undo_calls.turn_comment.Goals as goal

pub returns-clause-fits : goal.returns-clause-fits
returns-clause-fits c =
    let old = c.args.tree.now in
    let path = c.in_ok-at.at.items in
    subst (RingFits c.args.ring.now) (c.room_is_not_shown.ensures.turns old path ∙ sym (ap (λ (t : PlainTree). roomless_tree t) c.elide.ensures.changed))
    (c.toggles_leave_earlier.ensures (roomless_tree old) path c.args.ring.now ((c.room_is_not_shown.ensures.trees old).0 c.requires.tree)
    c.requires.fits).0
