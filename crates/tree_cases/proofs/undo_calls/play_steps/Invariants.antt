use Rattle.edit_undo.specs.EarlierTree.{RingFits}
use Rattle.template_tree.specs.Programs.PlainTree.{roomless_tree}
use Rattle.template_tree.specs.Programs.Tree.{IsTree}
use Rattle.tree_cases.proofs.undo_calls.play_steps.Given as goal

abbrev pub invariant-loop-words : goal.invariant-loop-words
invariant-loop-words l = IsTree l.tree × RingFits l.ring (roomless_tree l.tree)
