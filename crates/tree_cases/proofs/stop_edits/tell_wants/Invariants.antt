use Rattle.template_tree.specs.Programs.PlainTree.{roomless_tree}
use Rattle.template_tree.specs.Positions.Stop.{IsStop, plain_stop}
use Rattle.tree_cases.proofs.stop_edits.tell_wants.Given as goal

abbrev pub invariant-stops : goal.invariant-stops
invariant-stops l = IsStop (roomless_tree l.tree).items (plain_stop l.at)
