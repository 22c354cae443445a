use Rattle.template_tree.specs.Programs.PlainTree.{roomless}
use Rattle.template_tree.specs.Positions.Stop.{IsStop, plain_stop}
use Rattle.tree_cases.proofs.stop_calls.tell_stops.Given as goal

abbrev pub invariant-loop : goal.invariant-loop
invariant-loop l = IsStop (roomless l.tree.items) (plain_stop l.at)
