use Rattle.template_tree.specs.Programs.PlainTree.{roomless_tree}
use Rattle.template_tree.specs.Positions.Stop.{IsStop, plain_stop}
use Rattle.program_cases.proofs.lines.tell_stops.Given as goal

abbrev pub invariant-loop : goal.invariant-loop
invariant-loop l = IsStop (roomless_tree l.tree).items (plain_stop l.stop)
