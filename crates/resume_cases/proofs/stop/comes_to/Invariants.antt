use Rattle.template_tree.specs.Programs.PlainTree.{roomless_tree}
use Rattle.template_tree.specs.Positions.Stop.{IsStop, plain_stop}
use Rattle.resume_cases.proofs.stop.comes_to.Given as goal

abbrev pub invariant-parts : goal.invariant-parts
invariant-parts l = IsStop (roomless_tree l.tree).items (plain_stop l.at)
