use Rattle.template_tree.specs.Programs.Tree.{IsTree}
use Rattle.program_cases.proofs.play_lines.Given as goal

abbrev pub invariant-loop-line : goal.invariant-loop-line
invariant-loop-line l = IsTree l.held.tree
