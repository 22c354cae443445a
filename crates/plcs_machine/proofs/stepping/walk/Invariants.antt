-- What is left of the step, with the operands and the arguments so far, is what the whole step comes to.
use Rattle.std.specs.Prelude.{◌≡◌, ◌≤◌, ◌-◌, length, option_map}
use Rattle.plcs_store.specs.Configuration.{plain_configuration}
use Rattle.plcs_machine.specs.Exec.{run_from}
use Rattle.plcs_machine.specs.Fetched.{FetchesBy}
use Rattle.plcs_machine.specs.Private.CountedSteps.{behind_many}
use Rattle.plcs_machine.specs.Private.WalkedStep.{run_at}
use Rattle.plcs_machine.proofs.stepping.walk.Given as goal

abbrev pub decreases-loop-left : goal.decreases-loop-left
decreases-loop-left g l = l.left

abbrev pub invariant-loop-left : goal.invariant-loop-left
invariant-loop-left g l = record {
  few : l.left ≤ length (g.C.CodeView.code l.code).instrs;
  short : length (g.C.CodeView.code l.code).instrs ≤ 4294967295;
  runs :
      option_map (behind_many (length (g.C.CodeView.code l.code).instrs - l.left))
      (run_from (g.C.CodeView.code l.code) l.rest (plain_configuration l.fn.state) l.left l.address l.state.operands.values l.state.operands.arguments)
      ≡ run_at (g.C.CodeView.code l.code) l.rest (plain_configuration l.fn.state) l.fn.place;
  same : plain_configuration l.state ≡ plain_configuration l.fn.state;
  counted :
      FetchesBy (length (g.C.CodeView.code l.code).instrs - l.left) (g.W.Work.counts l.fn.work) (g.W.Work.counts l.work);
}
