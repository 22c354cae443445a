use Rattle.std.specs.Prelude.{◌≡◌, ◌≤◌, ◌-◌, [], None, option_map}
use Rattle.plcs_machine.specs.Fetched.{FetchesBy}
use Rattle.plcs_machine.specs.Passing.{settle}
use Rattle.plcs_machine.specs.Private.CountedSteps.{behind_many}
use Rattle.plcs_machine.proofs.landing.next_place.Given as goal

abbrev pub decreases-loop-left : goal.decreases-loop-left
decreases-loop-left g l = l.left

abbrev pub invariant-loop-left : goal.invariant-loop-left
invariant-loop-left g l = record {
  few : l.left ≤ l.fetches;
  begun :
      option_map (behind_many (l.fetches - l.left)) (settle [] (g.C.CodeView.code l.code).instrs l.left l.at None)
      ≡ settle [] (g.C.CodeView.code l.code).instrs l.fetches l.address None;
  counted : FetchesBy (l.fetches - l.left) (g.W.Work.counts l.fn.work) (g.W.Work.counts l.work);
}
