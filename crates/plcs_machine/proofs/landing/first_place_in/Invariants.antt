use Rattle.std.specs.Prelude.{◌≡◌, ◌≤◌, ◌-◌, List, Some, IsSome, option_map}
use Rattle.plcs_store.specs.declared.frame.Frame.{Frame}
use Rattle.plcs_machine.specs.Fetched.{FetchesBy}
use Rattle.plcs_machine.specs.Passing.{settle}
use Rattle.plcs_machine.specs.Private.CountedSteps.{behind_many}
use Rattle.plcs_machine.specs.Private.MakingFrame.{making_of}
use Rattle.plcs_machine.proofs.landing.first_place_in.Given as goal

abbrev pub decreases-loop-left : goal.decreases-loop-left
decreases-loop-left g l = l.left

abbrev pub invariant-loop-left : goal.invariant-loop-left
invariant-loop-left g l = record {
  few : l.left ≤ l.fetches;
  begun :
      (frames : List Frame)
      → IsSome (settle frames (g.C.CodeView.code l.code).instrs l.fetches l.address (Some (making_of l.fn.cells l.arguments)))
      → option_map (behind_many (l.fetches - l.left)) (settle frames (g.C.CodeView.code l.code).instrs l.left l.at (Some (making_of l.cells l.given)))
      ≡ settle frames (g.C.CodeView.code l.code).instrs l.fetches l.address (Some (making_of l.fn.cells l.arguments));
  counted : FetchesBy (l.fetches - l.left) (g.W.Work.counts l.fn.work) (g.W.Work.counts l.work);
}
