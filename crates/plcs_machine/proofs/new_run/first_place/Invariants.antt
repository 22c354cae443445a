use Rattle.std.specs.Prelude.{◌≡◌, ◌-◌, length}
use Rattle.plcs_machine.specs.Enter.{begun_in}
use Rattle.plcs_machine.specs.Fetched.{FetchesBy}
use Rattle.plcs_machine.proofs.BegunRuns.{begun_at}
use Rattle.plcs_machine.proofs.new_run.first_place.Given as goal

abbrev pub decreases-loop-address : goal.decreases-loop-address
decreases-loop-address g l = length (g.C.CodeView.code l.code).instrs - l.address

abbrev pub invariant-loop-address : goal.invariant-loop-address
invariant-loop-address g l = record {
  begun : begun_at (g.C.CodeView.code l.code).instrs l.address l.cells ≡ begun_in (g.C.CodeView.code l.code).instrs l.fn.cells;
  counted : FetchesBy l.address (g.W.Work.counts l.fn.work) (g.W.Work.counts l.work);
}
