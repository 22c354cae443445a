use Rattle.std.specs.Prelude.{[], ◌∷◌, ◌++◌, flat_map, take}
use Rattle.plcs_base.specs.Put.{PutsAll}
use Rattle.plcs_machine.specs.Fetched.{FetchesBy}
use Rattle.code_patch.specs.CodeForest.{told_code}
use Rattle.synth_session.specs.ProgramCode.{code_lines}
use Rattle.synth_session.proofs.session.Session.code_text.Given as goal

abbrev pub invariant-loop-address : goal.invariant-loop-address
invariant-loop-address g l = record {
  text : PutsAll g.O.ByteOut.puts l.fn.out
      (flat_map (λ line. line ++ 10 ∷ []) (take l.address (code_lines 0 (told_code l.fn.self.program.dependents.code.items).instrs))) l.out;
  counted : FetchesBy l.address (g.W.Work.counts l.fn.work) (g.W.Work.counts l.work);
}
