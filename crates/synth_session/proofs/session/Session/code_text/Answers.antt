use Rattle.std.proofs.Common.{ℕ, [], ◌∷◌, ◌++◌, List, Option, Some, ap, subst, sym, ◌∙◌, arith}
use Rattle.std.specs.Prelude.{flat_map}
use Rattle.plcs_base.specs.Put.{PutsAll, puts_next, puts_nothing}
use Rattle.plcs_base.specs.Putting.{puts_append}
use Rattle.plcs_code.specs.Gen.{PlainCode}
use Rattle.plcs_code.specs.PlainInstr.{PlainInstr, plain_instr}
use Rattle.code_patch.specs.CodeForest.{told_code}
use Rattle.synth_session.specs.ProgramCode.{code_lines}
use Rattle.synth_session.proofs.CodeLines.{nothing_fetched, one_fetched, text_more, text_whole}
use Rattle.synth_session.proofs.session.Session.code_text.Goals as goal

pub loop-address-init : goal.loop-address-init
loop-address-init g c = record { text = puts_nothing; counted = nothing_fetched (g.W.Work.counts c.args.work.now) }

pub loop-address-preserved : goal.loop-address-preserved
loop-address-preserved g c =
    let instrs = (told_code c.args.self.now.program.dependents.code.items).instrs in
    record {
      text =
          subst (λ (bytes : List ℕ). PutsAll g.O.ByteOut.puts c.args.out.now bytes c.put.new.self)
          (sym
          (text_more instrs c.loop-address.address (plain_instr c.instr.result.now)
          (ap (λ (i : PlainInstr). let fetched : Option PlainInstr = Some i in fetched) c.instr.ensures ∙ c.fetch.ensures.fetched)))
          (puts_append c.loop-address.invariant.text (puts_append c.put_code_line.ensures (puts_next c.put.ensures puts_nothing)));
      counted =
          one_fetched c.loop-address.address (g.W.Work.counts c.args.work.now) (g.W.Work.counts c.loop-address.work)
          (g.W.Work.counts c.fetch.new.work) c.loop-address.invariant.counted c.fetch.ensures.counted;
    }

pub returns-clause-text : goal.returns-clause-text
returns-clause-text g c =
    let code : PlainCode = told_code c.args.self.now.program.dependents.code.items in
    let over = c.loop-address-test.false in
    let end = c.length-address-end.ensures in
    subst (λ (bytes : List ℕ). PutsAll g.O.ByteOut.puts c.args.out.now bytes c.loop-address.out)
    (text_whole code.instrs c.loop-address.address (omega (arith, over, end))
    ∙ ap (λ (code : PlainCode). flat_map (λ (line : List ℕ). line ++ 10 ∷ []) (code_lines 0 code.instrs)) c.requires.code.tells)
    c.loop-address.invariant.text
