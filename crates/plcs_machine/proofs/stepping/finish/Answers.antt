-- What a walk leads to is done by what it is: each arm is the answer at what was led to.
use Rattle.std.proofs.Common.{◌-◌, sym, arith, subst}
use Rattle.std.specs.Prelude.{Option, IsSome, IfOk, OnErr, OnOk}
use Rattle.plcs_code.specs.Gen.{PlainCode}
use Rattle.plcs_store.specs.declared.run_state.RunState.{RunState}
use Rattle.plcs_store.specs.Configuration.{plain_configuration}
use Rattle.plcs_machine.specs.declared.led.Doing.{Doing}
use Rattle.plcs_machine.specs.declared.led.Walked.{Walked}
use Rattle.plcs_machine.specs.Exec.{FetchedAnswer}
use Rattle.plcs_machine.specs.Fetched.{FetchesAtMost, FetchesBy}
use Rattle.plcs_machine.specs.StepMade.{MakesFrame}
use Rattle.plcs_machine.specs.Private.DoableLead.{IsDoable}
use Rattle.plcs_machine.specs.Private.PlainLed.{TakesAtMost, plain_doing}
use Rattle.plcs_machine.specs.Private.WalkedStep.{IsDone, more_fetches, walked_answer}
use Rattle.plcs_machine.proofs.CountedFetches.{fetches_most}
use Rattle.plcs_machine.proofs.stepping.finish.Goals as goal

-- the answer that is wanted if that was led to
abbrev wanted_at : PlainCode → RunState → Walked → Doing → Option FetchedAnswer
wanted_at code state walked doing = walked_answer code state (record walked { doing = doing })

pub put-requires : goal.put-requires
put-requires g c =
    let code = g.C.CodeView.code c.args.code.now in
    let state = c.args.state.now in
    let walked = c.args.walked in
    record {
      short = c.requires.short;
      at = c.requires.at;
      answered = subst (λ (doing : Doing). IsSome (wanted_at code state walked doing)) c.in-Writes.is c.requires.answered;
    }

pub read-requires : goal.read-requires
read-requires g c =
    let code = g.C.CodeView.code c.args.code.now in
    let state = c.args.state.now in
    let walked = c.args.walked in
    record {
      short = c.requires.short;
      at = c.requires.at;
      there =
          subst
          (λ (doing : Doing). IsDoable state.frames (plain_doing state.output walked.next doing state.operands.values state.operands.arguments))
          c.in-Reads.is c.requires.can;
      taken = subst (λ (doing : Doing). TakesAtMost (4294967295 - state.taken) doing) c.in-Reads.is c.requires.taken;
      answered = subst (λ (doing : Doing). IsSome (wanted_at code state walked doing)) c.in-Reads.is c.requires.answered;
    }

pub follow-requires : goal.follow-requires
follow-requires g c =
    let code = g.C.CodeView.code c.args.code.now in
    let state = c.args.state.now in
    let walked = c.args.walked in
    record {
      short = c.requires.short;
      at = c.requires.at;
      answered = subst (λ (doing : Doing). IsSome (wanted_at code state walked doing)) c.in-Leads.is c.requires.answered;
      can =
          subst
          (λ (doing : Doing). IsDoable state.frames (plain_doing state.output walked.next doing state.operands.values state.operands.arguments))
          c.in-Leads.is c.requires.can;
    }

pub returns-in-Writes-clause-done : goal.returns-in-Writes-clause-done
returns-in-Writes-clause-done g c =
    let code = g.C.CodeView.code c.args.code.now in
    let state = c.args.state.now in
    let walked = c.args.walked in
    subst (λ (doing : Doing). IsDone (wanted_at code state walked doing) c.put.result state c.put.new.state c.args.undo.now c.put.new.undo)
    (sym c.in-Writes.is) c.put.ensures.done

pub returns-in-Writes-clause-counted : goal.returns-in-Writes-clause-counted
returns-in-Writes-clause-counted g c =
    let code = g.C.CodeView.code c.args.code.now in
    let state = c.args.state.now in
    let walked = c.args.walked in
    let counts = g.W.Work.counts in
    let counted = subst (λ (doing : Doing). FetchesBy (more_fetches (wanted_at code state walked doing)) (counts c.args.work.now) (counts c.put.new.work))
    (sym c.in-Writes.is) c.put.ensures.counted in
    counted

pub returns-in-Writes-clause-counts : goal.returns-in-Writes-clause-counts
returns-in-Writes-clause-counts g c =
    let code = g.C.CodeView.code c.args.code.now in
    let state = c.args.state.now in
    let walked = c.args.walked in
    let counts = g.W.Work.counts in
    let counted = subst (λ (doing : Doing). FetchesBy (more_fetches (wanted_at code state walked doing)) (counts c.args.work.now) (counts c.put.new.work))
    (sym c.in-Writes.is) c.put.ensures.counted in
    let all = more_fetches (walked_answer code state walked) in
    fetches_most all all (counts c.args.work.now) (counts c.put.new.work) (omega arith) counted

pub returns-in-Reads-clause-done : goal.returns-in-Reads-clause-done
returns-in-Reads-clause-done g c =
    let code = g.C.CodeView.code c.args.code.now in
    let state = c.args.state.now in
    let walked = c.args.walked in
    subst (λ (doing : Doing). IsDone (wanted_at code state walked doing) c.read.result state c.read.new.state c.args.undo.now c.read.new.undo)
    (sym c.in-Reads.is) c.read.ensures.done

pub returns-in-Reads-clause-counted : goal.returns-in-Reads-clause-counted
returns-in-Reads-clause-counted g c =
    let code = g.C.CodeView.code c.args.code.now in
    let state = c.args.state.now in
    let walked = c.args.walked in
    let counts = g.W.Work.counts in
    let counted = subst (λ (doing : Doing). FetchesBy (more_fetches (wanted_at code state walked doing)) (counts c.args.work.now) (counts c.read.new.work))
    (sym c.in-Reads.is) c.read.ensures.counted in
    counted

pub returns-in-Reads-clause-counts : goal.returns-in-Reads-clause-counts
returns-in-Reads-clause-counts g c =
    let code = g.C.CodeView.code c.args.code.now in
    let state = c.args.state.now in
    let walked = c.args.walked in
    let counts = g.W.Work.counts in
    let counted = subst (λ (doing : Doing). FetchesBy (more_fetches (wanted_at code state walked doing)) (counts c.args.work.now) (counts c.read.new.work))
    (sym c.in-Reads.is) c.read.ensures.counted in
    let all = more_fetches (walked_answer code state walked) in
    fetches_most all all (counts c.args.work.now) (counts c.read.new.work) (omega arith) counted

pub returns-in-Leads-clause-done : goal.returns-in-Leads-clause-done
returns-in-Leads-clause-done g c =
    let code = g.C.CodeView.code c.args.code.now in
    let state = c.args.state.now in
    let walked = c.args.walked in
    subst
    (λ (doing : Doing). IfOk c.follow.result (λ answer.
    IsDone (wanted_at code state walked doing) answer state c.follow.new.state c.args.undo.now c.follow.new.undo))
    (sym c.in-Leads.is) c.follow.ensures.done

pub returns-in-Leads-clause-counted : goal.returns-in-Leads-clause-counted
returns-in-Leads-clause-counted g c =
    let code = g.C.CodeView.code c.args.code.now in
    let state = c.args.state.now in
    let walked = c.args.walked in
    let counts = g.W.Work.counts in
    subst
    (λ (doing : Doing). OnOk c.follow.result
    (FetchesBy (more_fetches (wanted_at code state walked doing)) (counts c.args.work.now) (counts c.follow.new.work)))
    (sym c.in-Leads.is) c.follow.ensures.counted

pub returns-in-Leads-clause-counts : goal.returns-in-Leads-clause-counts
returns-in-Leads-clause-counts g c =
    let code = g.C.CodeView.code c.args.code.now in
    let state = c.args.state.now in
    let walked = c.args.walked in
    let counts = g.W.Work.counts in
    subst (λ (doing : Doing). FetchesAtMost (more_fetches (wanted_at code state walked doing)) (counts c.args.work.now) (counts c.follow.new.work))
    (sym c.in-Leads.is) c.follow.ensures.counts

pub returns-in-Leads-clause-memory : goal.returns-in-Leads-clause-memory
returns-in-Leads-clause-memory g c =
    let code = g.C.CodeView.code c.args.code.now in
    let state = c.args.state.now in
    let walked = c.args.walked in
    subst (λ (doing : Doing). OnErr c.follow.result (MakesFrame (wanted_at code state walked doing) (plain_configuration state))) (sym c.in-Leads.is)
    c.follow.ensures.memory
