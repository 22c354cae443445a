-- The step of a configuration is what is done behind the walk from its place.
use Rattle.std.proofs.Common.{ℕ, ◌+◌, ◌-◌, ◌≡◌, ◌∙◌, List, refl, sym, ap, arith, subst}
use Rattle.std.proofs.Math.Bool.{false≢true}
use Rattle.std.proofs.lemmas.List.{length-drop}
use Rattle.std.proofs.lemmas.Result.{IfOk-weaker, on_err_weaker, on_ok_weaker}
use Rattle.std.specs.Prelude.{Option, Some, None, IsSome, option_map, drop, length, IfOk, OnErr}
use Rattle.plcs_base.specs.declared.place.Place.{Place}
use Rattle.plcs_code.specs.Gen.{PlainCode}
use Rattle.plcs_store.specs.Configuration.{PlainConfiguration, plain_configuration, plain_place, top_place}
use Rattle.template_tree.specs.Positions.Place.{PlainPlace}
use Rattle.plcs_machine.specs.Exec.{Exec, FetchedAnswer}
use Rattle.plcs_machine.specs.Fetched.{fetches_of, result_of}
use Rattle.plcs_machine.specs.StepMade.{MakesFrame, NothingChanges}
use Rattle.plcs_machine.specs.Private.DoableLead.{IsDoable}
use Rattle.plcs_machine.specs.Private.WalkedStep.{IsStepDone, ending_answer, more_fetches, run_at, walked_outcome}
use Rattle.plcs_machine.proofs.CountedFetches.{fetches_both, fetches_then}
use Rattle.plcs_machine.proofs.DoneSteps.{done_same, exec_at, exec_place, makes_same, takes_more, walk_answered, walk_fetches, walk_result}
use Rattle.plcs_machine.proofs.stepping.step_through.Goals as goal

-- where a frame stands somewhere, its place is told
no_place : (found : Option Place) (top : Option PlainPlace) → option_map plain_place found ≡ top → IsSome top
    → ((place : Place) → found ≡ Some place → ⊥) → ⊥
no_place None top is there none = false≢true (subst (λ (o : Option PlainPlace). IsSome o) (sym is) there)
no_place (Some place) top is there none = none place refl

-- the step begins behind the place of the newest frame, with what is left of the input
begins : (code : PlainCode) (input rest : List ℕ) (c : PlainConfiguration) (place : Place) (found : Option Place)
    → option_map plain_place found ≡ top_place c.frames → found ≡ Some place → rest ≡ drop c.taken input → IsSome (Exec code input c)
    → Exec code input c ≡ run_at code rest c place
begins code input rest c place found told is left whole =
    exec_at code input c place (sym told ∙ ap (option_map plain_place) is) whole ∙ ap (λ (some : List ℕ). run_at code some c place) (sym left)

pub unreachable-requires : goal.unreachable-requires
unreachable-requires g c =
    let code = g.C.CodeView.code c.args.code.now in
    let input = c.args.input.now in
    let before = plain_configuration c.args.state.now in
    no_place c.place.result (top_place before.frames) c.place.ensures (exec_place code input before c.requires.defined) c.in_default.not-Some

pub walk-walked-requires : goal.walk-walked-requires
walk-walked-requires g c =
    let code = g.C.CodeView.code c.args.code.now in
    let input = c.args.input.now in
    let before = plain_configuration c.args.state.now in
    let place = c.in-Some.place in
    let rest = c.rest_of.result.now in
    let exec = begins code input rest before place c.place.result c.place.ensures c.in-Some.is c.rest_of.ensures.rest c.requires.defined in
    let whole = subst (λ (o : Option FetchedAnswer). IsSome o) exec c.requires.defined in
    let shorter = c.rest_of.ensures.short in
    let short = c.requires.short in
    record { short = omega (arith, short, shorter); begins = whole; values = c.requires.values; arguments = c.requires.arguments }

pub finish-requires : goal.finish-requires
finish-requires g c =
    let code = g.C.CodeView.code c.args.code.now in
    let input = c.args.input.now in
    let before = plain_configuration c.args.state.now in
    let place = c.in-Some.place in
    let rest = c.rest_of.result.now in
    let exec = begins code input rest before place c.place.result c.place.ensures c.in-Some.is c.rest_of.ensures.rest c.requires.defined in
    let whole = subst (λ (o : Option FetchedAnswer). IsSome o) exec c.requires.defined in
    let walked = c.walk-walked.result in
    let values = c.walk-walked.new.state.operands.values in
    let arguments = c.walk-walked.new.state.operands.arguments in
    let same = c.walk-walked.ensures.same in
    let walks = c.walk-walked.ensures.walked in
    let behind : PlainConfiguration → Option FetchedAnswer =
    λ one. ending_answer code one walked.left (walked_outcome one walked values arguments) in
    let long : length rest ≡ length input - before.taken =
    ap (λ (l : List ℕ). length l) c.rest_of.ensures.rest ∙ length-drop before.taken input in
    let short = c.requires.short in
    record {
      short = walks.short;
      at =
          subst (λ (one : PlainConfiguration). top_place one.frames ≡ Some (plain_place place)) (sym same)
          (sym c.place.ensures ∙ ap (option_map plain_place) c.in-Some.is);
      answered =
          subst (λ (one : PlainConfiguration). IsSome (behind one)) (sym same) (walk_answered code rest before place walked values arguments walks whole);
      can = subst (λ (one : PlainConfiguration). IsDoable one.frames (walked_outcome one walked values arguments)) (sym same) walks.can;
      taken =
          takes_more (length rest) (4294967295 - c.walk-walked.new.state.taken) walked.doing
          (omega (arith, long, short, ap (λ (one : PlainConfiguration). one.taken) same)) walks.within;
    }

pub returns-clause-done : goal.returns-clause-done
returns-clause-done g c =
    let code = g.C.CodeView.code c.args.code.now in
    let input = c.args.input.now in
    let before = plain_configuration c.args.state.now in
    let place = c.in-Some.place in
    let rest = c.rest_of.result.now in
    let exec = begins code input rest before place c.place.result c.place.ensures c.in-Some.is c.rest_of.ensures.rest c.requires.defined in
    let whole = subst (λ (o : Option FetchedAnswer). IsSome o) exec c.requires.defined in
    let walked = c.walk-walked.result in
    let values = c.walk-walked.new.state.operands.values in
    let arguments = c.walk-walked.new.state.operands.arguments in
    let same = c.walk-walked.ensures.same in
    let walks = c.walk-walked.ensures.walked in
    let behind : PlainConfiguration → Option FetchedAnswer =
    λ one. ending_answer code one walked.left (walked_outcome one walked values arguments) in
    let told = walk_result code rest before place walked values arguments walks whole ∙ ap (λ (o : Option FetchedAnswer). result_of o) (sym exec) in
    let after = plain_configuration c.finish.new.state in
    let noted = c.args.undo.now in
    let notes = c.finish.new.undo in
    IfOk-weaker c.finish.result _ _ (λ answer is. done_same (behind before) (Exec code input before) told answer before after noted notes is)
    (subst (λ (one : PlainConfiguration). IfOk c.finish.result (λ answer. IsStepDone (behind one) answer one after noted notes)) same c.finish.ensures.done)

pub returns-clause-counted : goal.returns-clause-counted
returns-clause-counted g c =
    let code = g.C.CodeView.code c.args.code.now in
    let input = c.args.input.now in
    let before = plain_configuration c.args.state.now in
    let place = c.in-Some.place in
    let rest = c.rest_of.result.now in
    let exec = begins code input rest before place c.place.result c.place.ensures c.in-Some.is c.rest_of.ensures.rest c.requires.defined in
    let whole = subst (λ (o : Option FetchedAnswer). IsSome o) exec c.requires.defined in
    let walked = c.walk-walked.result in
    let values = c.walk-walked.new.state.operands.values in
    let arguments = c.walk-walked.new.state.operands.arguments in
    let same = c.walk-walked.ensures.same in
    let walks = c.walk-walked.ensures.walked in
    let behind : PlainConfiguration → Option FetchedAnswer =
    λ one. ending_answer code one walked.left (walked_outcome one walked values arguments) in
    let counts = g.W.Work.counts in
    let left = more_fetches (behind (plain_configuration c.walk-walked.new.state)) in
    let all = fetches_of (Exec code input before) in
    let total : length code.instrs - walked.left + left ≡ all =
    ap (λ (one : PlainConfiguration). length code.instrs - walked.left + more_fetches (behind one)) same
    ∙ walk_fetches code rest before place walked values arguments walks whole
    ∙ ap (λ (o : Option FetchedAnswer). fetches_of o) (sym exec) in
    on_ok_weaker c.finish.result
    (fetches_both (length code.instrs - walked.left) left all (counts c.args.work.now) (counts c.walk-walked.new.work) (counts c.finish.new.work) total
    c.walk-walked.ensures.counted)
    c.finish.ensures.counted

pub returns-clause-counts : goal.returns-clause-counts
returns-clause-counts g c =
    let code = g.C.CodeView.code c.args.code.now in
    let input = c.args.input.now in
    let before = plain_configuration c.args.state.now in
    let place = c.in-Some.place in
    let rest = c.rest_of.result.now in
    let exec = begins code input rest before place c.place.result c.place.ensures c.in-Some.is c.rest_of.ensures.rest c.requires.defined in
    let whole = subst (λ (o : Option FetchedAnswer). IsSome o) exec c.requires.defined in
    let walked = c.walk-walked.result in
    let values = c.walk-walked.new.state.operands.values in
    let arguments = c.walk-walked.new.state.operands.arguments in
    let same = c.walk-walked.ensures.same in
    let walks = c.walk-walked.ensures.walked in
    let behind : PlainConfiguration → Option FetchedAnswer =
    λ one. ending_answer code one walked.left (walked_outcome one walked values arguments) in
    let counts = g.W.Work.counts in
    let left = more_fetches (behind (plain_configuration c.walk-walked.new.state)) in
    let all = fetches_of (Exec code input before) in
    let total : length code.instrs - walked.left + left ≡ all =
    ap (λ (one : PlainConfiguration). length code.instrs - walked.left + more_fetches (behind one)) same
    ∙ walk_fetches code rest before place walked values arguments walks whole
    ∙ ap (λ (o : Option FetchedAnswer). fetches_of o) (sym exec) in
    fetches_then (length code.instrs - walked.left) left all (counts c.args.work.now) (counts c.walk-walked.new.work) (counts c.finish.new.work) total
    c.walk-walked.ensures.counted c.finish.ensures.counts

pub returns-clause-refused : goal.returns-clause-refused
returns-clause-refused g c =
    let after = plain_configuration c.finish.new.state in
    subst (λ (one : PlainConfiguration). OnErr c.finish.result (NothingChanges one after c.args.undo.now c.finish.new.undo)) c.walk-walked.ensures.same
    c.finish.ensures.refused

pub returns-clause-memory : goal.returns-clause-memory
returns-clause-memory g c =
    let code = g.C.CodeView.code c.args.code.now in
    let input = c.args.input.now in
    let before = plain_configuration c.args.state.now in
    let place = c.in-Some.place in
    let rest = c.rest_of.result.now in
    let exec = begins code input rest before place c.place.result c.place.ensures c.in-Some.is c.rest_of.ensures.rest c.requires.defined in
    let whole = subst (λ (o : Option FetchedAnswer). IsSome o) exec c.requires.defined in
    let walked = c.walk-walked.result in
    let values = c.walk-walked.new.state.operands.values in
    let arguments = c.walk-walked.new.state.operands.arguments in
    let same = c.walk-walked.ensures.same in
    let walks = c.walk-walked.ensures.walked in
    let behind : PlainConfiguration → Option FetchedAnswer =
    λ one. ending_answer code one walked.left (walked_outcome one walked values arguments) in
    let told = walk_result code rest before place walked values arguments walks whole ∙ ap (λ (o : Option FetchedAnswer). result_of o) (sym exec) in
    on_err_weaker c.finish.result (makes_same (behind before) (Exec code input before) told before)
    (subst (λ (one : PlainConfiguration). OnErr c.finish.result (MakesFrame (behind one) one)) same c.finish.ensures.memory)
