-- What is left of the step at an address is what the whole step comes to. Each instruction leads where the table says:
-- on to the next, where that is so again, or to what ends the walk.
use Rattle.std.proofs.Common.{ℕ, ◌+◌, ◌-◌, ◌<◌, ◌≡◌, ◌∙◌, [], List, zero, suc, refl, sym, ap, arith, subst}
use Rattle.std.proofs.Math.Bool.{false≢true}
use Rattle.std.specs.FinMap.{get}
use Rattle.std.specs.Prelude.{Option, Some, None, IsSome, option_and_then, option_map, length}
use Rattle.plcs_base.specs.declared.value.Value.{Value}
use Rattle.plcs_code.specs.Gen.{PlainCode}
use Rattle.plcs_code.specs.PlainInstr.{plain_instr}
use Rattle.plcs_store.specs.declared.argument.Argument.{Argument}
use Rattle.plcs_store.specs.Configuration.{PlainConfiguration, plain_configuration}
use Rattle.plcs_store.specs.Outcome.{Outcome}
use Rattle.plcs_machine.specs.Exec.{run_from}
use Rattle.plcs_machine.specs.Fetched.{FetchesBy}
use Rattle.plcs_machine.specs.Lead.{Lead}
use Rattle.plcs_machine.specs.Private.CountedSteps.{behind_many}
use Rattle.plcs_machine.specs.Private.DoableLead.{IsDoable}
use Rattle.plcs_machine.specs.Private.WalkedStep.{ending_answer, run_at, run_on}
use Rattle.plcs_machine.specs.Private.PlainLed.{plain_doing}
use Rattle.plcs_machine.proofs.AnsweredLeads.{lead_fine, run_inside, told_lead, walks_on, walks_to}
use Rattle.plcs_machine.proofs.CountedFetches.{behind_none, fetches_both, fetches_nothing}
use Rattle.plcs_machine.proofs.DoableLeads.{doable}
use Rattle.plcs_machine.proofs.SettledCode.{found_instr, left_there}
use Rattle.plcs_machine.proofs.stepping.walk.Goals as goal

-- a step that is defined begins at a place that has an address
no_place : {A : Type 0} (run : ℕ → Option A) (found : Option ℕ) → IsSome (option_and_then run found) → ((address : ℕ) → found ≡ Some address → ⊥) → ⊥
no_place run None whole none = false≢true whole
no_place run (Some address) whole none = none address refl

-- a step that is defined has fetches left
fetches_left : (code : PlainCode) (rest : List ℕ) (c : PlainConfiguration) (left address : ℕ) (values : List Value) (arguments : List Argument)
    → IsSome (run_from code rest c left address values arguments) → 0 < left
fetches_left code rest c zero address values arguments whole = absurd (false≢true whole)
fetches_left code rest c (suc left) address values arguments whole = omega arith

pub unreachable-requires : goal.unreachable-requires
unreachable-requires g c =
    let code = g.C.CodeView.code c.args.code.now in
    let rest = c.args.rest.now in
    let before = plain_configuration c.args.state.now in
    no_place (run_on code rest before) (get code.addresses c.args.place) c.requires.begins
    (λ address is. c.in_default.not-Some address (c.address.ensures ∙ is))

pub overflow_add-address : goal.overflow_add-address
overflow_add-address g c =
    let code = g.C.CodeView.code c.args.code.now in
    let rest = c.args.rest.now in
    let before = plain_configuration c.args.state.now in
    let at : get code.addresses c.args.place ≡ Some c.in-Some.before = sym c.address.ensures ∙ c.in-Some.is in
    let inside = run_inside code rest before (length code.instrs) (c.in-Some.before + 1) [] []
    (subst (λ (o : Option ℕ). IsSome (option_and_then (run_on code rest before) o)) at c.requires.begins) in
    omega (arith, inside)

pub loop-left-init : goal.loop-left-init
loop-left-init g c =
    let code = g.C.CodeView.code c.args.code.now in
    let rest = c.args.rest.now in
    let before = plain_configuration c.args.state.now in
    let at : get code.addresses c.args.place ≡ Some c.in-Some.before = sym c.address.ensures ∙ c.in-Some.is in
    let address = c.in-Some.before + 1 in
    let left = c.length-left.result in
    let values = c.args.state.now.operands.values in
    let arguments = c.args.state.now.operands.arguments in
    let counts = g.W.Work.counts c.args.work.now in
    let all : left ≡ length code.instrs = c.length-left.ensures in
    let none : length code.instrs - length code.instrs ≡ 0 = omega arith in
    let whole = run_from code rest before (length code.instrs) address [] [] in
    record {
      few = omega (arith, all);
      short = omega (arith, all);
      runs =
          ap (λ (n : ℕ). option_map (behind_many (length code.instrs - n)) (run_from code rest before n address values arguments)) all
          ∙ ap (λ (k : ℕ). option_map (behind_many k) (run_from code rest before (length code.instrs) address values arguments)) none
          ∙ behind_none (run_from code rest before (length code.instrs) address values arguments)
          ∙ ap (λ (some : List Value). run_from code rest before (length code.instrs) address some arguments) c.requires.values
          ∙ ap (λ (some : List Argument). run_from code rest before (length code.instrs) address [] some) c.requires.arguments
          ∙ sym (ap (option_and_then (run_on code rest before)) at);
      same = refl;
      counted =
          subst (λ (n : ℕ). FetchesBy (length code.instrs - n) counts counts) (sym all)
          (subst (λ (k : ℕ). FetchesBy k counts counts) (sym none) (fetches_nothing counts));
    }

pub overflow_add-next : goal.overflow_add-next
overflow_add-next g c =
    let code = g.C.CodeView.code c.args.code.now in
    let rest = c.args.rest.now in
    let before = plain_configuration c.args.state.now in
    let left = c.loop-left.left in
    let address = c.loop-left.address in
    let values = c.loop-left.state.operands.values in
    let arguments = c.loop-left.state.operands.arguments in
    let whole = left_there (length code.instrs - left) (run_from code rest before left address values arguments) (run_at code rest before c.args.place)
    c.loop-left.invariant.runs c.requires.begins in
    let inside = run_inside code rest before left address values arguments whole in
    let short = c.loop-left.invariant.short in
    omega (arith, inside, short)

pub fetch-requires : goal.fetch-requires
fetch-requires g c =
    let code = g.C.CodeView.code c.args.code.now in
    let rest = c.args.rest.now in
    let before = plain_configuration c.args.state.now in
    let left = c.loop-left.left in
    let address = c.loop-left.address in
    let values = c.loop-left.state.operands.values in
    let arguments = c.loop-left.state.operands.arguments in
    let whole = left_there (length code.instrs - left) (run_from code rest before left address values arguments) (run_at code rest before c.args.place)
    c.loop-left.invariant.runs c.requires.begins in
    run_inside code rest before left address values arguments whole

pub lead-doing-requires : goal.lead-doing-requires
lead-doing-requires g c =
    let code = g.C.CodeView.code c.args.code.now in
    let rest = c.args.rest.now in
    let before = plain_configuration c.args.state.now in
    let left = c.loop-left.left in
    let address = c.loop-left.address in
    let values = c.loop-left.state.operands.values in
    let arguments = c.loop-left.state.operands.arguments in
    let instr = plain_instr c.instr.result.now in
    let some : 0 < left = omega arith in
    let there = found_instr code.instrs address c.fetch.result.now c.instr.result.now c.instr.result.now c.fetch.ensures.fetched c.instr.ensures refl in
    let whole = left_there (length code.instrs - left) (run_from code rest before left address values arguments) (run_at code rest before c.args.place)
    c.loop-left.invariant.runs c.requires.begins in
    record {
      short = c.requires.short;
      fine = lead_fine code rest before (plain_configuration c.loop-left.state) c.loop-left.invariant.same left address values arguments instr some there
          c.loop-left.invariant.short whole;
    }

pub returns-in-None-clause-walked : goal.returns-in-None-clause-walked
returns-in-None-clause-walked g c =
    let code = g.C.CodeView.code c.args.code.now in
    let rest = c.args.rest.now in
    let before = plain_configuration c.args.state.now in
    let left = c.loop-left.left in
    let address = c.loop-left.address in
    let values = c.loop-left.state.operands.values in
    let arguments = c.loop-left.state.operands.arguments in
    let instr = plain_instr c.instr.result.now in
    let some : 0 < left = omega arith in
    let there = found_instr code.instrs address c.fetch.result.now c.instr.result.now c.instr.result.now c.fetch.ensures.fetched c.instr.ensures refl in
    let more = c.lead-doing.new.operands.values in
    let others = c.lead-doing.new.operands.arguments in
    let told = told_lead code rest before (plain_configuration c.loop-left.state) c.loop-left.invariant.same (address + 1) values arguments instr
    c.lead-doing.result more others c.lead-doing.ensures.leads in
    let few = c.loop-left.invariant.few in
    let all = run_at code rest before c.args.place in
    let count : length code.instrs - left ≡ length code.instrs - (left - 1 + 1) = omega (arith, few) in
    let walked = walks_to code rest before (length code.instrs - left) left address values arguments instr c.lead-doing.result more others all some there told
    (sym c.next_address.ensures ∙ c.in-None.is) c.loop-left.invariant.runs in
    record {
      few = omega (arith, few);
      whole =
          subst
          (λ (k : ℕ). option_map (behind_many k) (ending_answer code before (left - 1) (plain_doing before.output (address + 1) c.lead-doing.result more others)) ≡ all)
          count walked;
      can = subst (λ (o : Outcome Lead). IsDoable before.frames o) (sym told) (doable before.frames code rest before.output (address + 1) values arguments instr);
      within = c.lead-doing.ensures.within;
      short = c.loop-left.invariant.short;
    }

pub returns-in-None-clause-counted : goal.returns-in-None-clause-counted
returns-in-None-clause-counted g c =
    let code = g.C.CodeView.code c.args.code.now in
    let rest = c.args.rest.now in
    let before = plain_configuration c.args.state.now in
    let left = c.loop-left.left in
    let some : 0 < left = omega arith in
    let few = c.loop-left.invariant.few in
    let counts = g.W.Work.counts in
    let next : length code.instrs - left + 1 ≡ length code.instrs - (left - 1) = omega (arith, few) in
    let counted = fetches_both (length code.instrs - left) 1 (length code.instrs - (left - 1)) (counts c.args.work.now) (counts c.loop-left.work)
    (counts c.fetch.new.work) next c.loop-left.invariant.counted c.fetch.ensures.counted in
    counted

pub loop-left-preserved : goal.loop-left-preserved
loop-left-preserved g c =
    let code = g.C.CodeView.code c.args.code.now in
    let rest = c.args.rest.now in
    let before = plain_configuration c.args.state.now in
    let left = c.loop-left.left in
    let address = c.loop-left.address in
    let values = c.loop-left.state.operands.values in
    let arguments = c.loop-left.state.operands.arguments in
    let instr = plain_instr c.instr.result.now in
    let some : 0 < left = omega arith in
    let there = found_instr code.instrs address c.fetch.result.now c.instr.result.now c.instr.result.now c.fetch.ensures.fetched c.instr.ensures refl in
    let more = c.lead-doing.new.operands.values in
    let others = c.lead-doing.new.operands.arguments in
    let told = told_lead code rest before (plain_configuration c.loop-left.state) c.loop-left.invariant.same (address + 1) values arguments instr
    c.lead-doing.result more others c.lead-doing.ensures.leads in
    let few = c.loop-left.invariant.few in
    let all = run_at code rest before c.args.place in
    let counts = g.W.Work.counts in
    let next : length code.instrs - left + 1 ≡ length code.instrs - (left - 1) = omega (arith, few) in
    let counted = fetches_both (length code.instrs - left) 1 (length code.instrs - (left - 1)) (counts c.args.work.now) (counts c.loop-left.work)
    (counts c.fetch.new.work) next c.loop-left.invariant.counted c.fetch.ensures.counted in
    let target = c.in-Some-next_address.target in
    let on = walks_on code rest before (length code.instrs - left) left address values arguments instr c.lead-doing.result more others target all some there told
    (sym c.next_address.ensures ∙ c.in-Some-next_address.is) c.loop-left.invariant.runs in
    record {
      few = omega (arith, few);
      short = c.loop-left.invariant.short;
      runs = ap (λ (n : ℕ). option_map (behind_many n) (run_from code rest before (left - 1) target more others)) (sym next) ∙ on;
      same = c.loop-left.invariant.same;
      counted = counted;
    }

pub unreachable-requires-2 : goal.unreachable-requires-2
unreachable-requires-2 g c =
    let code = g.C.CodeView.code c.args.code.now in
    let rest = c.args.rest.now in
    let before = plain_configuration c.args.state.now in
    let left = c.loop-left.left in
    let address = c.loop-left.address in
    let values = c.loop-left.state.operands.values in
    let arguments = c.loop-left.state.operands.arguments in
    let whole = left_there (length code.instrs - left) (run_from code rest before left address values arguments) (run_at code rest before c.args.place)
    c.loop-left.invariant.runs c.requires.begins in
    let some = fetches_left code rest before left address values arguments whole in
    omega (arith, some)
