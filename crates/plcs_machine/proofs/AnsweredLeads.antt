-- What is left of a step at an address: one instruction after the other, each inside the code.
use Rattle.std.specs.Prelude.{◌≡◌, refl, ℕ, zero, suc, ◌+◌, ◌-◌, ◌<◌, ◌≤◌, ◌^◌, Bool, true, false, nat_le, if◌then◌else◌, List, [], length, reverse, slice_get, take, Option, Some, None, IsSome, is_some, option_map, unwrap_or}
use Rattle.std.proofs.Common.{ap, sym, ◌∙◌, arith, subst}
use Rattle.std.proofs.Math.Bool.{false≢true}
use Rattle.std.proofs.lemmas.Bool.{lt-ltb}
use Rattle.plcs_base.specs.declared.value.Value.{Value}
use Rattle.plcs_code.specs.Gen.{PlainCode}
use Rattle.plcs_code.specs.PlainInstr.{PlainInstr}
use Rattle.plcs_store.specs.declared.argument.Argument.{Argument}
use Rattle.plcs_store.specs.declared.fault_kind.FaultKind.{FaultKind}
use Rattle.plcs_store.specs.Act.{Act}
use Rattle.plcs_store.specs.Limit.{most_output}
use Rattle.plcs_store.specs.Configuration.{PlainConfiguration}
use Rattle.plcs_store.specs.Outcome.{Outcome, faults, if_there, then_gives}
use Rattle.plcs_store.specs.OutputItem.{output_with}
use Rattle.plcs_store.specs.Step.{output_act}
use Rattle.plcs_machine.specs.declared.led.Doing.{Doing}
use Rattle.plcs_machine.specs.declared.led.Led.{Led}
use Rattle.plcs_machine.specs.Exec.{FetchedAnswer, acted, outcome_answer, run_from}
use Rattle.plcs_machine.specs.Fetched.{Fetched, behind_one, with_result}
use Rattle.plcs_machine.specs.Lead.{Lead, lead, then_acts}
use Rattle.plcs_machine.specs.Passing.{Landing, settle}
use Rattle.plcs_machine.specs.Private.PlainLed.{going_to, is_address, is_fine, plain_doing}
use Rattle.plcs_machine.specs.Private.WalkedStep.{ending_answer}
use Rattle.plcs_machine.specs.Private.CountedSteps.{behind_many}
use Rattle.plcs_machine.proofs.CountedFetches.{behind_next}
use Rattle.plcs_machine.proofs.UnwrittenLeads.{fine_unwritten}
use Rattle.plcs_machine.proofs.SettledCode.{get_inside, settle_inside}

module _ (code : PlainCode) (rest : List ℕ) (c : PlainConfiguration) where
  -- what comes of an instruction that is there
  pub run_by : (left address : ℕ) (values : List Value) (arguments : List Argument) (instr : PlainInstr) → 0 < left
      → slice_get code.instrs address ≡ Some instr
      → run_from code rest c left address values arguments
      ≡ outcome_answer c (run_from code rest c (left - 1)) (settle c.frames code.instrs (left - 1))
      (lead code c.frames rest c.output (address + 1) values arguments instr)
  run_by zero address values arguments instr some there = absurd (omega (arith, some))
  run_by (suc left) address values arguments instr some there =
      let less : suc left - 1 ≡ left = omega arith in
      ap (λ (found : Option PlainInstr). outcome_answer c (run_from code rest c left) (settle c.frames code.instrs left)
      (then_gives (if_there found) (lead code c.frames rest c.output (address + 1) values arguments))) there
      ∙ ap (λ (n : ℕ). outcome_answer c (run_from code rest c n) (settle c.frames code.instrs n)
      (lead code c.frames rest c.output (address + 1) values arguments instr)) (sym less)

  -- something is there where the step is run on
  pub run_inside : (left address : ℕ) (values : List Value) (arguments : List Argument) → IsSome (run_from code rest c left address values arguments)
      → address < length code.instrs
  run_inside zero address values arguments whole = absurd (false≢true whole)
  run_inside (suc left) address values arguments whole = get_inside code.instrs address (by (slice_get code.instrs address) whole)
    where
      by : (found : Option PlainInstr)
          → IsSome (outcome_answer c (run_from code rest c left) (settle c.frames code.instrs left)
          (then_gives (if_there found) (lead code c.frames rest c.output (address + 1) values arguments))) → IsSome found
      by None whole = whole
      by (Some instr) whole = refl

  -- something is there behind one more
  behind_there : {A : Type 0} (found : Option (Fetched A)) → IsSome (option_map behind_one found) → IsSome found
  behind_there None whole = whole
  behind_there (Some fetched) whole = refl

  -- something is there where an act ends
  acted_there : (act : Act) (found : Option (Fetched Landing)) → IsSome (option_map (λ landed. behind_one (with_result (acted c act) landed)) found)
      → IsSome found
  acted_there act None whole = whole
  acted_there act (Some landed) whole = refl

  -- an address inside of code that is short enough
  inside_address : (address : ℕ) → length code.instrs ≤ 4294967295 → address < length code.instrs → is_address address ≡ true
  inside_address address short inside = lt-ltb address (2 ^ 32) (omega (arith, short, inside))

  -- what leads to an answer leads to where an address is
  pub answer_fine : (left : ℕ) (outcome : Outcome Lead) → length code.instrs ≤ 4294967295
      → IsSome (outcome_answer c (run_from code rest c left) (settle c.frames code.instrs left) outcome) → is_fine outcome ≡ true
  answer_fine left (Outcome.gives (Lead.goes_on address values arguments)) short whole =
      inside_address address short
      (run_inside left address values arguments (behind_there (run_from code rest c left address values arguments) whole))
  answer_fine left (Outcome.gives (Lead.acts act address)) short whole =
      inside_address address short
      (get_inside code.instrs address (settle_inside c.frames code.instrs left address None
      (acted_there act (settle c.frames code.instrs left address None) whole)))
  answer_fine left (Outcome.gives (Lead.enters slot address arguments)) short whole = refl
  answer_fine left (Outcome.gives (Lead.arrives place)) short whole = refl
  answer_fine left (Outcome.gives Lead.ends) short whole = refl
  answer_fine left (Outcome.stops reason) short whole = refl
  answer_fine left Outcome.undefined short whole = absurd (false≢true whole)

  -- what goes on is behind the instruction
  pub run_next : (left address : ℕ) (values : List Value) (arguments : List Argument) (instr : PlainInstr) (target : ℕ) (more : List Value)
      (others : List Argument) → 0 < left → slice_get code.instrs address ≡ Some instr
      → lead code c.frames rest c.output (address + 1) values arguments instr ≡ Outcome.gives (Lead.goes_on target more others)
      → run_from code rest c left address values arguments ≡ option_map behind_one (run_from code rest c (left - 1) target more others)
  run_next left address values arguments instr target more others some there leads =
      run_by left address values arguments instr some there
      ∙ ap (outcome_answer c (run_from code rest c (left - 1)) (settle c.frames code.instrs (left - 1))) leads

  -- where no instruction comes next, none is asked for
  pub goes_nowhere : (left next : ℕ) (doing : Doing) (values : List Value) (arguments : List Argument)
      → going_to doing ≡ None
      → outcome_answer c (run_from code rest c left) (settle c.frames code.instrs left) (plain_doing c.output next doing values arguments)
      ≡ ending_answer code c left (plain_doing c.output next doing values arguments)
  goes_nowhere left next (Doing.Writes skip n) values arguments ends = enough (nat_le n (length values))
    where
      written : (few : Bool) (becomes : List ℕ)
          → outcome_answer c (run_from code rest c left) (settle c.frames code.instrs left)
          (then_acts next (if few then Outcome.gives (Act.write becomes) else faults FaultKind.OutputLimit))
          ≡ ending_answer code c left (then_acts next (if few then Outcome.gives (Act.write becomes) else faults FaultKind.OutputLimit))
      written true becomes = refl
      written false becomes = refl

      enough : (there : Bool)
          → outcome_answer c (run_from code rest c left) (settle c.frames code.instrs left)
          (if there then then_acts next (output_act (output_with skip c.output (reverse (take n values)))) else Outcome.undefined)
          ≡ ending_answer code c left
          (if there then then_acts next (output_act (output_with skip c.output (reverse (take n values)))) else Outcome.undefined)
      enough true =
          let becomes = output_with skip c.output (reverse (take n values)) in
          written (nat_le (length becomes) most_output) becomes
      enough false = refl
  goes_nowhere left next (Doing.Reads location value count) values arguments ends = refl
  goes_nowhere left next (Doing.Leads (Led.GoesOn target)) values arguments ends = absurd (false≢true (sym (ap (λ (o : Option ℕ). is_some o) ends)))
  goes_nowhere left next (Doing.Leads (Led.Acts act address)) values arguments ends = refl
  goes_nowhere left next (Doing.Leads (Led.Enters entry count)) values arguments ends = refl
  goes_nowhere left next (Doing.Leads (Led.Arrives place)) values arguments ends = refl
  goes_nowhere left next (Doing.Leads Led.Ends) values arguments ends = refl
  goes_nowhere left next (Doing.Leads (Led.Stops reason)) values arguments ends = refl

  -- where an instruction comes next, that is what was led to
  pub goes_there : (next : ℕ) (doing : Doing) (values : List Value) (arguments : List Argument) (target : ℕ) → going_to doing ≡ Some target
      → plain_doing c.output next doing values arguments ≡ Outcome.gives (Lead.goes_on target values arguments)
  goes_there next (Doing.Writes skip n) values arguments target is = absurd (false≢true (ap (λ (o : Option ℕ). is_some o) is))
  goes_there next (Doing.Reads location value count) values arguments target is = absurd (false≢true (ap (λ (o : Option ℕ). is_some o) is))
  goes_there next (Doing.Leads (Led.GoesOn address)) values arguments target is =
      ap (λ (o : Option ℕ). Outcome.gives (Lead.goes_on (unwrap_or o 0) values arguments)) is
  goes_there next (Doing.Leads (Led.Acts act address)) values arguments target is = absurd (false≢true (ap (λ (o : Option ℕ). is_some o) is))
  goes_there next (Doing.Leads (Led.Enters entry count)) values arguments target is = absurd (false≢true (ap (λ (o : Option ℕ). is_some o) is))
  goes_there next (Doing.Leads (Led.Arrives place)) values arguments target is = absurd (false≢true (ap (λ (o : Option ℕ). is_some o) is))
  goes_there next (Doing.Leads Led.Ends) values arguments target is = absurd (false≢true (ap (λ (o : Option ℕ). is_some o) is))
  goes_there next (Doing.Leads (Led.Stops reason)) values arguments target is = absurd (false≢true (ap (λ (o : Option ℕ). is_some o) is))

  -- ---- an instruction on the way, where the configuration now is the one before

  -- what the code tells of an instruction is what the table says
  pub told_lead : (now : PlainConfiguration) → now ≡ c → (next : ℕ) (values : List Value) (arguments : List Argument) (instr : PlainInstr) (doing : Doing)
      (more : List Value) (others : List Argument)
      → ((output : List ℕ) → plain_doing output next doing more others ≡ lead code now.frames rest output next values arguments instr)
      → plain_doing c.output next doing more others ≡ lead code c.frames rest c.output next values arguments instr
  told_lead now same next values arguments instr doing more others told =
      subst (λ (d : PlainConfiguration). plain_doing d.output next doing more others ≡ lead code d.frames rest d.output next values arguments instr) same
      (told now.output)

  -- the table is fine there
  pub lead_fine : (now : PlainConfiguration) → now ≡ c → (left address : ℕ) (values : List Value) (arguments : List Argument) (instr : PlainInstr) → 0 < left
      → slice_get code.instrs address ≡ Some instr → length code.instrs ≤ 4294967295
      → IsSome (run_from code rest c left address values arguments)
      → is_fine (lead code now.frames rest [] (address + 1) values arguments instr) ≡ true
  lead_fine now same left address values arguments instr some there short whole =
      let inside = run_inside left address values arguments whole in
      let small : is_address (address + 1) ≡ true = lt-ltb (address + 1) (2 ^ 32) (omega (arith, short, inside)) in
      let fine = answer_fine (left - 1) (lead code c.frames rest c.output (address + 1) values arguments instr) short
      (subst (λ (o : Option FetchedAnswer). IsSome o) (run_by left address values arguments instr some there) whole) in
      subst (λ (d : PlainConfiguration). is_fine (lead code d.frames rest [] (address + 1) values arguments instr) ≡ true) (sym same)
      (fine_unwritten code c.frames rest c.output (address + 1) values arguments instr small fine)

  -- a step that goes on is as far as one more
  pub walks_on : (k left address : ℕ) (values : List Value) (arguments : List Argument) (instr : PlainInstr) (doing : Doing) (more : List Value)
      (others : List Argument) (target : ℕ) (whole : Option FetchedAnswer) → 0 < left → slice_get code.instrs address ≡ Some instr
      → plain_doing c.output (address + 1) doing more others ≡ lead code c.frames rest c.output (address + 1) values arguments instr
      → going_to doing ≡ Some target → option_map (behind_many k) (run_from code rest c left address values arguments) ≡ whole
      → option_map (behind_many (k + 1)) (run_from code rest c (left - 1) target more others) ≡ whole
  walks_on k left address values arguments instr doing more others target whole some there told going runs =
      behind_next k (run_from code rest c (left - 1) target more others)
      ∙ ap (option_map (behind_many k))
      (sym (run_next left address values arguments instr target more others some there
      (sym told ∙ goes_there (address + 1) doing more others target going)))
      ∙ runs

  -- a step that doesn't go on is answered behind this instruction
  pub walks_to : (k left address : ℕ) (values : List Value) (arguments : List Argument) (instr : PlainInstr) (doing : Doing) (more : List Value)
      (others : List Argument) (whole : Option FetchedAnswer) → 0 < left → slice_get code.instrs address ≡ Some instr
      → plain_doing c.output (address + 1) doing more others ≡ lead code c.frames rest c.output (address + 1) values arguments instr
      → going_to doing ≡ None → option_map (behind_many k) (run_from code rest c left address values arguments) ≡ whole
      → option_map (behind_many k) (ending_answer code c (left - 1) (plain_doing c.output (address + 1) doing more others)) ≡ whole
  walks_to k left address values arguments instr doing more others whole some there told going runs =
      ap (option_map (behind_many k))
      (sym (goes_nowhere (left - 1) (address + 1) doing more others going)
      ∙ ap (outcome_answer c (run_from code rest c (left - 1)) (settle c.frames code.instrs (left - 1))) told
      ∙ sym (run_by left address values arguments instr some there))
      ∙ runs
