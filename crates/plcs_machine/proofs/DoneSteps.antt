-- A step that was walked to its last instruction: what is done behind that is the whole step, with the fetches of both.
use Rattle.std.specs.Prelude.{◌≡◌, refl, ℕ, ◌+◌, ◌-◌, ◌≤◌, nat_le, ◌&&◌, Bool, true, false, if◌then◌else◌, List, [], drop, length, Option, Some, None, IsSome, is_some, option_and_then, option_map}
use Rattle.std.proofs.Common.{ap, sym, ◌∙◌, arith, subst}
use Rattle.std.proofs.Math.Bool.{false≢true}
use Rattle.plcs_base.specs.declared.place.Place.{Place}
use Rattle.plcs_base.specs.declared.value.Value.{Value}
use Rattle.plcs_code.specs.Gen.{PlainCode}
use Rattle.template_tree.specs.Positions.Place.{PlainPlace}
use Rattle.plcs_store.specs.declared.argument.Argument.{Argument}
use Rattle.plcs_store.specs.declared.undo.Undo.{Undo}
use Rattle.plcs_store.specs.Act.{Act, done}
use Rattle.plcs_store.specs.Configuration.{PlainConfiguration, plain_place, top_place}
use Rattle.plcs_store.specs.Limit.{most_frames}
use Rattle.plcs_store.specs.Outcome.{Outcome}
use Rattle.plcs_store.specs.Step.{PlainStepAnswer}
use Rattle.plcs_store.specs.Undone.{StepsTakenBack, step_undone, undo_of}
use Rattle.plcs_machine.specs.declared.led.Doing.{Doing}
use Rattle.plcs_machine.specs.declared.led.Walked.{Walked}
use Rattle.plcs_machine.specs.declared.step_answer.StepAnswer.{StepAnswer}
use Rattle.plcs_machine.specs.Exec.{Exec, FetchedAnswer, acted, called, making_for, run_behind}
use Rattle.plcs_machine.specs.Fetched.{Fetched, fetches_of, result_of}
use Rattle.plcs_machine.specs.Lead.{Lead, address_of}
use Rattle.plcs_machine.specs.Passing.{Landing, landing, settle}
use Rattle.plcs_machine.specs.StepMade.{MakesFrame, StepChanges, step_answered}
use Rattle.plcs_machine.specs.Private.CountedSteps.{behind_many}
use Rattle.plcs_machine.specs.Private.DoableLead.{ActsOn}
use Rattle.plcs_machine.specs.Private.PlainLed.{TakesAtMost}
use Rattle.plcs_machine.specs.Private.WalkedStep.{IsStepDone, IsWalked, ending_answer, more_fetches, run_at, walked_outcome}
use Rattle.plcs_machine.proofs.EndedSteps.{WritesBehind, act_allowed, answered_by, answered_fetches, answered_result, answered_there, settled_apart}
use Rattle.plcs_machine.proofs.SettledCode.{left_there}

-- ---- the step that is wanted

-- what is so of the newest frame's place, of more than none and not too many frames
exec_if : (some few : Bool) (whole other : Option FetchedAnswer) → IsSome (if some && few then whole else other) → other ≡ None
    → (if some && few then whole else other) ≡ whole
exec_if true true whole other there none = refl
exec_if true false whole other there none = absurd (false≢true (ap (λ (o : Option FetchedAnswer). is_some o) (sym none) ∙ there))
exec_if false few whole other there none = absurd (false≢true (ap (λ (o : Option FetchedAnswer). is_some o) (sym none) ∙ there))

-- a step that is defined begins behind the place of the newest frame
pub exec_at : (code : PlainCode) (input : List ℕ) (c : PlainConfiguration) (place : Place) → top_place c.frames ≡ Some (plain_place place)
    → IsSome (Exec code input c) → Exec code input c ≡ run_at code (drop c.taken input) c place
exec_at code input c place at there =
    exec_if (nat_le 1 (length c.frames)) (nat_le (length c.frames) most_frames)
    (option_and_then (run_behind code input c) (option_and_then (address_of code) (top_place c.frames))) None there refl
    ∙ ap (λ (o : Option PlainPlace). option_and_then (run_behind code input c) (option_and_then (address_of code) o)) at

-- and so there is a place
pub exec_place : (code : PlainCode) (input : List ℕ) (c : PlainConfiguration) → IsSome (Exec code input c) → IsSome (top_place c.frames)
exec_place code input c there =
    by (top_place c.frames)
    (subst (λ (o : Option FetchedAnswer). IsSome o)
    (exec_if (nat_le 1 (length c.frames)) (nat_le (length c.frames) most_frames)
    (option_and_then (run_behind code input c) (option_and_then (address_of code) (top_place c.frames))) None there refl) there)
  where
    by : (place : Option PlainPlace) → IsSome (option_and_then (run_behind code input c) (option_and_then (address_of code) place)) → IsSome place
    by None there = there
    by (Some place) there = refl

-- ---- what is done is the whole step

pub result_behind : {A : Type 0} (k : ℕ) (fetched : Option (Fetched A)) → result_of (option_map (behind_many k) fetched) ≡ result_of fetched
result_behind k None = refl
result_behind k (Some one) = refl

pub fetches_behind : {A : Type 0} (k : ℕ) (fetched : Option (Fetched A)) → IsSome fetched → fetches_of (option_map (behind_many k) fetched) ≡ fetches_of fetched + k
fetches_behind k None there = absurd (false≢true there)
fetches_behind k (Some one) there = refl

-- a step is done as is wanted where the same is wanted
pub done_same : (wanted other : Option FetchedAnswer) → result_of wanted ≡ result_of other → (answer : StepAnswer) (before now : PlainConfiguration)
    (noted notes : Undo) → IsStepDone wanted answer before now noted notes → IsStepDone other answer before now noted notes
done_same wanted other same StepAnswer.Stepped before now noted notes is = (is.0, sym same ∙ is.1)
done_same wanted other same (StepAnswer.Stopped reason) before now noted notes is = (is.0, sym same ∙ is.1)
done_same wanted other same StepAnswer.Ended before now noted notes is = (is.0, sym same ∙ is.1)

-- a frame more is made as is wanted where the same is wanted
pub makes_same : (wanted other : Option FetchedAnswer) → result_of wanted ≡ result_of other → (before : PlainConfiguration)
    → MakesFrame wanted before → MakesFrame other before
makes_same wanted other same before makes = (makes.0, sym same ∙ makes.1, makes.2)

-- a step that is done is answered as it is wanted
pub done_answers : (wanted : Option FetchedAnswer) (answer : StepAnswer) (before now : PlainConfiguration) (noted notes : Undo)
    → IsStepDone wanted answer before now noted notes → result_of wanted ≡ Some (step_answered answer now)
done_answers wanted StepAnswer.Stepped before now noted notes is = is.1
done_answers wanted (StepAnswer.Stopped reason) before now noted notes is = is.1
done_answers wanted StepAnswer.Ended before now noted notes is = is.1

-- and it is taken back by its record, or changes nothing
pub done_changes : StepsTakenBack → (wanted : Option FetchedAnswer) (answer : StepAnswer) (before now : PlainConfiguration) (noted notes : Undo)
    → IsStepDone wanted answer before now noted notes → StepChanges answer before now noted notes
done_changes back wanted StepAnswer.Stepped before now noted notes is =
    let does = is.0 in (
      ap (λ (undo : Undo). step_undone undo now) does.4
          ∙ ap (step_undone (undo_of does.0 before)) does.3
          ∙ back does.0 does.1 before does.2,
      does,
    )
done_changes back wanted (StepAnswer.Stopped reason) before now noted notes is = is.0
done_changes back wanted StepAnswer.Ended before now noted notes is = is.0

-- ---- acts

module _ (code : PlainCode) (c : PlainConfiguration) (left address : ℕ) (act : Act) where
  -- the answer that is wanted behind an act
  abbrev pub wanted_act : Option FetchedAnswer
  wanted_act = ending_answer code c left (Outcome.gives (Lead.acts act address))

  -- behind an act that is answered a place comes
  pub act_settles : IsSome wanted_act → IsSome (settle [] code.instrs left address None)
  act_settles whole =
      subst (λ (o : Option (Fetched Landing)). IsSome o) (settled_apart c.frames code.instrs left address)
      (answered_there (acted c act) (settle c.frames code.instrs left address None) whole)

  -- and the fetches up to it are all that are left of the step
  pub act_fetches : IsSome wanted_act → fetches_of (settle [] code.instrs left address None) ≡ more_fetches wanted_act
  act_fetches whole =
      ap (λ (o : Option (Fetched Landing)). fetches_of o) (sym (settled_apart c.frames code.instrs left address))
      ∙ sym (answered_fetches (acted c act) (settle c.frames code.instrs left address None)
      (answered_there (acted c act) (settle c.frames code.instrs left address None) whole))

-- an act that is done where only jumps come before the next place is the step
pub act_done : (code : PlainCode) (c : PlainConfiguration) (place : Place) → top_place c.frames ≡ Some (plain_place place) → (left address : ℕ) (act : Act)
    (landed : Place) → result_of (settle [] code.instrs left address None) ≡ Some (landing (plain_place landed) [])
    → ActsOn c.frames act → WritesBehind c.output act → (now : PlainConfiguration) (noted notes : Undo)
    → now ≡ done act (plain_place landed) c → notes ≡ undo_of act c
    → IsStepDone (ending_answer code c left (Outcome.gives (Lead.acts act address))) StepAnswer.Stepped c now noted notes
act_done code c place at left address act landed lands can writes now noted notes is its =
    let same : result_of (settle c.frames code.instrs left address None) ≡ Some (landing (plain_place landed) []) =
    ap (λ (o : Option (Fetched Landing)). result_of o) (settled_apart c.frames code.instrs left address) ∙ lands in (
      (act, plain_place landed, act_allowed c place at act can writes, is, its),
      answered_result (acted c act) (settle c.frames code.instrs left address None) (landing (plain_place landed) []) same
          ∙ ap (λ (d : PlainConfiguration). let o : Option PlainStepAnswer = Some (PlainStepAnswer.stepped d) in o) (sym is),
    )

-- going to a place without an act is the step
pub pass_done : (code : PlainCode) (c : PlainConfiguration) (place : Place) → top_place c.frames ≡ Some (plain_place place) → (left : ℕ) (landed : Place)
    → (now : PlainConfiguration) (noted notes : Undo) → now ≡ done Act.pass (plain_place landed) c → notes ≡ undo_of Act.pass c
    → IsStepDone (ending_answer code c left (Outcome.gives (Lead.arrives (plain_place landed)))) StepAnswer.Stepped c now noted notes
pass_done code c place at left landed now noted notes is its = (
  (Act.pass, plain_place landed, act_allowed c place at Act.pass tt tt, is, its),
  ap (λ (d : PlainConfiguration). let o : Option PlainStepAnswer = Some (PlainStepAnswer.stepped d) in o) (sym is),
)

-- ---- behind a walk

-- something is fetched at an end
ended_counts : {A : Type 0} (make : Landing → A) (landed : Option (Fetched Landing)) → IsSome (answered_by make landed) → 1 ≤ fetches_of (answered_by make landed)
ended_counts make None there = absurd (false≢true there)
ended_counts make (Some one) there = omega arith

pub ending_counts : (code : PlainCode) (c : PlainConfiguration) (left : ℕ) (outcome : Outcome Lead) → IsSome (ending_answer code c left outcome)
    → 1 ≤ fetches_of (ending_answer code c left outcome)
ending_counts code c left (Outcome.gives (Lead.goes_on address values arguments)) there = absurd (false≢true there)
ending_counts code c left (Outcome.gives (Lead.acts act address)) there =
    ended_counts (acted c act) (settle c.frames code.instrs left address None) there
ending_counts code c left (Outcome.gives (Lead.enters slot address arguments)) there =
    ended_counts (called c slot) (settle c.frames code.instrs left address (Some (making_for arguments))) there
ending_counts code c left (Outcome.gives (Lead.arrives place)) there = omega arith
ending_counts code c left (Outcome.gives Lead.ends) there = omega arith
ending_counts code c left (Outcome.stops reason) there = omega arith
ending_counts code c left Outcome.undefined there = absurd (false≢true there)

module _ (code : PlainCode) (rest : List ℕ) (c : PlainConfiguration) (place : Place) (walked : Walked) (values : List Value) (arguments : List Argument)
    (walks : IsWalked code rest c place walked values arguments) (whole : IsSome (run_at code rest c place)) where
  -- the answer behind the walk
  abbrev pub behind_walk : Option FetchedAnswer
  behind_walk = ending_answer code c walked.left (walked_outcome c walked values arguments)

  pub walk_answered : IsSome behind_walk
  walk_answered = left_there (length code.instrs - (walked.left + 1)) behind_walk (run_at code rest c place) walks.whole whole

  pub walk_result : result_of behind_walk ≡ result_of (run_at code rest c place)
  walk_result =
      sym (result_behind (length code.instrs - (walked.left + 1)) behind_walk) ∙ ap (λ (o : Option FetchedAnswer). result_of o) walks.whole

  pub walk_fetches : length code.instrs - walked.left + more_fetches behind_walk ≡ fetches_of (run_at code rest c place)
  walk_fetches =
      let k = length code.instrs - (walked.left + 1) in
      let all : fetches_of behind_walk + k ≡ fetches_of (run_at code rest c place) =
      sym (fetches_behind k behind_walk walk_answered) ∙ ap (λ (o : Option FetchedAnswer). fetches_of o) walks.whole in
      let one = ending_counts code c walked.left (walked_outcome c walked values arguments) walk_answered in
      let few = walks.few in
      omega (arith, all, one, few)

-- ---- what is taken

-- what is at most so much is at most more
pub takes_more : (n m : ℕ) (doing : Doing) → n ≤ m → TakesAtMost n doing → TakesAtMost m doing
takes_more n m (Doing.Writes skip count) less takes = tt
takes_more n m (Doing.Reads location value count) less takes = omega (arith, less, takes)
takes_more n m (Doing.Leads led) less takes = tt
