-- What is fetched for a run: where it begins, and step by step.
use Rattle.std.specs.Prelude.{◌≡◌, refl, ℕ, suc, ◌+◌, ◌<◌, ◌≤◌, List, length, Option, Some, option_and_then}
use Rattle.std.specs.Option.{option_map_or}
use Rattle.std.proofs.Common.{ap, sym, ◌∙◌, subst, arith}
use Rattle.plcs_base.specs.Count.{raised_by}
use Rattle.plcs_base.specs.PlainCounts.{ChecksAtMost, PlainCounts}
use Rattle.plcs_code.specs.Counts.{Emits}
use Rattle.plcs_code.specs.ProgramCode.{program_code}
use Rattle.plcs_machine.specs.Fetched.{FetchesAtMost, FetchesBy}
use Rattle.plcs_store.specs.declared.reason.Reason.{Reason}
use Rattle.plcs_store.specs.declared.run_state.RunState.{RunState}
use Rattle.plcs_store.specs.Configuration.{PlainConfiguration, plain_configuration}
use Rattle.plcs_store.specs.NewFrame.{First}
use Rattle.plcs_store.specs.Step.{PlainStepAnswer, Step}
use Rattle.template_tree.specs.Checks.Marks.{procedure_verdicts}
use Rattle.template_tree.specs.Programs.PlainTree.{Forest, PlainTree}
use Rattle.program_run.specs.declared.ending.Ending.{Ending}
use Rattle.program_run.specs.CountedRun.{FetchesRun, begin_fetches, step_fetches, steps_fetches}
use Rattle.program_run.specs.ReachedConfiguration.{configuration_after, next_configuration, stepped_to}
use Rattle.program_run.specs.RunEnding.{CallsInStep}
use Rattle.program_run.specs.RunOutcome.{Reaches}
use Rattle.program_run.specs.Private.SteppedRun.{EndsSteps, HasBegun, IsReached, RunStands}

-- ---- counts

-- nothing is counted where nothing is fetched
fetches_nothing : (u : PlainCounts) → FetchesBy 0 u u
fetches_nothing u =
    let same : u.fetched ≡ raised_by 0 u.fetched = omega arith in
    ap (λ (n : ℕ). let v : PlainCounts = record u { fetched = n } in v) same

-- what is fetched adds up
fetches_both : (m n k : ℕ) (u v w : PlainCounts) → m + n ≡ k → FetchesBy m u v → FetchesBy n v w → FetchesBy k u w
fetches_both m n k u v w is one other =
    let both : raised_by n (raised_by m u.fetched) ≡ raised_by (m + n) u.fetched = omega arith in
    other
    ∙ ap (λ (x : PlainCounts). let y : PlainCounts = record x { fetched = raised_by n x.fetched } in y) one
    ∙ ap (λ (count : ℕ). let y : PlainCounts = record u { fetched = count } in y)
    (both ∙ ap (λ (number : ℕ). raised_by number u.fetched) is)

-- the same where the second part is at most so much
fetches_then : (m n k : ℕ) (u v w : PlainCounts) → m + n ≡ k → FetchesBy m u v → FetchesAtMost n v w → FetchesAtMost k u w
fetches_then m n k u v w is one most =
    let count : v.fetched ≡ raised_by m u.fetched = ap (λ (x : PlainCounts). x.fetched) one in
    let least = most.later in
    let greatest = most.most in
    record {
      most = omega (arith, is, count, greatest);
      later = omega (arith, count, least);
      others = most.others ∙ ap (λ (x : PlainCounts). let y : PlainCounts = record x { fetched = w.fetched } in y) one;
    }

-- at least the first part is fetched
fetches_least : (m n k : ℕ) (u v w : PlainCounts) → m + n ≡ k → FetchesBy m u v → raised_by n v.fetched ≤ w.fetched
    → raised_by k u.fetched ≤ w.fetched
fetches_least m n k u v w is one least =
    let count : v.fetched ≡ raised_by m u.fetched = ap (λ (x : PlainCounts). x.fetched) one in
    omega (arith, is, count, least)

-- ---- the steps of a run

module _ (tree : PlainTree) (input : List ℕ) where
  -- a run that begins is reached in no steps
  pub reached_first : (state : RunState) (u : PlainCounts) → HasBegun tree state → IsReached tree input 0 state u u
  reached_first state u begun =
      let first : Some (First tree.items) ≡ Some (plain_configuration state) = ap Some (sym begun.first) in
      record { reached = first; stands = begun.stands; fetched = fetches_nothing u }

  module _ (made : ℕ) (old : RunState) (u v : PlainCounts) (reached : IsReached tree input made old u v) where
    -- what the steps that were made and the next one fetch
    next_fetched : steps_fetches tree.items input (suc made)
        ≡ steps_fetches tree.items input made + step_fetches tree.items input (plain_configuration old)
    next_fetched =
        ap (λ (c : Option PlainConfiguration). steps_fetches tree.items input made
        + option_map_or (step_fetches tree.items input) c 0) reached.reached

    -- a step that is made is one more
    pub reached_next : (new : RunState) (w : PlainCounts)
        → Step tree.items input (plain_configuration old) ≡ Some (PlainStepAnswer.stepped (plain_configuration new))
        → RunStands tree new → FetchesBy (step_fetches tree.items input (plain_configuration old)) v w
        → IsReached tree input (made + 1) new u w
    reached_next new w answered stands fetched =
        let more : suc made ≡ made + 1 = omega arith in
        let P : ℕ → Type 0 = λ n. IsReached tree input n new u w in
        let next : configuration_after tree.items input (suc made) ≡ stepped_to (Step tree.items input (plain_configuration old)) =
        ap (λ (c : Option PlainConfiguration). option_and_then (next_configuration tree.items input) c) reached.reached in
        subst P more
        (record {
          reached = next ∙ ap stepped_to answered;
          stands = stands;
          fetched =
              fetches_both (steps_fetches tree.items input made) (step_fetches tree.items input (plain_configuration old))
              (steps_fetches tree.items input (suc made)) u v w (sym next_fetched) reached.fetched fetched;
        })

    -- what a try that makes no step fetches, behind the steps that were made
    tried_fetched : (w : PlainCounts) → FetchesBy (step_fetches tree.items input (plain_configuration old)) v w
        → FetchesBy (0 + steps_fetches tree.items input made + step_fetches tree.items input (plain_configuration old)) u w
    tried_fetched w fetched =
        let m = steps_fetches tree.items input made in
        let n = step_fetches tree.items input (plain_configuration old) in
        let all : m + n ≡ 0 + m + n = omega arith in
        fetches_both m n (0 + m + n) u v w all reached.fetched fetched

    -- the run stops for a reason
    pub steps_stop : (limit : ℕ) (reason : Reason) (now : PlainConfiguration) (w : PlainCounts) → made < limit
        → Step tree.items input (plain_configuration old) ≡ Some (PlainStepAnswer.stopped reason)
        → now ≡ plain_configuration old → FetchesBy (step_fetches tree.items input (plain_configuration old)) v w
        → EndsSteps tree.items input limit (Ending.Stopped reason) now 0 u w
    steps_stop limit reason now w below answered same fetched =
        let P : PlainConfiguration → Type 0 = λ c. EndsSteps tree.items input limit (Ending.Stopped reason) c 0 u w in
        subst P (sym same)
        (record { made = made; reached = reached.reached; ends = (below, answered); fetches = tried_fetched w fetched })

    -- the run is over
    pub steps_end : (limit : ℕ) (now : PlainConfiguration) (w : PlainCounts) → made < limit
        → Step tree.items input (plain_configuration old) ≡ Some PlainStepAnswer.ended
        → now ≡ plain_configuration old → FetchesBy (step_fetches tree.items input (plain_configuration old)) v w
        → EndsSteps tree.items input limit Ending.Ended now 0 u w
    steps_end limit now w below answered same fetched =
        let P : PlainConfiguration → Type 0 = λ c. EndsSteps tree.items input limit Ending.Ended c 0 u w in
        subst P (sym same)
        (record { made = made; reached = reached.reached; ends = (below, answered); fetches = tried_fetched w fetched })

    -- memory runs out in a step
    pub steps_want : (limit : ℕ) (now : PlainConfiguration) (w : PlainCounts) → made < limit
        → CallsInStep (plain_configuration old) (Step tree.items input (plain_configuration old))
        → now ≡ plain_configuration old → FetchesAtMost (step_fetches tree.items input (plain_configuration old)) v w
        → EndsSteps tree.items input limit Ending.NoMemory now 0 u w
    steps_want limit now w below calls same fetched =
        let P : PlainConfiguration → Type 0 = λ c. EndsSteps tree.items input limit Ending.NoMemory c 0 u w in
        let m = steps_fetches tree.items input made in
        let n = step_fetches tree.items input (plain_configuration old) in
        let count : v.fetched ≡ raised_by m u.fetched = ap (λ (x : PlainCounts). x.fetched) reached.fetched in
        let later = fetched.later in
        let all : m + n ≡ 0 + m + n = omega arith in
        let least : raised_by (0 + m) u.fetched ≤ w.fetched = omega (arith, count, later) in
        subst P (sym same)
        (record {
          made = made;
          reached = reached.reached;
          ends = (below, calls);
          fetches = (least, fetches_then m n (0 + m + n) u v w all reached.fetched fetched);
        })

  -- as many steps were made as may be
  pub steps_are_made : (limit : ℕ) (state : RunState) (u v : PlainCounts) → IsReached tree input limit state u v
      → EndsSteps tree.items input limit Ending.StepsMade (plain_configuration state) 0 u v
  steps_are_made limit state u v reached =
      let m = steps_fetches tree.items input limit in
      let all : m ≡ 0 + m = omega arith in
      record {
        made = limit;
        reached = reached.reached;
        ends = refl;
        fetches = subst (λ (k : ℕ). FetchesBy k u v) all reached.fetched;
      }

-- ---- the whole run

-- what is fetched in the steps of a run comes to what was fetched where it began
begun_fetches : (ending : Ending) (begun m n : ℕ) (u v w : PlainCounts) → FetchesBy begun u v
    → FetchesRun ending (0 + m) n v w → FetchesRun ending (begun + m) n u w
begun_fetches Ending.Ended begun m n u v w one other =
    let all : begun + (0 + m + n) ≡ begun + m + n = omega arith in
    fetches_both begun (0 + m + n) (begun + m + n) u v w all one other
begun_fetches (Ending.Stopped reason) begun m n u v w one other =
    let all : begun + (0 + m + n) ≡ begun + m + n = omega arith in
    fetches_both begun (0 + m + n) (begun + m + n) u v w all one other
begun_fetches Ending.StepsMade begun m n u v w one other =
    let all : begun + (0 + m) ≡ begun + m = omega arith in
    fetches_both begun (0 + m) (begun + m) u v w all one other
begun_fetches Ending.NoMemory begun m n u v w one other =
    let all : begun + (0 + m + n) ≡ begun + m + n = omega arith in
    let made : begun + (0 + m) ≡ begun + m = omega arith in (
      fetches_least begun (0 + m) (begun + m) u v w made one other.0,
      fetches_then begun (0 + m + n) (begun + m + n) u v w all one other.1,
    )
begun_fetches Ending.BadWords begun m n u v w one other = absurd other
begun_fetches (Ending.ProgramRefused refusal) begun m n u v w one other = absurd other
begun_fetches (Ending.InputRefused refusal) begun m n u v w one other = absurd other
begun_fetches Ending.WriteFault begun m n u v w one other = absurd other

module _ (program : Forest) (input : List ℕ) (limit : ℕ) (ending : Ending) (last : PlainConfiguration) where
  -- the steps of a run, with what was fetched where it began
  pub begun_steps : (begun : ℕ) (u v w : PlainCounts) → FetchesBy begun u v
      → EndsSteps program input limit ending last 0 v w → EndsSteps program input limit ending last begun u w
  begun_steps begun u v w one steps =
      record {
        made = steps.made;
        reached = steps.reached;
        ends = steps.ends;
        fetches = begun_fetches ending begun (steps_fetches program input steps.made) (step_fetches program input last) u v w one steps.fetches;
      }

  -- the whole run: the phrases were checked, and the code was made
  pub run_reaches : (u v w x : PlainCounts) → ChecksAtMost (length (procedure_verdicts program program)) u v
      → Emits (length (program_code program).instrs) v w
      → EndsSteps program input limit ending last (begin_fetches program) w x → Reaches program input limit ending last u x
  run_reaches u v w x checks emits steps =
      record {
        made = steps.made;
        reached = steps.reached;
        ends = steps.ends;
        counts = record { checked = v; coded = w; checks = checks; emits = emits; fetches = steps.fetches };
      }
