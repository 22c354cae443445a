-- Ticks by the code of the program as ticks by the program alone: each step of a run that fits is made in both ways
-- alike, and the run fits after it.
use Rattle.std.proofs.Common.{◌≡◌, ℕ, zero, suc, Bool, true, false, if◌then◌else◌, List, Option, Some, None, option_map, option_and_then, refl, sym, ap, ap₂, subst, ◌∙◌}
use Rattle.std.specs.Prelude.{IfSome, IsSome}
use Rattle.template_tree.specs.Programs.PlainTree.{Forest, PlainTree, roomless_tree}
use Rattle.template_tree.specs.Programs.Tree.{IsTree}
use Rattle.plcs_store.specs.Configuration.{PlainConfiguration}
use Rattle.plcs_store.specs.Fits.{Fits}
use Rattle.plcs_store.specs.Step.{PlainStepAnswer}
use Rattle.plcs_code.specs.Gen.{PlainCode}
use Rattle.plcs_machine.specs.Exec.{Exec, FetchedAnswer}
use Rattle.plcs_machine.specs.Fetched.{fetches_of, result_of}
use Rattle.synth_session.specs.declared.tick.Tick.{Tick}
use Rattle.synth_session.specs.PlainRun.{PlainRun}
use Rattle.synth_session.specs.PlainSession.{PlainSession}
use Rattle.synth_session.specs.ProgramCode.{code_of}
use Rattle.synth_session.specs.Private.ProgramSteps.{StepsOfPrograms}
use Rattle.synth_session.specs.Tick.{AreDefined, AreDefinedByTrace, AreMade, CallsNext, IsFirstDefined, IsRunning, IsTickDefined, Steps, TickOutcome, Tried, WantsInTick, after_steps, all_steps, tick_after, next_answer, one_step, program_steps, shown_step, steps_left, tick, ticked, tried, tried_if, tried_in, tried_with, with_fetches, with_more}
use Rattle.synth_session.proofs.ShownTicks.{tried_steps}

-- ---- steps of what fits

-- a step of what fits: it is defined, it is the same in both ways, and what it makes fits
pub record StepAgrees (own other : Steps) (items : Forest) (c : PlainConfiguration) : Type 0 where
  pub defined : IsSome (own c)
  pub same : own c ≡ other c
  pub fit : (next : PlainConfiguration) → result_of (own c) ≡ Some (PlainStepAnswer.stepped next) → Fits items next

-- each step of what fits
abbrev pub StepsAgree : Steps → Steps → Forest → Type 0
StepsAgree own other items = (c : PlainConfiguration) → Fits items c → StepAgrees own other items c

-- an answer, told by its result and by what is fetched for it
told_so : (answer : Option FetchedAnswer) → option_map (with_fetches (fetches_of answer)) (result_of answer) ≡ answer
told_so None = refl
told_so (Some answer) = refl

-- the steps by the code of a program
pub code_agrees : StepsOfPrograms → (tree : PlainTree) → IsTree tree → (code : PlainCode) → code ≡ code_of (roomless_tree tree)
    → (input : List ℕ) → StepsAgree (Exec code input) (program_steps (roomless_tree tree) input) (roomless_tree tree).items
code_agrees laws tree is_tree code is_code input c fits =
    let steps = laws tree input c is_tree fits in
    let own : Exec code input c ≡ Exec (code_of (roomless_tree tree)) input c = ap (λ (k : PlainCode). Exec k input c) is_code in
    let told = told_so (Exec (code_of (roomless_tree tree)) input c) in
    record {
      defined = subst (λ (a : Option FetchedAnswer). IsSome a) (sym own) steps.defined;
      same =
          own ∙ sym told
          ∙ ap (λ (a : Option PlainStepAnswer). option_map (with_fetches (fetches_of (Exec (code_of (roomless_tree tree)) input c))) a) steps.same;
      fit = λ next answered. steps.fit next (sym steps.same ∙ ap result_of (sym own) ∙ answered);
    }

-- ---- what is tried

-- the run of a session, if one stands, fits these items
abbrev pub FitsIn : Forest → PlainSession → Type 0
FitsIn items s = IfSome s.run (λ run. Fits items run.configuration)

module _ (own other : Steps) (items : Forest) (agree : StepsAgree own other items) where
  same_in : (s : PlainSession) (run : Option PlainRun) → IfSome run (λ run. Fits items run.configuration)
      → tried_in own s run ≡ tried_in other s run
  same_in s None fits = refl
  same_in s (Some run) fits = ap (tried_if s run) (agree run.configuration fits).same

  same_tried : (s : PlainSession) → FitsIn items s → tried own s ≡ tried other s
  unfolding tried
  same_tried s fits = same_in s s.run fits

  fits_with : (s : PlainSession) (run : PlainRun) (fetches : ℕ) (answer : PlainStepAnswer) → Fits items run.configuration
      → ((next : PlainConfiguration) → Some answer ≡ Some (PlainStepAnswer.stepped next) → Fits items next)
      → FitsIn items (tried_with s run fetches answer).after
  fits_with s run fetches (PlainStepAnswer.stepped next) fits fit = fit next refl
  fits_with s run fetches (PlainStepAnswer.stopped why) fits fit = fits
  fits_with s run fetches PlainStepAnswer.ended fits fit = fits

  fits_if : (s : PlainSession) (run : PlainRun) (answer : Option FetchedAnswer) → FitsIn items s → Fits items run.configuration
      → ((next : PlainConfiguration) → result_of answer ≡ Some (PlainStepAnswer.stepped next) → Fits items next)
      → FitsIn items (tried_if s run answer).after
  fits_if s run None whole fits fit = whole
  fits_if s run (Some answer) whole fits fit = fits_with s run answer.fetches answer.result fits fit

  fits_in : (s : PlainSession) (run : Option PlainRun) → FitsIn items s → IfSome run (λ run. Fits items run.configuration)
      → FitsIn items (tried_in own s run).after
  fits_in s None whole fits = whole
  fits_in s (Some run) whole fits = fits_if s run (own run.configuration) whole fits (agree run.configuration fits).fit

  fits_tried : (s : PlainSession) → FitsIn items s → FitsIn items (tried own s).after
  unfolding tried
  fits_tried s fits = fits_in s s.run fits fits

  -- ---- ticks

  same_all : (left : ℕ) (s : PlainSession) → FitsIn items s → all_steps own left s ≡ all_steps other left s
  unfolding all_steps
  same_all zero s fits = refl
  same_all (suc left) s fits =
      let step = tried own s in
      ap (λ (o : TickOutcome). if step.made then with_more step.fetches o else ticked Tick.Over step.after step.fetches)
      (same_all left step.after (fits_tried s fits))
      ∙ ap (λ (t : Tried). tick_after t (all_steps other left)) (same_tried s fits)

  same_one : (left : ℕ) (s : PlainSession) → FitsIn items s → one_step own left s ≡ one_step other left s
  same_one zero s fits = refl
  same_one (suc left) s fits = ap shown_step (same_tried s fits)

  -- `same` of steps_are_the_programs
  pub same_tick : (s : PlainSession) → FitsIn items s → tick own s ≡ tick other s
  unfolding tick
  same_tick s fits =
      ap₂ (λ (one all : TickOutcome). if s.trace then one else all) (same_one (steps_left s) s fits) (same_all (steps_left s) s fits)

  -- ---- what is defined

  answered_in : (run : Option PlainRun) → IfSome run (λ run. Fits items run.configuration) → IsSome run
      → IsSome (option_and_then (λ run. own run.configuration) run)
  answered_in None fits stands = stands
  answered_in (Some run) fits stands = (agree run.configuration fits).defined

  answered : (s : PlainSession) → FitsIn items s → IsSome s.run → IsSome (next_answer own s)
  answered s fits stands = answered_in s.run fits stands

  all_defined : (left : ℕ) (s : PlainSession) → FitsIn items s → IsSome s.run → AreDefined own left s
  all_defined zero s fits stands = tt
  all_defined (suc left) s fits stands =
      (answered s fits stands, λ made. all_defined left (tried own s).after (fits_tried s fits) (tried_steps own s made).stands)

  first_defined : (left : ℕ) (s : PlainSession) → FitsIn items s → IsSome s.run → IsFirstDefined own left s
  first_defined zero s fits stands = tt
  first_defined (suc left) s fits stands = answered s fits stands

  defined_by : (trace : Bool) (s : PlainSession) → FitsIn items s → IsSome s.run → AreDefinedByTrace trace own (steps_left s) s
  defined_by true s fits stands = first_defined (steps_left s) s fits stands
  defined_by false s fits stands = all_defined (steps_left s) s fits stands

  -- `defined` of steps_are_the_programs
  pub defined_tick : (s : PlainSession) → FitsIn items s → IsRunning s → IsTickDefined own s
  defined_tick s fits running = defined_by s.trace s fits running.stands

  -- ---- where memory runs out

  fits_after : (number : ℕ) (s : PlainSession) → FitsIn items s → FitsIn items (after_steps own number s)
  unfolding after_steps
  fits_after zero s fits = fits
  fits_after (suc number) s fits = fits_tried (after_steps own number s) (fits_after number s fits)

  same_after : (number : ℕ) (s : PlainSession) → FitsIn items s → after_steps own number s ≡ after_steps other number s
  unfolding after_steps
  same_after zero s fits = refl
  same_after (suc number) s fits =
      ap (λ (t : Tried). t.after) (same_tried (after_steps own number s) (fits_after number s fits))
      ∙ ap (λ (x : PlainSession). (tried other x).after) (same_after number s fits)

  same_made : (number : ℕ) (s : PlainSession) → FitsIn items s → AreMade own number s → AreMade other number s
  same_made zero s fits made = made
  same_made (suc number) s fits made = (
    same_made number s fits made.0,
    ap (λ (x : PlainSession). (tried other x).made) (sym (same_after number s fits))
        ∙ ap (λ (t : Tried). t.made) (sym (same_tried (after_steps own number s) (fits_after number s fits)))
        ∙ made.1,
  )

  same_calls : (s : PlainSession) → FitsIn items s → CallsNext own s → CallsNext other s
  same_calls s fits calls =
      let fits_there : Fits items calls.run.configuration =
      subst (λ (r : Option PlainRun). IfSome r (λ run. Fits items run.configuration)) calls.stands fits
      in
      record {
        run = calls.run;
        stands = calls.stands;
        next = calls.next;
        answered =
            ap (λ (a : Option FetchedAnswer). option_map (λ answer. answer.result) a) (sym (agree calls.run.configuration fits_there).same) ∙ calls.answered;
        calls = calls.calls;
      }

  -- `wanted` of steps_are_the_programs
  pub same_wanted : (s now : PlainSession) → FitsIn items s → WantsInTick own s now → WantsInTick other s now
  same_wanted s now fits wants = record {
    number = wants.number;
    within = wants.within;
    shown = wants.shown;
    made = same_made wants.number s fits wants.made;
    after = wants.after ∙ same_after wants.number s fits;
    calls = same_calls now (subst (FitsIn items) (sym wants.after) (fits_after wants.number s fits)) wants.calls;
  }
