-- One answer is right, that of the questions one after the other.
use Rattle.std.specs.Prelude.{◌≡◌, ◌↔◌, List, ◌∷◌, Option, Some, None}
use Rattle.std.proofs.Common.{sym, subst, inl, inr}
use Rattle.plcs_base.specs.declared.declared.Declared.{Declared}
use Rattle.template_tree.specs.Programs.PlainTree.{Forest}
use Rattle.plcs_store.specs.declared.frame.Frame.{Frame}
use Rattle.plcs_store.specs.declared.held_template.HeldTemplate.{HeldTemplate}
use Rattle.plcs_store.specs.declared.refusal.ResumeRefusal.{ResumeRefusal}
use Rattle.plcs_store.specs.Resume.{Asks, AsksFrame, AsksFrames, HeadingDiffers, ItemsDiffer, Parts, TemplateDiffers}
use Rattle.resume_rule.specs.ResumeAnswer.{IsFrameAnswer, IsFramesAnswer}

-- no more is asked: no refusal
abbrev pub NoMore : Option ResumeRefusal → Type 0
NoMore answer = answer ≡ None

-- what a question and those behind it answer: where that is a refusal, it is the answer whatever is asked behind them,
-- and where it is none, the answer is that of what is asked behind them
abbrev pub LeadsOn : ((Option ResumeRefusal → Type 0) → Option ResumeRefusal → Type 0) → Option ResumeRefusal → Type 1
LeadsOn asks None = (more : Option ResumeRefusal → Type 0) (other : Option ResumeRefusal) → asks more other ↔ more other
LeadsOn asks (Some refusal) = (more : Option ResumeRefusal → Type 0) (other : Option ResumeRefusal) → asks more other ↔ (other ≡ Some refusal)

refused_at_once : (question : Type 0) (refusal : ResumeRefusal) (more : Option ResumeRefusal → Type 0) (other : Option ResumeRefusal) → question
    → Asks question refusal more other ↔ (other ≡ Some refusal)
refused_at_once question refusal more other holds = (
  (λ asked. elim asked as (λ _. other ≡ Some refusal) [
    | inl told ↦ told.1
    | inr told ↦ absurd (told.0 holds)
  ]),
  (λ is. inl (holds, is)),
)

asked_on : (question : Type 0) (refusal : ResumeRefusal) (more : Option ResumeRefusal → Type 0) (other : Option ResumeRefusal) → ¬ question
    → Asks question refusal more other ↔ more other
asked_on question refusal more other fails = (
  (λ asked. elim asked as (λ _. more other) [
    | inl told ↦ absurd (fails told.0)
    | inr told ↦ told.1
  ]),
  (λ told. inr (fails, told)),
)

through : {A B C : Type 0} → A ↔ B → B ↔ C → A ↔ C
through one two = ((λ a. two.0 (one.0 a)), (λ c. one.1 (two.1 c)))

-- a question before others that lead on leads on
leads_before : (question : Type 0) (refusal : ResumeRefusal) (asks : (Option ResumeRefusal → Type 0) → Option ResumeRefusal → Type 0)
    (answer : Option ResumeRefusal) → Asks question refusal (asks NoMore) answer
    → (asks NoMore answer → LeadsOn asks answer) → LeadsOn (λ more. Asks question refusal (asks more)) answer
leads_before question refusal asks answer (inl told) later =
    subst (LeadsOn (λ more. Asks question refusal (asks more))) (sym told.1) (λ more other. refused_at_once question refusal (asks more) other told.0)
leads_before question refusal asks None (inr told) later =
    λ more other. through (asked_on question refusal (asks more) other told.0) (later told.1 more other)
leads_before question refusal asks (Some one) (inr told) later =
    λ more other. through (asked_on question refusal (asks more) other told.0) (later told.1 more other)

leads_last : (question : Type 0) (refusal : ResumeRefusal) (answer : Option ResumeRefusal) → Asks question refusal NoMore answer
    → LeadsOn (λ more. Asks question refusal more) answer
leads_last question refusal answer (inl told) =
    subst (LeadsOn (λ more. Asks question refusal more)) (sym told.1) (λ more other. refused_at_once question refusal more other told.0)
leads_last question refusal answer (inr told) =
    subst (LeadsOn (λ more. Asks question refusal more)) (sym told.1) (λ more other. asked_on question refusal more other told.0)

-- the questions for a frame lead on
pub frame_leads : (program : Forest) (frame : Frame) (heading : Parts) (items : List Declared) (template : HeldTemplate) (answer : Option ResumeRefusal)
    → AsksFrame program frame heading items template NoMore answer
    → LeadsOn (λ more. AsksFrame program frame heading items template more) answer
frame_leads program frame heading items template answer asked =
    leads_before (HeadingDiffers program frame heading) (ResumeRefusal.HeadingChanged frame.procedure)
    (λ more. Asks (ItemsDiffer program frame items) (ResumeRefusal.DeclarationChanged frame.procedure)
    (Asks (TemplateDiffers program frame template) (ResumeRefusal.TemplateChanged frame.place.slot) more)) answer asked
    (λ rest.
    leads_before (ItemsDiffer program frame items) (ResumeRefusal.DeclarationChanged frame.procedure)
    (λ more. Asks (TemplateDiffers program frame template) (ResumeRefusal.TemplateChanged frame.place.slot) more) answer rest
    (leads_last (TemplateDiffers program frame template) (ResumeRefusal.TemplateChanged frame.place.slot) answer))

-- a refusal for the first frame is the answer for all
pub first_refused : (program : Forest) (frame : Frame) (frames : List Frame) (heading : Parts) (headings : List Parts)
    (items : List Declared) (declared : List (List Declared)) (template : HeldTemplate) (held : List HeldTemplate) (refusal : ResumeRefusal)
    → IsFrameAnswer program frame heading items template (Some refusal)
    → IsFramesAnswer program (frame ∷ frames) (heading ∷ headings) (items ∷ declared) (template ∷ held) (Some refusal)
first_refused program frame frames heading headings items declared template held refusal asked other =
    frame_leads program frame heading items template (Some refusal) asked (AsksFrames program frames headings declared held) other

-- and where there is none, the answer is that for the frames above it
pub first_passed : (program : Forest) (frame : Frame) (frames : List Frame) (heading : Parts) (headings : List Parts)
    (items : List Declared) (declared : List (List Declared)) (template : HeldTemplate) (held : List HeldTemplate) (answer : Option ResumeRefusal)
    → IsFrameAnswer program frame heading items template None → IsFramesAnswer program frames headings declared held answer
    → IsFramesAnswer program (frame ∷ frames) (heading ∷ headings) (items ∷ declared) (template ∷ held) answer
first_passed program frame frames heading headings items declared template held answer asked later other =
    through (frame_leads program frame heading items template None asked (AsksFrames program frames headings declared held) other) (later other)

-- and so it is for lists that are these
pub of_lists : (program : Forest) (answer : Option ResumeRefusal) (frames others : List Frame) (headings other_headings : List Parts)
    (declared other_declared : List (List Declared)) (held other_held : List HeldTemplate)
    → frames ≡ others → headings ≡ other_headings → declared ≡ other_declared → held ≡ other_held
    → IsFramesAnswer program others other_headings other_declared other_held answer → IsFramesAnswer program frames headings declared held answer
of_lists program answer frames others headings other_headings declared other_declared held other_held f h d t right =
    subst (λ (list : List Frame). IsFramesAnswer program list headings declared held answer) (sym f)
    (subst (λ (list : List Parts). IsFramesAnswer program others list declared held answer) (sym h)
    (subst (λ (list : List (List Declared)). IsFramesAnswer program others other_headings list held answer) (sym d)
    (subst (λ (list : List HeldTemplate). IsFramesAnswer program others other_headings other_declared list answer) (sym t) right)))
