-- `answers_follow_frames`: what is asked of two programs that have the same for each frame.
-- Each question holds of both or of neither, so that the refusals are the same, one question after the other.
use Rattle.std.specs.Prelude.{◌≡◌, refl, List, [], ◌∷◌, map, Option, Some, None, option_map}
use Rattle.std.proofs.Common.{ap, sym, ◌∙◌, inl, inr}
use Rattle.std.proofs.lemmas.Option.{none-some}
use Rattle.plcs_base.specs.declared.declared.Declared.{Declared}
use Rattle.template_tree.specs.Checks.Environment.{Items}
use Rattle.template_tree.specs.Positions.Place.{Site, site}
use Rattle.template_tree.specs.Programs.PlainTree.{Forest}
use Rattle.plcs_store.specs.declared.frame.Frame.{Frame}
use Rattle.plcs_store.specs.declared.held_template.HeldTemplate.{HeldTemplate}
use Rattle.plcs_store.specs.declared.refusal.ResumeRefusal.{ResumeRefusal}
use Rattle.plcs_store.specs.Resume.{Asks, AsksFrames, HeadingDiffers, ItemsDiffer, Parts, TemplateDiffers, UneditedResumes, heading_parts, template_held}
use Rattle.resume_rule.specs.ResumeLaws.{AnswersFollowFrames, ChangedBackResumes}
use Rattle.resume_rule.proofs.HeldTemplates.{kind_same, parts_same}
use Rattle.resume_rule.proofs.SettledEquations.{head_or, tail}

-- a question that holds of the same, before what is asked then
asked_of_same : (one other : Type 0) (refusal : ResumeRefusal) (more others : Option ResumeRefusal → Type 0) (answer : Option ResumeRefusal)
    → (one → other) → (other → one) → (more answer → others answer) → Asks one refusal more answer → Asks other refusal others answer
asked_of_same one other refusal more others answer to back on (inl told) = inl (to told.0, told.1)
asked_of_same one other refusal more others answer to back on (inr told) = inr ((λ holds. told.0 (back holds)), on told.1)

-- no node is found in the other program either
gone_in_other : (one other : Option Site) → option_map (λ found. found.label.kind) one ≡ option_map (λ found. found.label.kind) other
    → one ≡ None → other ≡ None
gone_in_other one None same gone = refl
gone_in_other one (Some found) same gone =
    absurd (none-some found.label.kind (sym (ap (option_map (λ (found : Site). found.label.kind)) gone) ∙ same))

template_of_same : (one other : Forest) (frame : Frame) (template : HeldTemplate)
    → template_held one frame.place.slot.0 ≡ template_held other frame.place.slot.0
    → TemplateDiffers one frame template → TemplateDiffers other frame template
template_of_same one other frame template same (inl gone) =
    inl
    (gone_in_other (site one frame.place.slot.0) (site other frame.place.slot.0) (kind_same one other frame.place.slot.0 same) gone)
template_of_same one other frame template same (inr (inl kind)) =
    inr (inl (kind.0, λ e. kind.1 (kind_same one other frame.place.slot.0 same ∙ e)))
template_of_same one other frame template same (inr (inr parts)) =
    inr (inr (parts.0, (parts.1.0, λ e. parts.1.1 (parts_same one other frame.place.slot.0 same ∙ e))))

frames_asked : (one other : Forest) (answer : Option ResumeRefusal) (frames : List Frame) (headings : List Parts) (declared : List (List Declared))
    (held : List HeldTemplate)
    → map (λ (frame : Frame). heading_parts one frame.procedure.0) frames ≡ map (λ (frame : Frame). heading_parts other frame.procedure.0) frames
    → map (λ (frame : Frame). Items one frame.procedure.0) frames ≡ map (λ (frame : Frame). Items other frame.procedure.0) frames
    → map (λ (frame : Frame). template_held one frame.place.slot.0) frames ≡ map (λ (frame : Frame). template_held other frame.place.slot.0) frames
    → AsksFrames one frames headings declared held answer → AsksFrames other frames headings declared held answer
frames_asked one other answer [] headings declared held h d t asked = asked
frames_asked one other answer (frame ∷ frames) [] declared held h d t asked = asked
frames_asked one other answer (frame ∷ frames) (heading ∷ headings) [] held h d t asked = asked
frames_asked one other answer (frame ∷ frames) (heading ∷ headings) (items ∷ declared) [] h d t asked = asked
frames_asked one other answer (frame ∷ frames) (heading ∷ headings) (items ∷ declared) (template ∷ held) h d t asked =
    let parts : heading_parts one frame.procedure.0 ≡ heading_parts other frame.procedure.0 = ap (head_or None) h in
    let own : Items one frame.procedure.0 ≡ Items other frame.procedure.0 = ap (head_or []) d in
    let held_same : template_held one frame.place.slot.0 ≡ template_held other frame.place.slot.0 = ap (head_or None) t in
    let heading_refusal : ResumeRefusal = ResumeRefusal.HeadingChanged frame.procedure in
    let items_refusal : ResumeRefusal = ResumeRefusal.DeclarationChanged frame.procedure in
    let template_refusal : ResumeRefusal = ResumeRefusal.TemplateChanged frame.place.slot in
    let rest : Option ResumeRefusal → Type 0 = AsksFrames one frames headings declared held in
    let others : Option ResumeRefusal → Type 0 = AsksFrames other frames headings declared held in
    asked_of_same (HeadingDiffers one frame heading) (HeadingDiffers other frame heading) heading_refusal
    (Asks (ItemsDiffer one frame items) items_refusal (Asks (TemplateDiffers one frame template) template_refusal rest))
    (Asks (ItemsDiffer other frame items) items_refusal (Asks (TemplateDiffers other frame template) template_refusal others)) answer
    (λ differs e. differs (parts ∙ e)) (λ differs e. differs (sym parts ∙ e))
    (asked_of_same (ItemsDiffer one frame items) (ItemsDiffer other frame items) items_refusal
    (Asks (TemplateDiffers one frame template) template_refusal rest) (Asks (TemplateDiffers other frame template) template_refusal others) answer
    (λ differs e. differs (own ∙ e)) (λ differs e. differs (sym own ∙ e))
    (asked_of_same (TemplateDiffers one frame template) (TemplateDiffers other frame template) template_refusal rest others answer
    (template_of_same one other frame template held_same) (template_of_same other one frame template (sym held_same))
    (frames_asked one other answer frames headings declared held (ap tail h) (ap tail d) (ap tail t)))) asked

pub answers_follow_frames : AnswersFollowFrames
answers_follow_frames one other c kept answer same asked =
    frames_asked one other answer c.frames kept.headings kept.declared kept.held same.headings same.declared same.held asked

pub changed_back_resumes : UneditedResumes → ChangedBackResumes
changed_back_resumes unedited earlier later c kept is_kept same =
    unedited later c kept
    record {
      headings = same.headings ∙ is_kept.headings;
      declared = same.declared ∙ is_kept.declared;
      held = same.held ∙ is_kept.held;
    }
