-- `resumed_runs_fit`: what a yes of the rule says of each frame.
use Rattle.std.specs.Prelude.{◌≡◌, refl, ℕ, zero, suc, true, List, [], ◌∷◌, map, slice_get, Option, Some, None}
use Rattle.std.proofs.Common.{ap, sym, ◌∙◌, subst, inl, inr}
use Rattle.std.proofs.lemmas.Option.{none-some, same_Some}
use Rattle.plcs_base.specs.declared.declared.Declared.{Declared}
use Rattle.plcs_grammar.specs.declared.node_kind.NodeKind.{NodeKind}
use Rattle.template_tree.specs.Checks.Environment.{Items}
use Rattle.template_tree.specs.Positions.Place.{Site, site}
use Rattle.template_tree.specs.Programs.PlainTree.{Forest}
use Rattle.plcs_store.specs.declared.frame.Frame.{Frame}
use Rattle.plcs_store.specs.declared.held_template.HeldTemplate.{HeldTemplate}
use Rattle.plcs_store.specs.declared.refusal.ResumeRefusal.{ResumeRefusal}
use Rattle.plcs_store.specs.Resume.{Asks, AsksFrame, AsksFrames, HeadingDiffers, ItemsDiffer, Parts, TemplateDiffers, asks_for_parts, kind_held, parts_held, template_held}
use Rattle.resume_rule.proofs.HeldTemplates.{kind_is, parts_are}
use Rattle.resume_rule.proofs.SettledEquations.{head_or, items_settled, tail}

-- the rule refuses nothing of a frame that stood in the earlier program: its items are as they were, its slot is live,
-- and at a point other than the start neither the kind of what stands there can differ nor, where it is asked for them,
-- its parts
pub record IsAllowed (earlier later : Forest) (frame : Frame) : Type 0 where
  pub items : Items later frame.procedure.0 ≡ Items earlier frame.procedure.0
  pub live : (found : Site) × (site later frame.place.slot.0 ≡ Some found)
  pub kind : (frame.place.point.0 ≡ 0 → ⊥) → ¬ (¬ (kind_held later frame.place.slot.0 ≡ kind_held earlier frame.place.slot.0))
  pub parts :
      (frame.place.point.0 ≡ 0 → ⊥) → (was : NodeKind) → kind_held earlier frame.place.slot.0 ≡ Some was → asks_for_parts was ≡ true
      → ¬ (¬ (parts_held later frame.place.slot.0 ≡ parts_held earlier frame.place.slot.0))

-- where a question isn't answered by its refusal, it doesn't hold, and more is asked
passed : (question : Type 0) (refusal : ResumeRefusal) (more : Option ResumeRefusal → Type 0) → Asks question refusal more None
    → (¬ question) × more None
passed question refusal more (inl told) = absurd (none-some refusal told.1)
passed question refusal more (inr told) = told

-- a frame that isn't refused, and what is asked of the others
told_on : (later : Forest) (frame : Frame) (heading : Parts) (items : List Declared) (template : HeldTemplate)
    (more : Option ResumeRefusal → Type 0) → AsksFrame later frame heading items template more None
    → (¬ (ItemsDiffer later frame items)) × (¬ (TemplateDiffers later frame template)) × more None
told_on later frame heading items template more asked =
    let after_heading =
    passed (HeadingDiffers later frame heading) (ResumeRefusal.HeadingChanged frame.procedure)
    (Asks (ItemsDiffer later frame items) (ResumeRefusal.DeclarationChanged frame.procedure)
    (Asks (TemplateDiffers later frame template) (ResumeRefusal.TemplateChanged frame.place.slot) more)) asked in
    let after_items =
    passed (ItemsDiffer later frame items) (ResumeRefusal.DeclarationChanged frame.procedure)
    (Asks (TemplateDiffers later frame template) (ResumeRefusal.TemplateChanged frame.place.slot) more) after_heading.1 in
    let after_template =
    passed (TemplateDiffers later frame template) (ResumeRefusal.TemplateChanged frame.place.slot) more after_items.1 in
    (after_items.0, after_template.0, after_template.1)

allowed_frame : (earlier later : Forest) (frame : Frame) (items : List Declared) (template : HeldTemplate)
    → Items earlier frame.procedure.0 ≡ items → template_held earlier frame.place.slot.0 ≡ Some template
    → ¬ (ItemsDiffer later frame items) → ¬ (TemplateDiffers later frame template) → IsAllowed earlier later frame
allowed_frame earlier later frame items template items_are template_is same_items same_template =
    record {
      items = items_settled (Items later frame.procedure.0) items same_items ∙ sym items_are;
      live = by (site later frame.place.slot.0) refl;
      kind =
          λ other differs.
          same_template (inr (inl (other, λ e. differs (e ∙ sym (kind_is earlier frame.place.slot.0 template template_is)))));
      parts =
          λ other was stood asked differs.
          let kind : was ≡ template.kind = same_Some was template.kind (sym stood ∙ kind_is earlier frame.place.slot.0 template template_is) in
          same_template
          (inr (inr (
            other,
            (
              sym (ap asks_for_parts kind) ∙ asked,
              λ e. differs (e ∙ sym (parts_are earlier frame.place.slot.0 template template_is)),
            ),
          )));
    }
  where
    by : (got : Option Site) → site later frame.place.slot.0 ≡ got → (found : Site) × (site later frame.place.slot.0 ≡ Some found)
    by None gone = absurd (same_template (inl gone))
    by (Some found) there = (found, there)

-- each frame, by its number
pub allowed_frames : (earlier later : Forest) (frames : List Frame) (headings : List Parts) (declared : List (List Declared)) (held : List HeldTemplate)
    → map (λ (frame : Frame). Items earlier frame.procedure.0) frames ≡ declared
    → map (λ (frame : Frame). template_held earlier frame.place.slot.0) frames ≡ map Some held
    → AsksFrames later frames headings declared held None
    → (k : ℕ) (frame : Frame) → slice_get frames k ≡ Some frame → IsAllowed earlier later frame
allowed_frames earlier later [] headings declared held items templates asked k frame found = absurd (none-some frame found)
allowed_frames earlier later (one ∷ frames) [] declared held items templates asked k frame found = absurd asked
allowed_frames earlier later (one ∷ frames) (heading ∷ headings) [] held items templates asked k frame found = absurd asked
allowed_frames earlier later (one ∷ frames) (heading ∷ headings) (own ∷ declared) [] items templates asked k frame found = absurd asked
allowed_frames earlier later (one ∷ frames) (heading ∷ headings) (own ∷ declared) (template ∷ held) items templates asked zero frame found =
    let told = told_on later one heading own template (AsksFrames later frames headings declared held) asked in
    subst (IsAllowed earlier later) (same_Some one frame found)
    (allowed_frame earlier later one own template (ap (head_or own) items) (ap (head_or (Some template)) templates) told.0 told.1)
allowed_frames earlier later (one ∷ frames) (heading ∷ headings) (own ∷ declared) (template ∷ held) items templates asked (suc k) frame found =
    let told = told_on later one heading own template (AsksFrames later frames headings declared held) asked in
    allowed_frames earlier later frames headings declared held (ap tail items) (ap tail templates) told.2 k frame found
