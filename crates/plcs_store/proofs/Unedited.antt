-- `unedited_may_resume`: what was kept of a program differs nowhere from it.
use Rattle.std.specs.Prelude.{◌≡◌, List, [], ◌∷◌, map, Option, Some, None, option_map}
use Rattle.std.proofs.Common.{ap, sym, ◌∙◌, refl, subst, inl, inr}
use Rattle.std.proofs.lemmas.Option.{none-some}
use Rattle.plcs_base.specs.declared.declared.Declared.{Declared}
use Rattle.template_tree.specs.Checks.Environment.{Items}
use Rattle.template_tree.specs.Positions.Place.{Site, site}
use Rattle.template_tree.specs.Programs.PlainTree.{Forest}
use Rattle.plcs_store.specs.declared.frame.Frame.{Frame}
use Rattle.plcs_store.specs.declared.held_template.HeldTemplate.{HeldTemplate}
use Rattle.plcs_store.specs.Resume.{AsksFrames, Parts, TemplateDiffers, UneditedResumes, heading_parts, template_held}

abbrev head_or : {A : Type 0} → A → List A → A
head_or other [] = other
head_or other (a ∷ rest) = a

abbrev tail : {A : Type 0} → List A → List A
tail [] = []
tail (a ∷ rest) = rest

abbrev is_empty : {A : Type 0} → List A → Type 0
is_empty [] = Unit {0}
is_empty (a ∷ rest) = ⊥

same_head : {A : Type 0} (a b : A) (xs ys : List A) → (a ∷ xs) ≡ (b ∷ ys) → a ≡ b
same_head a b xs ys e = ap (head_or a) e

same_tail : {A : Type 0} (a b : A) (xs ys : List A) → (a ∷ xs) ≡ (b ∷ ys) → xs ≡ ys
same_tail a b xs ys e = ap tail e

no_item : {A : Type 0} (a : A) (xs : List A) → (a ∷ xs) ≡ [] → ⊥
no_item a xs e = subst is_empty (sym e) tt

abbrev held_of : Site → HeldTemplate
held_of found = record { kind = found.label.kind; parts = found.label.parts }

-- of what stands in the slot the kind and the parts are those that are held
kind_same : (found : Option Site) → option_map (λ (one : Site). one.label.kind) found ≡ option_map (λ (held : HeldTemplate). held.kind) (option_map held_of found)
kind_same None = refl
kind_same (Some found) = refl

parts_same : (found : Option Site) → option_map (λ (one : Site). one.label.parts) found ≡ option_map (λ (held : HeldTemplate). held.parts) (option_map held_of found)
parts_same None = refl
parts_same (Some found) = refl

same_template : (program : Forest) (frame : Frame) (template : HeldTemplate)
    → template_held program frame.place.slot.0 ≡ Some template → ¬ (TemplateDiffers program frame template)
same_template program frame template same (inl gone) =
    none-some template (sym (ap (option_map held_of) gone) ∙ same)
same_template program frame template same (inr (inl differs)) =
    differs.1 (kind_same (site program frame.place.slot.0) ∙ ap (option_map (λ (held : HeldTemplate). held.kind)) same)
same_template program frame template same (inr (inr differs)) =
    differs.1.1 (parts_same (site program frame.place.slot.0) ∙ ap (option_map (λ (held : HeldTemplate). held.parts)) same)

nothing_asked : (program : Forest) (frames : List Frame) (headings : List Parts) (declared : List (List Declared)) (held : List HeldTemplate)
    → map (λ (frame : Frame). heading_parts program frame.procedure.0) frames ≡ map Some headings
    → map (λ (frame : Frame). Items program frame.procedure.0) frames ≡ declared
    → map (λ (frame : Frame). template_held program frame.place.slot.0) frames ≡ map Some held
    → AsksFrames program frames headings declared held None
nothing_asked program [] headings declared held h i t = refl
nothing_asked program (frame ∷ frames) [] declared held h i t = no_item (heading_parts program frame.procedure.0) (map (λ (one : Frame). heading_parts program one.procedure.0) frames) h
nothing_asked program (frame ∷ frames) (heading ∷ headings) [] held h i t = no_item (Items program frame.procedure.0) (map (λ (one : Frame). Items program one.procedure.0) frames) i
nothing_asked program (frame ∷ frames) (heading ∷ headings) (items ∷ declared) [] h i t =
    no_item (template_held program frame.place.slot.0) (map (λ (one : Frame). template_held program one.place.slot.0) frames) t
nothing_asked program (frame ∷ frames) (heading ∷ headings) (items ∷ declared) (template ∷ held) h i t =
    inr (
      (λ differs. differs (ap (head_or (Some heading)) h)),
      inr (
        (λ differs. differs (ap (head_or items) i)),
        inr (
          same_template program frame template (ap (head_or (Some template)) t),
          nothing_asked program frames headings declared held (ap tail h) (ap tail i) (ap tail t),
        ),
      ),
    )

pub unedited_may_resume : UneditedResumes
unedited_may_resume program c kept is = nothing_asked program c.frames kept.headings kept.declared kept.held is.headings is.declared is.held
