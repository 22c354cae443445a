-- `template_differs`: what is told of the node in a slot tells whether the template there differs.
use Rattle.std.specs.Prelude.{◌≡◌, ◌↔◌, refl, ℕ, Bool, true, false, not, IsTrue, Option, Some, None, option_map}
use Rattle.std.proofs.Common.{ap, sym, ◌∙◌, inl, inr}
use Rattle.std.proofs.Math.Bool.{false≢true}
use Rattle.std.proofs.lemmas.Option.{none-some, same_Some}
use Rattle.template_tree.specs.Positions.Place.{Site, site}
use Rattle.template_tree.specs.Programs.PlainTree.{Forest, Label}
use Rattle.plcs_store.specs.declared.frame.Frame.{Frame}
use Rattle.plcs_store.specs.declared.held_template.HeldTemplate.{HeldTemplate}
use Rattle.plcs_store.specs.Resume.{TemplateDiffers, asks_for_parts, kind_held, parts_held}

-- the label in the slot, if it is live
abbrev label_at : (program : Forest) → (slot : ℕ) → Option Label
label_at program slot = option_map (λ found. found.label) (site program slot)

kind_of_label : (found : Option Site) → option_map (λ (label : Label). label.kind) (option_map (λ found. found.label) found) ≡ option_map (λ found. found.label.kind) found
kind_of_label None = refl
kind_of_label (Some found) = refl

parts_of_label : (found : Option Site) → option_map (λ (label : Label). label.parts) (option_map (λ found. found.label) found) ≡ option_map (λ found. found.label.parts) found
parts_of_label None = refl
parts_of_label (Some found) = refl

is_gone : (found : Option Site) (label : Label) → Some label ≡ option_map (λ found. found.label) found → found ≡ None → ⊥
is_gone found label there gone = none-some label (sym (there ∙ ap (option_map (λ (one : Site). one.label)) gone))

same_not_other : (same : Bool) → IsTrue same → IsTrue (not same) → ⊥
same_not_other true is other = false≢true other
same_not_other false is other = false≢true is

module _ (program : Forest) (frame : Frame) (kept : HeldTemplate) (label : Label) (there : Some label ≡ label_at program frame.place.slot.0)
    (later : frame.place.point.0 ≡ 0 → ⊥) where
  kind_there : Some label.kind ≡ kind_held program frame.place.slot.0
  kind_there = ap (option_map (λ (one : Label). one.kind)) there ∙ kind_of_label (site program frame.place.slot.0)

  parts_there : Some label.parts ≡ parts_held program frame.place.slot.0
  parts_there = ap (option_map (λ (one : Label). one.parts)) there ∙ parts_of_label (site program frame.place.slot.0)

  pub kind_tells : (same : Bool) → (IsTrue same ↔ (label.kind ≡ kept.kind)) → same ≡ false → IsTrue (not same) ↔ TemplateDiffers program frame kept
  kind_tells same told is_other = (
    λ other. inr (inl (later, λ e. same_not_other same (told.1 (same_Some label.kind kept.kind (kind_there ∙ e))) other)),
    λ differs. ap not is_other,
  )

  parts_differ : (same : Bool) → (IsTrue same ↔ (label.parts ≡ kept.parts)) → label.kind ≡ kept.kind → TemplateDiffers program frame kept
      → IsTrue (not same)
  parts_differ same told kind (inl gone) = absurd (is_gone (site program frame.place.slot.0) label there gone)
  parts_differ same told kind (inr (inl other)) = absurd (other.1 (sym kind_there ∙ ap Some kind))
  parts_differ true told kind (inr (inr other)) = absurd (other.1.1 (sym parts_there ∙ ap Some (told.0 refl)))
  parts_differ false told kind (inr (inr other)) = refl

  -- where the parts are asked for
  pub parts_tell : (same : Bool) → (IsTrue same ↔ (label.parts ≡ kept.parts)) → label.kind ≡ kept.kind → asks_for_parts kept.kind ≡ true
      → IsTrue (not same) ↔ TemplateDiffers program frame kept
  parts_tell same told kind asked = (
    λ other. inr (inr (later, (asked, λ e. same_not_other same (told.1 (same_Some label.parts kept.parts (parts_there ∙ e))) other))),
    parts_differ same told kind,
  )

  unasked : label.kind ≡ kept.kind → asks_for_parts kept.kind ≡ false → TemplateDiffers program frame kept → ⊥
  unasked kind not_asked (inl gone) = is_gone (site program frame.place.slot.0) label there gone
  unasked kind not_asked (inr (inl other)) = other.1 (sym kind_there ∙ ap Some kind)
  unasked kind not_asked (inr (inr other)) = false≢true (sym not_asked ∙ other.1.0)

  -- where they aren't, the kind tells alone
  pub kind_tells_alone : (asked : Bool) → asked ≡ asks_for_parts kept.kind → label.kind ≡ kept.kind → asked ≡ false
      → IsTrue asked ↔ TemplateDiffers program frame kept
  kind_tells_alone asked told kind not_asked = (
    λ other. absurd (false≢true (sym not_asked ∙ other)),
    λ differs. absurd (unasked kind (sym told ∙ not_asked) differs),
  )
