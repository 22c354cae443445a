-- What is kept of a program for a configuration: it is told by both, and programs of the same substance keep the same.
use Rattle.std.specs.Prelude.{◌≡◌, refl, List, [], ◌∷◌, map, Option, Some, None, option_map, unwrap_or}
use Rattle.std.proofs.Common.{ap, sym, ◌∙◌}
use Rattle.plcs_base.specs.declared.declared.Declared.{Declared}
use Rattle.template_tree.specs.Checks.Environment.{items_inside}
use Rattle.template_tree.specs.Positions.Place.{Site, site}
use Rattle.template_tree.specs.Programs.PlainTree.{Forest, PlainNode}
use Rattle.tree_steps.specs.PlaceLaws.{SitesAreOfSubstance}
use Rattle.tree_steps.specs.RunPlace.{site_substance}
use Rattle.plcs_store.specs.declared.frame.Frame.{Frame}
use Rattle.plcs_store.specs.declared.held_template.HeldTemplate.{HeldTemplate}
use Rattle.plcs_store.specs.declared.kept.Kept.{Kept}
use Rattle.plcs_store.specs.Configuration.{PlainConfiguration}
use Rattle.plcs_store.specs.Resume.{Parts, heading_parts, kept_of, nothing_held, template_held}
use Rattle.plcs_store.specs.RunsAlike.{KeepsAlike, KeptIsOne, SubstanceKeepsAlike}
use Rattle.plcs_store.proofs.Substances.{inside_same, node_substance, procedures_seen}

-- ---- nothing else is kept

-- what is there of all items, where all are there
unwrapped : {A : Type 0} (other : A) (items : List A) → map (λ (item : Option A). unwrap_or item other) (map Some items) ≡ items
unwrapped other [] = refl
unwrapped {A} other (item ∷ items) = ap (λ (rest : List A). item ∷ rest) (unwrapped other items)

-- what is told of each frame, or something else where there is nothing, is what is told and then unwrapped
told_unwrapped : {A : Type 0} (other : A) (tell : Frame → Option A) (frames : List Frame)
    → map (λ (frame : Frame). unwrap_or (tell frame) other) frames ≡ map (λ (item : Option A). unwrap_or item other) (map tell frames)
told_unwrapped other tell [] = refl
told_unwrapped {A} other tell (frame ∷ frames) =
    ap (λ (rest : List A). unwrap_or (tell frame) other ∷ rest) (told_unwrapped other tell frames)

all_there : {A : Type 0} (other : A) (tell : Frame → Option A) (frames : List Frame) (items : List A) → map tell frames ≡ map Some items
    → items ≡ map (λ (frame : Frame). unwrap_or (tell frame) other) frames
all_there {A} other tell frames items there =
    sym (unwrapped other items)
    ∙ (ap (map (λ (item : Option A). unwrap_or item other)) (sym there) ∙ sym (told_unwrapped other tell frames))

abbrev kept_with : List Parts → List (List Declared) → List HeldTemplate → Kept
kept_with headings declared held = record { headings = headings; declared = declared; held = held }

pub kept_is_one : KeptIsOne
unfolding kept_of
kept_is_one program c kept is =
    let headings = all_there [] (λ (frame : Frame). heading_parts program frame.procedure.0) c.frames kept.headings is.headings in
    let held = all_there nothing_held (λ (frame : Frame). template_held program frame.place.slot.0) c.frames kept.held is.held in
    λ i. kept_with (headings i) (sym is.declared i) (held i)

-- ---- programs of the same substance

parts_seen : (found : Option PlainNode)
    → option_map (λ (node : PlainNode). node.label.parts) (option_map node_substance found) ≡ option_map (λ (node : PlainNode). node.label.parts) found
parts_seen None = refl
parts_seen (Some node) = refl

abbrev items_of : Option PlainNode → List Declared
items_of found = unwrap_or (option_map (λ (node : PlainNode). items_inside node.inner) found) []

items_seen : (found : Option PlainNode) → items_of (option_map node_substance found) ≡ items_of found
items_seen None = refl
items_seen (Some node) = inside_same node.inner

-- what is held of a site
abbrev held_of : Option Site → Option HeldTemplate
held_of found = option_map (λ (s : Site). let h : HeldTemplate = record { kind = s.label.kind; parts = s.label.parts } in h) found

held_seen : (found : Option Site) → held_of (option_map site_substance found) ≡ held_of found
held_seen None = refl
held_seen (Some found) = refl

pub substance_keeps_alike : SitesAreOfSubstance → SubstanceKeepsAlike
substance_keeps_alike sites one other e =
    record {
      headings = procedures_seen (option_map (λ (node : PlainNode). node.label.parts)) parts_seen one other e;
      declared = procedures_seen items_of items_seen one other e;
      held = λ slot. sym (held_seen (site one slot)) ∙ (ap held_of ((sites one other e).sites slot) ∙ held_seen (site other slot));
    }

-- programs that keep the same have the same kept for each configuration
pub kept_alike : (one other : Forest) → KeepsAlike one other → (c : PlainConfiguration) → kept_of one c ≡ kept_of other c
unfolding kept_of
kept_alike one other alike c =
    λ i. kept_with (map (λ (frame : Frame). unwrap_or (alike.headings frame.procedure.0 i) []) c.frames)
    (map (λ (frame : Frame). alike.declared frame.procedure.0 i) c.frames)
    (map (λ (frame : Frame). unwrap_or (alike.held frame.place.slot.0 i) nothing_held) c.frames)
