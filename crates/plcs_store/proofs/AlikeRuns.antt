-- Runs are alike in programs of the same substance that check alike and have the same places: slots stand in both at
-- the same places, procedures have the same items, and a step looks at no more.
use Rattle.std.specs.Prelude.{◌≡◌, refl, ℕ, ◌==◌, Bool, false, true, if◌then◌else◌, List, [], ◌∷◌, ◌⊎◌, All, map, unwrap_or, Option}
use Rattle.std.proofs.Common.{ap, sym, ◌∙◌, subst}
use Rattle.plcs_grammar.specs.declared.node_kind.NodeKind.{NodeKind}
use Rattle.template_tree.specs.Checks.Environment.{Items}
use Rattle.template_tree.specs.Edits.Edit.{edit_at}
use Rattle.template_tree.specs.Edits.Elision.{toggled}
use Rattle.template_tree.specs.Laws.CheckLaws.{CheckAlike, ChecksIgnoreElision, ChecksIgnoreRoom}
use Rattle.template_tree.specs.Positions.Place.{PlainPlace, Start}
use Rattle.template_tree.specs.Programs.PlainTree.{Forest, PlainTree, roomless}
use Rattle.tree_steps.specs.EditStep.{substance}
use Rattle.tree_steps.specs.EditStepLaws.{TogglesAreNoEdits}
use Rattle.tree_steps.specs.PlaceLaws.{PlacesIgnoreElision, PlacesIgnoreRoom, SitesAreOfSubstance}
use Rattle.tree_steps.specs.RunPlace.{HasPlace, PlacesAlike}
use Rattle.tree_steps.specs.StandingSlot.{Around, StandsBelow, StandsInside}
use Rattle.plcs_store.specs.declared.frame.Frame.{Frame}
use Rattle.plcs_store.specs.Act.{with_newest}
use Rattle.plcs_store.specs.Configuration.{PlainConfiguration, frame_at, frame_place}
use Rattle.plcs_store.specs.Fits.{AllStand, AreVariables, Fits, IsOfMain, StandsAt, StandsAtStart, loops_at}
use Rattle.plcs_store.specs.Resume.{resolved}
use Rattle.plcs_store.specs.RunsAlike.{RunsAlike, RunsIgnoreElision, RunsIgnoreRoom}
use Rattle.plcs_store.proofs.AlikeSpots.{first_same, step_same}
use Rattle.plcs_store.proofs.KeptPrograms.{kept_alike, substance_keeps_alike}
use Rattle.plcs_store.proofs.Substances.{substance_roomless}

-- ---- where slots stand

stands_alike : (above : Around) (items : Forest) (slot : ℕ) (kind : NodeKind) (around : Around)
    → StandsBelow above (substance items) slot kind around ≡ StandsBelow above items slot kind around
stands_alike above Forest.nil slot kind around = refl
stands_alike above (Forest.cons label inner rest) slot kind around =
    λ i. ((label.slot ≡ slot) × (label.kind ≡ kind) × (above ≡ around))
    ⊎ (stands_alike ((label.slot, label.kind) ∷ above) inner slot kind around i ⊎ stands_alike above rest slot kind around i)

stands_same : (one other : Forest) → substance one ≡ substance other → (slot : ℕ) (kind : NodeKind) (around : Around)
    → StandsInside one slot kind around ≡ StandsInside other slot kind around
stands_same one other e slot kind around =
    sym (stands_alike [] one slot kind around)
    ∙ (ap (λ (items : Forest). StandsBelow [] items slot kind around) e ∙ stands_alike [] other slot kind around)

main_same : (program : Forest) (frames : List Frame) → IsOfMain (substance program) frames ≡ IsOfMain program frames
main_same Forest.nil frames = refl
main_same (Forest.cons label inner rest) frames = refl

-- ---- what fits

-- what the frames of a run that fits have of two programs
record SameForFits (one other : Forest) : Type 1 where
  main : (frames : List Frame) → IsOfMain one frames ≡ IsOfMain other frames
  stands : (slot : ℕ) (kind : NodeKind) (around : Around) → StandsInside one slot kind around ≡ StandsInside other slot kind around
  places : (place : PlainPlace) → HasPlace one place → HasPlace other place
  starts : (slot : ℕ) → Start one slot ≡ Start other slot
  items : (slot : ℕ) → Items one slot ≡ Items other slot

abbrev carried : {A B : Type 0} → A ≡ B → A → B
carried same = subst (λ (T : Type 0). T) same

stands_at : (one other : Forest) → SameForFits one other → (waits : Bool) (frame : Frame) → StandsAt one waits frame → StandsAt other waits frame
stands_at one other same waits frame stands = (
  stands.0,
  stands.1,
  record {
    stands = carried (same.stands frame.place.slot.0 stands.0 stands.1) stands.2.stands;
    exists = same.places (frame_place frame) stands.2.exists;
    procedure = stands.2.procedure;
    waiting = stands.2.waiting;
  },
)

stands_at_start : (one other : Forest) → SameForFits one other → (frame : Frame) → StandsAtStart one frame → StandsAtStart other frame
stands_at_start one other same frame begins = λ zeroth. sym (same.starts frame.place.slot.0) ∙ begins zeroth

all_stand : (one other : Forest) → SameForFits one other → (frames : List Frame) → AllStand one frames → AllStand other frames
all_stand one other same [] all = tt
all_stand one other same (frame ∷ []) all =
    (stands_at one other same false frame all.0, stands_at_start one other same frame all.1)
all_stand one other same (frame ∷ (above ∷ frames)) all =
    (stands_at one other same true frame all.0, all_stand one other same (above ∷ frames) all.1)

fits_other : (one other : Forest) → SameForFits one other → (c : PlainConfiguration) → Fits one c → Fits other c
fits_other one other same c fits =
    record {
      frames = record {
        some = fits.frames.some;
        few = fits.frames.few;
        main = carried (same.main c.frames) fits.frames.main;
        stand = all_stand one other same c.frames fits.frames.stand;
      };
      cells = carried (λ i. All (λ (frame : Frame). AreVariables (same.items frame.procedure.0 i) frame.cells) c.frames) fits.cells;
      loops = carried
          (λ i.
          All
          (λ (frame : Frame).
          (kind : NodeKind) (around : Around) → same.stands frame.place.slot.0 kind around i
          → map (λ kept. kept.slot.0) frame.loops ≡ loops_at kind around (frame_place frame)) c.frames) fits.loops;
      values = fits.values;
    }

same_for_fits : (one other : Forest) → substance one ≡ substance other → CheckAlike one other → PlacesAlike one other → SameForFits one other
same_for_fits one other e checks places =
    record {
      main = λ frames. sym (main_same one frames) ∙ (ap (λ (items : Forest). IsOfMain items frames) e ∙ main_same other frames);
      stands = stands_same one other e;
      places = λ place. (places.places place).0;
      starts = places.sites.starts;
      items = checks.items;
    }

-- the same the other way
turned_round : (one other : Forest) → SameForFits one other → ((place : PlainPlace) → HasPlace other place → HasPlace one place)
    → SameForFits other one
turned_round one other same back =
    record {
      main = λ frames. sym (same.main frames);
      stands = λ slot kind around. sym (same.stands slot kind around);
      places = back;
      starts = λ slot. sym (same.starts slot);
      items = λ slot. sym (same.items slot);
    }

-- ---- where a run goes on

-- a configuration of which the newest frame stands where a run begins, told by slots
abbrev resolved_by : (starts : ℕ → Option PlainPlace) → PlainConfiguration → PlainConfiguration
resolved_by starts c =
    record c {
      frames = with_newest
          (λ frame.
          frame_at
          (if (frame_place frame).point == 0 then unwrap_or (starts (frame_place frame).slot) (frame_place frame) else frame_place frame)
          frame) c.frames;
    }

resolved_same : (one other : Forest) → ((slot : ℕ) → Start one slot ≡ Start other slot) → (c : PlainConfiguration)
    → resolved one c ≡ resolved other c
resolved_same one other starts c = λ i. resolved_by (λ (slot : ℕ). starts slot i) c

-- ---- the laws

runs_alike : SitesAreOfSubstance → (one other : Forest) → substance one ≡ substance other → CheckAlike one other → PlacesAlike one other
    → RunsAlike one other
runs_alike sites one other e checks places =
    let same = same_for_fits one other e checks places in
    let keeps = substance_keeps_alike sites one other e in
    record {
      fits = λ c. (
        fits_other one other same c,
        fits_other other one (turned_round one other same (λ place. (places.places place).1)) c,
      );
      begins = first_same one other e;
      steps = step_same one other e checks places.sites;
      keeps = keeps;
      kept = kept_alike one other keeps;
      goes_on = resolved_same one other places.sites.starts;
    }

pub runs_ignore_room : SitesAreOfSubstance → ChecksIgnoreRoom → PlacesIgnoreRoom → RunsIgnoreRoom
runs_ignore_room sites checks places program =
    runs_alike sites (roomless program) program (substance_roomless program) (checks program) (places program)

-- a tree of these items
abbrev tree_of : Forest → PlainTree
tree_of items = record { items = items; spare = 0; drawn = 0; live = 0 }

pub runs_ignore_elision : SitesAreOfSubstance → TogglesAreNoEdits → ChecksIgnoreElision → PlacesIgnoreElision → RunsIgnoreElision
runs_ignore_elision sites toggles checks places program path =
    runs_alike sites (edit_at toggled path program) program (sym (toggles (tree_of program) path).items) (checks program path) (places program path)
