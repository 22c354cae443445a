-- What is said of the way to the node of a slot, step after step.
use Rattle.std.specs.Prelude.{◌≡◌, ℕ, suc, ◌+◌, ◌-◌, ◌<◌, ◌≤◌, List, [], ◌∷◌, Option, Some, None}
use Rattle.std.proofs.Common.{ap, sym, ◌∙◌, arith}
use Rattle.plcs_base.specs.declared.place.Slot.{Slot}
use Rattle.slot_homes.specs.declared.home.Home.{Home}
use Rattle.slot_homes.specs.declared.homes.Entry.{Entry}
use Rattle.slot_homes.specs.declared.way.WayStep.{WayStep}
use Rattle.slot_homes.specs.Said.{home_said, longest_way, step_to, way_by, way_said, way_through}

module _ (table : List (Option Entry)) (slot : ℕ) where
  -- the way to the slot is that to this node with these steps below it, said of so many nodes less
  abbrev pub WayLeft : (taken at : ℕ) → (below : List WayStep) → Type 0
  WayLeft taken at below = way_said table (longest_way - taken) at below ≡ way_said table longest_way slot []

  -- one node after another
  next : (taken at : ℕ) (below : List WayStep) → taken < longest_way
      → way_by (home_said table at) at below (λ parent steps. way_said table (longest_way - (taken + 1)) parent steps)
      ≡ way_said table (longest_way - taken) at below
  next taken at below within =
      let more : suc (longest_way - (taken + 1)) ≡ longest_way - taken = omega (arith, within) in
      ap (λ n. way_said table n at below) more

  -- no node yet
  pub left_first : (below : List WayStep) → below ≡ [] → WayLeft 0 slot below
  left_first below none = ap (λ steps. way_said table longest_way slot steps) none

  -- nothing is said of a node
  pub left_none : (taken at : ℕ) (below : List WayStep) → taken < longest_way → WayLeft taken at below → None ≡ home_said table at
      → None ≡ way_said table longest_way slot []
  left_none taken at below within left none =
      ap (λ o. way_by o at below (λ parent steps. way_said table (longest_way - (taken + 1)) parent steps)) none
      ∙ next taken at below within ∙ left

  -- too many nodes
  pub left_long : (taken at : ℕ) (below : List WayStep) → longest_way ≤ taken → WayLeft taken at below
      → None ≡ way_said table longest_way slot []
  left_long taken at below past left =
      let none : 0 ≡ longest_way - taken = omega (arith, past) in
      ap (λ n. way_said table n at below) none ∙ left

  -- a node of which it is said where it stands
  through : (taken at : ℕ) (below : List WayStep) (home : Home) → taken < longest_way → WayLeft taken at below
      → Some home ≡ home_said table at
      → way_through home.parent (step_to at home.number ∷ below) (λ parent steps. way_said table (longest_way - (taken + 1)) parent steps)
      ≡ way_said table longest_way slot []
  through taken at below home within left some =
      ap (λ o. way_by o at below (λ parent steps. way_said table (longest_way - (taken + 1)) parent steps)) some
      ∙ next taken at below within ∙ left

  pub left_whole : (taken at : ℕ) (below : List WayStep) (home : Home) → taken < longest_way → WayLeft taken at below
      → Some home ≡ home_said table at → home.parent ≡ None
      → Some (step_to at home.number ∷ below) ≡ way_said table longest_way slot []
  left_whole taken at below home within left some item =
      ap (λ o. way_through o (step_to at home.number ∷ below) (λ parent steps. way_said table (longest_way - (taken + 1)) parent steps)) (sym item)
      ∙ through taken at below home within left some

  pub left_next : (taken at : ℕ) (below : List WayStep) (home : Home) (parent : Slot) → taken < longest_way → WayLeft taken at below
      → Some home ≡ home_said table at → home.parent ≡ Some parent
      → WayLeft (taken + 1) parent.0 (step_to at home.number ∷ below)
  left_next taken at below home parent within left some inside =
      ap (λ o. way_through o (step_to at home.number ∷ below) (λ parent steps. way_said table (longest_way - (taken + 1)) parent steps)) (sym inside)
      ∙ through taken at below home within left some
