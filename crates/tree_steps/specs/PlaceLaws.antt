-- The laws of places: they ignore room and elision, and trees that agree keep them.
use Rattle.std.specs.Prelude.{◌≡◌, ℕ, ◌≤◌, Bool, false, true, List, Some}
use Rattle.plcs_grammar.specs.declared.node_kind.NodeKind.{NodeKind}
use Rattle.template_tree.specs.Edits.Edit.{edit_at}
use Rattle.template_tree.specs.Edits.Elision.{toggled}
use Rattle.template_tree.specs.Positions.Place.{Exists, PlainPlace, Site, Start, has_start, place_at, passes_in, site}
use Rattle.template_tree.specs.Programs.PlainTree.{Forest, PlainTree, roomless}
use Rattle.template_tree.specs.Programs.Program.{sort_of}
use Rattle.template_tree.specs.Programs.Slots.{times}
use Rattle.template_tree.specs.Programs.Tree.{IsTree}
use Rattle.tree_steps.specs.EditStep.{substance}
use Rattle.tree_steps.specs.RunPlace.{BeginsAt, KeepsPoint, PlacesAlike, SitesAlike}
use Rattle.tree_steps.specs.SlotAgreement.{AgreesWith}
use Rattle.tree_steps.specs.StandingSlot.{Around, StandsInside, loops_around}

-- ---- room and elision

-- the places of a program are those without room
abbrev pub PlacesIgnoreRoom : Type 0
PlacesIgnoreRoom = (items : Forest) → PlacesAlike (roomless items) items

-- the places of a program are those with the comment at a path turned
abbrev pub PlacesIgnoreElision : Type 0
PlacesIgnoreElision = (items : Forest) (path : List ℕ) → PlacesAlike (edit_at toggled path items) items

-- programs of the same substance have the same sites, where a run goes on at the same places
abbrev pub SitesAreOfSubstance : Type 0
SitesAreOfSubstance = (one other : Forest) → substance one ≡ substance other → SitesAlike one other

-- ---- sites

-- the site of a slot, at which a run has places, is of a node that stands in it
abbrev pub SitesStand : Type 0
SitesStand =
    (items : Forest) (slot : ℕ) (found : Site) → site items slot ≡ Some found
    → (found.label.slot ≡ slot) × (around : Around) × StandsInside items slot found.label.kind around

-- a slot that stands somewhere has a site, at which a run has places
abbrev pub StandingSlotsHaveSites : Type 0
StandingSlotsHaveSites =
    (items : Forest) (slot : ℕ) (kind : NodeKind) (around : Around) → StandsInside items slot kind around
    → (found : Site) × (site items slot ≡ Some found)

-- a run that comes to a node of a tree at whose start it has a place begins at such a node, in the same loops and the
-- same procedure
abbrev pub RunsBegin : Type 0
RunsBegin =
    (tree : PlainTree) (slot : ℕ) (kind : NodeKind) (around : Around) → IsTree tree
    → StandsInside tree.items slot kind around
    → has_start (sort_of kind) ≡ true
    → (place : PlainPlace) × (Start tree.items slot ≡ Some place) × BeginsAt tree.items slot around place

-- the law of the place at which a run begins that comes to a node other than a group, a comment and an Until, which
-- alone pass it on to what stands inside them: it is at that node itself
abbrev pub OthersBeginThemselves : Type 0
OthersBeginThemselves =
    (items : Forest) (slot : ℕ) (kind : NodeKind) (around : Around) → times slot items ≤ 1
    → StandsInside items slot kind around
    → passes_in kind ≡ false → Start items slot ≡ Some (place_at slot 0)

-- ---- trees that agree

-- trees that agree keep the loops around the places in a slot that is live in both
abbrev pub AgreementKeepsLoops : Type 0
AgreementKeepsLoops =
    (earlier later : PlainTree) (slot : ℕ) (was now : NodeKind) (one other : Around) → AgreesWith earlier later
    → StandsInside earlier.items slot was one → StandsInside later.items slot now other
    → loops_around one ≡ loops_around other

-- the place where a run begins that comes to a slot of trees that agree is in the loops and the procedure that the slot
-- had, if a run had a place at the start of what stood there
abbrev pub AgreementKeepsStarts : Type 0
AgreementKeepsStarts =
    (earlier later : PlainTree) (slot : ℕ) (was now : NodeKind) (one other : Around) → IsTree later
    → AgreesWith earlier later
    → StandsInside earlier.items slot was one → StandsInside later.items slot now other
    → has_start (sort_of was) ≡ true
    → (place : PlainPlace) × (Start later.items slot ≡ Some place) × BeginsAt later.items slot one place

-- a place of trees that agree goes on to exist, where its point is kept and its slot is live
abbrev pub AgreementKeepsPlaces : Type 0
AgreementKeepsPlaces =
    (earlier later : PlainTree) (was_marked is_marked : ℕ → Bool) (slot point : ℕ) (one other : Site)
    → AgreesWith earlier later
    → site earlier.items slot ≡ Some one → site later.items slot ≡ Some other
    → KeepsPoint one.label other.label (was_marked slot) (is_marked slot) point
    → Exists was_marked earlier.items (place_at slot point) → Exists is_marked later.items (place_at slot point)
