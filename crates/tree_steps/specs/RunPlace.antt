-- Places of a run in a program, by what is marked in it; and where a run begins that comes to a node.
use Rattle.std.specs.Prelude.{◌≡◌, ◌↔◌, ◌⊎◌, ℕ, Bool, false, true, option_map}
use Rattle.plcs_grammar.specs.declared.node_kind.NodeKind.{NodeKind}
use Rattle.plcs_grammar.specs.declared.template.Template.{Template}
use Rattle.template_tree.specs.Checks.Marks.{is_phrase_marked}
use Rattle.template_tree.specs.Positions.Place.{After, Exists, PlainPlace, Site, Start, has_start, passes_in, site}
use Rattle.template_tree.specs.Programs.PlainTree.{Forest, Label}
use Rattle.template_tree.specs.Programs.Program.{sort_of}
use Rattle.tree_steps.specs.EditStep.{substance}
use Rattle.tree_steps.specs.StandingSlot.{Around, StandsInside, loops_around, outermost_slot}

-- ---- places that exist

-- whether the first phrase in the slot is marked in the program
abbrev pub is_first_marked : Forest → (slot : ℕ) → Bool
is_first_marked program slot = is_phrase_marked program slot 0

-- a run of the program has this place, by what is marked in it
abbrev pub HasPlace : Forest → PlainPlace → Type 0
HasPlace program place = Exists (is_first_marked program) program place

-- by what is marked, a GET has the same points where another one's label stands in its slot: each variable of its list
-- is one, unless the list is marked
pub record KeepsVariables (one other : Label) (was_marked is_marked : Bool) : Type 0 where
  pub parts : one.parts ≡ other.parts
  pub marked : was_marked ≡ is_marked

-- by what is marked, a point of a node stays a place of a run where another label stands in its slot: it is the start,
-- or the kind is the same; of a GET more is asked
abbrev pub KeepsPoint : (one other : Label) (was_marked is_marked : Bool) (point : ℕ) → Type 0
KeepsPoint one other was_marked is_marked point =
    (point ≡ 0)
    ⊎ ((one.kind ≡ other.kind)
    × (one.kind ≡ NodeKind.Filled Template.Get → KeepsVariables one other was_marked is_marked))

-- ---- where a run begins

-- the place is one of the program: the start of a node that doesn't pass a run on to what stands inside it, with the
-- loops among these nodes around it, in the procedure of the slot that these are around
pub record BeginsAt (items : Forest) (slot : ℕ) (around : Around) (place : PlainPlace) : Type 0 where
  pub start : place.point ≡ 0
  pub kind : NodeKind
  pub within : Around
  pub stands : StandsInside items place.slot kind within
  pub starts : has_start (sort_of kind) ≡ true
  pub stays : passes_in kind ≡ false
  pub exists : HasPlace items place
  pub loops : loops_around within ≡ loops_around around
  pub procedure : outermost_slot place.slot within ≡ outermost_slot slot around

-- ---- programs whose places are alike

-- a site without elision and room
abbrev pub site_substance : Site → Site
site_substance site =
    record { label = record site.label { elided = false; spare = 0 }; inner = substance site.inner; after = site.after }

-- two programs have the same sites but for elision and room: a run begins and goes on in both at the same places, and
-- has the same places where the same is marked
pub record SitesAlike (one other : Forest) : Type 0 where
  pub sites : (slot : ℕ) → option_map site_substance (site one slot) ≡ option_map site_substance (site other slot)
  pub starts : (slot : ℕ) → Start one slot ≡ Start other slot
  pub afters : (slot : ℕ) → After one slot ≡ After other slot
  pub exist : (marked : ℕ → Bool) (place : PlainPlace) → Exists marked one place ↔ Exists marked other place

-- a run has the same places in two programs, each by what is marked in it, and the slots have the same sites
pub record PlacesAlike (one other : Forest) : Type 0 where
  pub sites : SitesAlike one other
  pub marked : (slot : ℕ) → is_first_marked one slot ≡ is_first_marked other slot
  pub places : (place : PlainPlace) → HasPlace one place ↔ HasPlace other place
