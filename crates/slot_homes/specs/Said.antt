-- What is said of slots in a table of places, and the way that follows from it.
use Rattle.std.specs.Prelude.{◌≡◌, ℕ, zero, suc, ◌+◌, ◌*◌, ◌%◌, ◌==◌, ◌<◌, Bool, true, false, if◌then◌else◌, List, ◌∷◌, length, Option, Some, None, slice_get}
use Rattle.std.specs.Option.{option_and_then, option_or}
use Rattle.plcs_base.specs.declared.place.Slot.{Slot}
use Rattle.slot_homes.specs.declared.home.Home.{Home}
use Rattle.slot_homes.specs.declared.homes.Entry.{Entry}
use Rattle.slot_homes.specs.declared.homes.TheConstants.{MOST_PLACES, PROBES, STRIDE}
use Rattle.slot_homes.specs.declared.way.WayStep.{WayStep}
use Rattle.slot_homes.specs.declared.way.TheConstants.{LONGEST_WAY}

-- in how many places of a table what is said of a slot may stand
abbrev pub probes : ℕ
probes = PROBES

-- how many places behind one of these the next one is
abbrev pub stride : ℕ
stride = STRIDE

-- how many places a table may have
abbrev pub most_places : ℕ
most_places = MOST_PLACES

-- how many steps a way may have
abbrev pub longest_way : ℕ
longest_way = LONGEST_WAY

-- what stands in a place of the table, of those where what is said of the slot may stand
abbrev pub entry_at : List (Option Entry) → (slot probe : ℕ) → Option Entry
entry_at table slot probe = option_and_then (λ entry. entry) (slice_get table ((slot + probe * stride) % length table))

-- what an entry says of the slot, if it is the slot's
abbrev pub home_for : (slot : ℕ) → Option Entry → Option Home
home_for slot None = None
home_for slot (Some entry) = if entry.slot.0 == slot then Some entry.home else None

-- what is said of the slot in so many of its places, from one of them on: the first says it that is the slot's
abbrev pub home_said_from : List (Option Entry) → (slot probe left : ℕ) → Option Home
home_said_from table slot probe zero = None
home_said_from table slot probe (suc left) =
    option_or (home_for slot (entry_at table slot probe)) (home_said_from table slot (probe + 1) left)

-- what is said of the slot
abbrev pub home_said : List (Option Entry) → (slot : ℕ) → Option Home
home_said table slot = home_said_from table slot 0 probes

-- nothing is said of any slot
abbrev pub NothingSaid : List (Option Entry) → Type 0
NothingSaid table = (slot : ℕ) → home_said table slot ≡ None

-- whether a place is free for the slot: nothing stands there, or what is said of the slot
abbrev pub is_free : (slot : ℕ) → Option Entry → Bool
is_free slot None = true
is_free slot (Some entry) = entry.slot.0 == slot

-- the first so many places of the slot are others'
abbrev pub AreTaken : List (Option Entry) → (slot many : ℕ) → Type 0
AreTaken table slot many = (probe : ℕ) → probe < many → is_free slot (entry_at table slot probe) ≡ false

-- another slot gives way to the slot: all places of the slot are others', and the first of them is this one's
abbrev pub GivesWay : List (Option Entry) → (slot other : ℕ) → Type 0
GivesWay table slot other = AreTaken table slot probes × (is_free other (entry_at table slot 0) ≡ true)

-- what is said of each other slot stays, but of one that gives way
abbrev pub OthersStay : (old new : List (Option Entry)) → (slot : ℕ) → Type 0
OthersStay old new slot =
    (other : ℕ) → (other ≡ slot → ⊥) → (GivesWay old slot other → ⊥) → home_said new other ≡ home_said old other

-- the step to a node of the slot
abbrev pub step_to : (slot number : ℕ) → WayStep
step_to slot number = record { slot = slot; number = number }

-- how a way goes on above a node: by its slot and the steps from there down
abbrev pub Above : Type 0
Above = ℕ → List WayStep → Option (List WayStep)

-- the way whose steps below a parent are these, and all its steps where there is no parent
abbrev pub way_through : (parent : Option Slot) → (below : List WayStep) → Above → Option (List WayStep)
way_through None below above = Some below
way_through (Some parent) below above = above parent.0 below

-- the way to the node of a slot, with these steps below it, by where that is said to stand
abbrev pub way_by : Option Home → (slot : ℕ) → (below : List WayStep) → Above → Option (List WayStep)
way_by None slot below above = None
way_by (Some home) slot below above = way_through home.parent (step_to slot home.number ∷ below) above

-- the way to the node of a slot, with these steps below it, as it is said of no more than so many nodes
abbrev pub way_said : List (Option Entry) → (left slot : ℕ) → (below : List WayStep) → Option (List WayStep)
way_said table zero slot below = None
way_said table (suc left) slot below =
    way_by (home_said table slot) slot below (λ parent steps. way_said table left parent steps)
