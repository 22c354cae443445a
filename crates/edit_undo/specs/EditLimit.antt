-- How many edits can be undone: the latest, within the two limits.
use Rattle.std.specs.Prelude.{ℕ, zero, suc, ◌+◌, ◌-◌, ◌≤◌, nat_le, if◌then◌else◌, List, [], ◌∷◌, length, Option, Some, None}
use Rattle.template_tree.specs.Programs.PlainTree.{PlainNode}
use Rattle.template_tree.specs.Programs.Slots.{count}
use Rattle.edit_undo.specs.declared.edit_record.EditRecord.{EditRecord}
use Rattle.edit_undo.specs.declared.limit.TheConstants.{MOST_EDITS, MOST_TAKEN_SLOTS}

-- how many edits can be undone at most
abbrev pub most_edits : ℕ
most_edits = MOST_EDITS

-- how many slots the nodes may have together that the edits took out which can be undone
abbrev pub most_taken_slots : ℕ
most_taken_slots = MOST_TAKEN_SLOTS

-- the weight of an edit among those that can be undone: how many slots the node has that it took out, if it took one
-- out
abbrev pub edit_weight : Option PlainNode → ℕ
edit_weight None = 0
edit_weight (Some node) = count node.inner + 1

-- how much things with a weight, as edits, weigh together
abbrev pub total_weight : {A : Type 0} → (A → ℕ) → List A → ℕ
total_weight weight [] = 0
total_weight weight (item ∷ items) = weight item + total_weight weight items

-- how much edits that can be undone weigh together
abbrev pub edits_weight : List EditRecord → ℕ
edits_weight edits = total_weight (λ edit. edit_weight edit.back) edits

-- edits that can be undone are within the limits
pub record KeepsEditLimits (edits : List EditRecord) : Type 0 where
  pub few : length edits ≤ most_edits
  pub light : edits_weight edits ≤ most_taken_slots

-- of things with a weight, as edits, the newest first: the newest, as long as they are no more than so many and weigh
-- no more than this together
abbrev pub latest_within : {A : Type 0} → (A → ℕ) → (most heaviest : ℕ) → List A → List A
latest_within weight zero heaviest items = []
latest_within weight (suc most) heaviest [] = []
latest_within weight (suc most) heaviest (item ∷ items) =
    if nat_le (weight item) heaviest
    then item ∷ latest_within weight most (heaviest - weight item) items
    else []

-- the edits that can be undone of these, the newest first: the oldest are dropped until both limits are kept
abbrev pub kept_edits : List EditRecord → List EditRecord
kept_edits edits = latest_within (λ edit. edit_weight edit.back) most_edits most_taken_slots edits
