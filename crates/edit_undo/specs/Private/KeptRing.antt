-- The ring of edits in memory.
use Rattle.std.specs.Prelude.{◌≡◌, List, [], ◌∷◌}
use Rattle.edit_undo.specs.EditLimit.{KeepsEditLimits, edits_weight, most_edits}
use Rattle.edit_undo.specs.declared.edit_record.EditRecord.{EditRecord}
use Rattle.edit_undo.specs.declared.edit_ring.EditRing.TheInside.{Inside}

-- the records are as many as may be held, within the limits, and their weight is kept
pub record IsKeptRing (a : Inside) : Type 0 where
  pub capacity : a.records.capacity ≡ most_edits
  pub limits : KeepsEditLimits a.records.items
  pub weight : a.weight ≡ edits_weight a.records.items

-- the edits of a ring without the oldest
abbrev pub without_last : List EditRecord → List EditRecord
without_last [] = []
without_last (edit ∷ []) = []
without_last (edit ∷ (next ∷ edits)) = edit ∷ without_last (next ∷ edits)
