-- The laws of a history: what resuming a run leaves of it, and that each step has a record.
use Rattle.std.specs.Prelude.{◌≡◌, ◌≢◌, List, ◌∷◌}
use Rattle.template_tree.specs.Programs.PlainTree.{Forest}
use Rattle.plcs_store.specs.declared.undo.Undo.{Undo}
use Rattle.plcs_store.specs.Act.{Act}
use Rattle.plcs_store.specs.Configuration.{PlainConfiguration}
use Rattle.plcs_store.specs.Resume.{resolved}
use Rattle.plcs_store.specs.Undone.{Allows, undo_of}
use Rattle.back_steps.specs.EarlierConfigurations.{configurations_before}

-- the record is one that a history has of a step: it is not empty
abbrev pub IsRecorded : Undo → Type 0
IsRecorded undo = undo ≢ Undo.Empty

-- a run that is resumed in a program, whatever was edited, has the configurations before it that it had when it was
-- suspended, if its latest record is one of a step: what that gives back doesn't depend on where in its newest frame
-- the run goes on
abbrev pub ResumingLeavesEarlier : Type 0
ResumingLeavesEarlier =
    (program : Forest) (undo : Undo) (undos : List Undo) (c : PlainConfiguration) → IsRecorded undo
    → configurations_before (undo ∷ undos) (resolved program c) ≡ configurations_before (undo ∷ undos) c

-- what is noted of a step is a record of one, since a step does an act that the configuration before it allows
abbrev pub AllowedActsRecorded : Type 0
AllowedActsRecorded = (act : Act) (c : PlainConfiguration) → Allows act c → IsRecorded (undo_of act c)
