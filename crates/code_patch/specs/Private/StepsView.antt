-- What the steps of a prepared edit in memory are seen as.
use Rattle.std.specs.Prelude.{◌≡◌, ℕ, List, [], ◌∷◌, Option, Some, None}
use Rattle.plcs_code.specs.declared.own_code.JumpBlocks.{JumpBlocks}
use Rattle.code_patch.specs.declared.code_edit.Act.{Act}
use Rattle.code_patch.specs.declared.code_edit.Step.{Step}
use Rattle.code_patch.specs.declared.code_edit.Steps.TheInside.{Inside}
use Rattle.code_patch.specs.CodeEdit.{CodeEdit, PreparedJumps}
use Rattle.code_patch.specs.Private.PlainCodeNode.{code_forest}

-- the jumps of a prepared edit in memory as plain data
abbrev pub plain_jumps : {W : Type 0} → JumpBlocks W → PreparedJumps
plain_jumps jumps = record { ahead = jumps.ahead; between = jumps.between; back = jumps.back }

-- the prepared edit that does this with the node of the number, and then the others
abbrev pub act_then : {W : Type 0} → (number : ℕ) → Act W → CodeEdit → CodeEdit
act_then number (Act.Mend mending) rest =
    CodeEdit.mend number mending.own (plain_jumps mending.jumps) mending.inner rest
act_then number (Act.Put node) rest = CodeEdit.put number (code_forest (node ∷ [])) rest
act_then number (Act.Add node) rest = CodeEdit.add number (code_forest (node ∷ [])) rest
act_then number Act.Drop rest = CodeEdit.drop number rest

-- the prepared edit that has the step before others
abbrev pub step_then : {W : Type 0} → Step W → CodeEdit → CodeEdit
step_then step rest = act_then step.number step.act rest

-- the step that does this with the node of the number
abbrev pub step_at : {W : Type 0} → (number : ℕ) → Act W → Step W
step_at number act = record { number = number; act = act }

-- the prepared edit of these steps, one after the other
abbrev pub edit_of_steps : {W : Type 0} → List (Step W) → CodeEdit
edit_of_steps [] = CodeEdit.done
edit_of_steps (step ∷ steps) = step_then step (edit_of_steps steps)

-- the prepared edit of these steps, the last of them first, and then the others
abbrev pub steps_onto : {W : Type 0} → List (Step W) → CodeEdit → CodeEdit
steps_onto [] rest = rest
steps_onto (step ∷ steps) rest = steps_onto steps (step_then step rest)

-- what the steps of a prepared edit in memory are seen as, the first of which stands last
abbrev pub steps_seen : {W : Type 0} → Inside W → CodeEdit
steps_seen a = steps_onto a.list.items CodeEdit.done

-- the first step was taken of a prepared edit, if there was one
abbrev pub StepTaken : {W : Type 0} → CodeEdit → Option (Step W) → CodeEdit → Type 0
StepTaken edit None rest = edit ≡ CodeEdit.done
StepTaken edit (Some step) rest = edit ≡ step_then step rest
