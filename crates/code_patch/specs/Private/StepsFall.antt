-- How large a prepared edit is: what is prepared inside a node is smaller than the whole.
use Rattle.std.specs.Prelude.{ℕ, ◌≤◌, max, List, [], ◌∷◌}
use Rattle.std.proofs.Common.{arith}
use denote.Param.Weighed.{most}
use Rattle.code_patch.specs.declared.code_edit.Act.{Act}
use Rattle.code_patch.specs.declared.code_edit.Step.{Step}
use Rattle.code_patch.specs.declared.code_edit.Steps.TheDeep.{deep-Act, deep-Step}
use Rattle.code_patch.specs.CodeEdit.{CodeEdit}
use Rattle.code_patch.specs.Private.CodeEditCode.{code_edit_weight}
use Rattle.code_patch.specs.Private.StepsView.{steps_onto, act_then, step_then}

module _ {W : Type 0} where
  -- what is prepared inside a node is smaller than an edit that has the step, and so are the other steps
  act_falls : (number : ℕ) (act : Act W) (rest : CodeEdit)
      → (max (deep-Act W act) 0 ≤ code_edit_weight (act_then number act rest))
      × (code_edit_weight rest ≤ code_edit_weight (act_then number act rest))
  act_falls number (Act.Mend mending) rest = (omega arith, omega arith)
  act_falls number (Act.Put node) rest = (omega arith, omega arith)
  act_falls number (Act.Add node) rest = (omega arith, omega arith)
  act_falls number Act.Drop rest = (omega arith, omega arith)

  onto_falls : (steps : List (Step W)) (rest : CodeEdit)
      → (most (deep-Step W) steps ≤ code_edit_weight (steps_onto steps rest))
      × (code_edit_weight rest ≤ code_edit_weight (steps_onto steps rest))
  onto_falls [] rest = (omega arith, omega arith)
  onto_falls (step ∷ steps) rest =
      let own = act_falls step.number step.act rest in
      let others = onto_falls steps (step_then step rest) in
      (omega (arith, own.0, own.1, others.0, others.1), omega (arith, own.1, others.1))

  pub most_le_weight : (steps : List (Step W))
      → most (deep-Step W) steps ≤ code_edit_weight (steps_onto steps CodeEdit.done)
  most_le_weight steps = (onto_falls steps CodeEdit.done).0
