-- A prepared edit, step by step.
use Rattle.std.proofs.Common.{◌≡◌, ℕ, ◌+◌, ◌-◌, ◌<◌, List, [], ◌∷◌, ◌++◌, length, reverse, Option, Some, None, refl, ap, sym, subst, ◌∙◌, arith}
use Rattle.std.specs.Prelude.{IsSome}
use Rattle.std.proofs.Math.Bool.{false≢true}
use Rattle.std.specs.Option.{option_to_list}
use Rattle.std.proofs.lemmas.List.{reverse-append}
use Rattle.code_patch.specs.declared.code_edit.Act.{Act}
use Rattle.code_patch.specs.declared.code_edit.Step.{Step}
use Rattle.code_patch.specs.CodeEdit.{CodeEdit, code_added, code_gives_way, edited_code, mended_node, room_after}
use Rattle.code_patch.specs.CodeForest.{CodeForest}
use Rattle.code_patch.specs.PreparedEdit.{AreShort, StepsFit}
use Rattle.code_patch.specs.Private.CodeEditCode.{code_edit_weight}
use Rattle.code_patch.specs.Private.PlainSteps.{ActFits, StepFits, after_act, room_acted, room_stepped, stepped}
use Rattle.code_patch.specs.Private.StepsView.{StepTaken, edit_of_steps, steps_onto, act_then, step_then}

module _ {W : Type 0} where
  -- the nodes after the first step and then the others
  pub edited_next : (step : Step W) (rest : CodeEdit) (nodes : CodeForest) → edited_code (step_then step rest) nodes ≡ edited_code rest (stepped step nodes)
  edited_next step rest nodes = by step.act
    where
      by : (act : Act W) → edited_code (act_then step.number act rest) nodes ≡ edited_code rest (after_act step.number act nodes)
      by (Act.Mend mending) = refl
      by (Act.Put node) = refl
      by (Act.Add node) = refl
      by Act.Drop = refl

  -- and the room
  pub room_next : (step : Step W) (rest : CodeEdit) (spare : ℕ) → room_after (step_then step rest) spare ≡ room_after rest (room_stepped step spare)
  room_next step rest spare = by step.act
    where
      by : (act : Act W) → room_after (act_then step.number act rest) spare ≡ room_after rest (room_acted act spare)
      by (Act.Mend mending) = refl
      by (Act.Put node) = refl
      by (Act.Add node) = refl
      by Act.Drop = refl

  -- where they can be made, the first can, and then the others
  pub fits_next : (step : Step W) (rest : CodeEdit) (spare : ℕ) (nodes : CodeForest) → StepsFit (step_then step rest) spare nodes
      → AreShort nodes × StepFits step spare nodes × StepsFit rest (room_stepped step spare) (stepped step nodes)
  fits_next step rest spare nodes fit = by step.act fit
    where
      by : (act : Act W) → StepsFit (act_then step.number act rest) spare nodes
          → AreShort nodes × ActFits step.number act spare nodes × StepsFit rest (room_acted act spare) (after_act step.number act nodes)
      by (Act.Mend mending) fit = (fit.0, fit.1, fit.2)
      by (Act.Put node) fit = (fit.0, fit.1, fit.2)
      by (Act.Add node) fit = (fit.0, fit.1, fit.2)
      by Act.Drop fit = (fit.0, fit.1, fit.2)

  -- fewer steps are left
  pub weight_next : (step : Step W) (rest : CodeEdit) → code_edit_weight rest < code_edit_weight (step_then step rest)
  weight_next step rest = by step.act
    where
      by : (act : Act W) → code_edit_weight rest < code_edit_weight (act_then step.number act rest)
      by (Act.Mend mending) = omega arith
      by (Act.Put node) = omega arith
      by (Act.Add node) = omega arith
      by Act.Drop = omega arith

-- nodes in which steps can be made are short
pub fits_short : (edit : CodeEdit) (spare : ℕ) (nodes : CodeForest) → StepsFit edit spare nodes → AreShort nodes
fits_short CodeEdit.done spare nodes fit = fit
fits_short (CodeEdit.mend number own jumps inner rest) spare nodes fit = fit.0
fits_short (CodeEdit.put number node rest) spare nodes fit = fit.0
fits_short (CodeEdit.add number node rest) spare nodes fit = fit.0
fits_short (CodeEdit.drop number rest) spare nodes fit = fit.0

-- and so are they after the steps
pub fits_made : (edit : CodeEdit) (spare : ℕ) (nodes : CodeForest) → StepsFit edit spare nodes → AreShort (edited_code edit nodes)
fits_made CodeEdit.done spare nodes fit = fit
fits_made (CodeEdit.mend number own jumps inner rest) spare nodes fit =
    fits_made rest spare (code_gives_way (mended_node own (edited_code inner) (room_after inner)) number nodes) fit.2
fits_made (CodeEdit.put number node rest) spare nodes fit =
    fits_made rest spare (code_gives_way (λ was room within. node) number nodes) fit.2
fits_made (CodeEdit.add number node rest) spare nodes fit = fits_made rest (spare - 1) (code_added node number nodes) fit.2
fits_made (CodeEdit.drop number rest) spare nodes fit =
    fits_made rest (spare + 1) (code_gives_way (λ was room within. CodeForest.nil) number nodes) fit.2

-- ---- a step behind others

module _ {W : Type 0} where
  -- the first step can be made, and then the others
  pub fits_before : (step : Step W) (rest : CodeEdit) (spare : ℕ) (nodes : CodeForest) → AreShort nodes → StepFits step spare nodes
      → StepsFit rest (room_stepped step spare) (stepped step nodes) → StepsFit (step_then step rest) spare nodes
  fits_before step rest spare nodes short first others = by step.act first others
    where
      by : (act : Act W) → ActFits step.number act spare nodes → StepsFit rest (room_acted act spare) (after_act step.number act nodes)
          → StepsFit (act_then step.number act rest) spare nodes
      by (Act.Mend mending) first others = (short, first, others)
      by (Act.Put node) first others = (short, first, others)
      by (Act.Add node) first others = (short, first, others)
      by Act.Drop first others = (short, first, others)

  -- the nodes, and the room, after the others and then the last step
  pub edited_behind : (steps : List (Step W)) (last : Step W) (nodes : CodeForest)
      → edited_code (edit_of_steps (steps ++ last ∷ [])) nodes ≡ stepped last (edited_code (edit_of_steps steps) nodes)
  edited_behind [] last nodes = edited_next last CodeEdit.done nodes
  edited_behind (step ∷ steps) last nodes =
      edited_next step (edit_of_steps (steps ++ last ∷ [])) nodes
      ∙ edited_behind steps last (stepped step nodes)
      ∙ ap (stepped last) (sym (edited_next step (edit_of_steps steps) nodes))

  pub room_behind : (steps : List (Step W)) (last : Step W) (spare : ℕ)
      → room_after (edit_of_steps (steps ++ last ∷ [])) spare ≡ room_stepped last (room_after (edit_of_steps steps) spare)
  room_behind [] last spare = room_next last CodeEdit.done spare
  room_behind (step ∷ steps) last spare =
      room_next step (edit_of_steps (steps ++ last ∷ [])) spare
      ∙ room_behind steps last (room_stepped step spare)
      ∙ ap (room_stepped last) (sym (room_next step (edit_of_steps steps) spare))

  -- all can be made
  pub fits_behind : (steps : List (Step W)) (last : Step W) (spare : ℕ) (nodes : CodeForest) → StepsFit (edit_of_steps steps) spare nodes
      → StepFits last (room_after (edit_of_steps steps) spare) (edited_code (edit_of_steps steps) nodes)
      → AreShort (stepped last (edited_code (edit_of_steps steps) nodes)) → StepsFit (edit_of_steps (steps ++ last ∷ [])) spare nodes
  fits_behind [] last spare nodes fit it short = fits_before last CodeEdit.done spare nodes fit it short
  fits_behind (step ∷ steps) last spare nodes fit it short =
      let first = fits_next step (edit_of_steps steps) spare nodes fit in
      let edited = edited_next step (edit_of_steps steps) nodes in
      let room = room_next step (edit_of_steps steps) spare in
      fits_before step (edit_of_steps (steps ++ last ∷ [])) spare nodes first.0 first.1
      (fits_behind steps last (room_stepped step spare) (stepped step nodes) first.2
      (subst (λ (m : CodeForest). StepFits last (room_after (edit_of_steps steps) (room_stepped step spare)) m) edited
      (subst (λ (k : ℕ). StepFits last k (edited_code (edit_of_steps (step ∷ steps)) nodes)) room it))
      (subst (λ (n : CodeForest). AreShort (stepped last n)) edited short))

-- ---- steps in memory, the first of which stands last

module _ {W : Type 0} where
  onto_append : (one other : List (Step W)) (rest : CodeEdit) → steps_onto (one ++ other) rest ≡ steps_onto other (steps_onto one rest)
  onto_append [] other rest = refl
  onto_append (step ∷ one) other rest = onto_append one other (step_then step rest)

  -- the last in memory is the first step
  pub onto_last : (steps : List (Step W)) (step : Step W) → steps_onto (steps ++ step ∷ []) CodeEdit.done ≡ step_then step (steps_onto steps CodeEdit.done)
  onto_last steps step = onto_append steps (step ∷ []) CodeEdit.done

  -- steps the other way round
  pub onto_reverse : (steps : List (Step W)) → steps_onto (reverse steps) CodeEdit.done ≡ edit_of_steps steps
  onto_reverse [] = refl
  onto_reverse (step ∷ steps) =
      ap (λ (ss : List (Step W)). steps_onto ss CodeEdit.done) (reverse-append (step ∷ []) steps)
      ∙ onto_last (reverse steps) step ∙ ap (step_then step) (onto_reverse steps)

module _ {W : Type 0} where
  popped_none : (steps : List (Step W)) → (0 < length steps → ⊥) → steps ≡ []
  popped_none [] none = refl
  popped_none (step ∷ steps) none = absurd (none (omega arith))

  -- the step that stood last was taken of the steps
  pub step_popped : (popped : Option (Step W)) (steps left : List (Step W)) (edit : CodeEdit) → steps_onto steps CodeEdit.done ≡ edit
      → steps ≡ left ++ option_to_list popped → (0 < length steps → IsSome popped)
      → StepTaken edit popped (steps_onto left CodeEdit.done)
  step_popped None steps left edit seen is some =
      sym seen ∙ ap (λ (ss : List (Step W)). steps_onto ss CodeEdit.done) (popped_none steps (λ there. false≢true (some there)))
  step_popped (Some step) steps left edit seen is some =
      sym seen ∙ ap (λ (ss : List (Step W)). steps_onto ss CodeEdit.done) is ∙ onto_last left step

-- ---- how much is left to do

module _ {W : Type 0} where
  -- how many steps are inside one
  abbrev pub act_weight : Act W → ℕ
  act_weight (Act.Mend mending) = code_edit_weight mending.inner
  act_weight (Act.Put node) = 0
  act_weight (Act.Add node) = 0
  act_weight Act.Drop = 0

  -- a step has fewer inside it than there are
  pub act_next : (step : Step W) (rest : CodeEdit) → act_weight step.act < code_edit_weight (step_then step rest)
  act_next step rest = by step.act
    where
      by : (act : Act W) → act_weight act < code_edit_weight (act_then step.number act rest)
      by (Act.Mend mending) = omega arith
      by (Act.Put node) = omega arith
      by (Act.Add node) = omega arith
      by Act.Drop = omega arith
