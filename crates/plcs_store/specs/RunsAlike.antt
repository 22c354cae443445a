-- Programs in which runs are alike: what fits one fits the other, and steps there the same. Room and elision make no
-- difference.
use Rattle.std.specs.Prelude.{◌≡◌, ◌↔◌, ℕ, List}
use Rattle.template_tree.specs.Checks.Environment.{Items}
use Rattle.template_tree.specs.Edits.Edit.{edit_at}
use Rattle.template_tree.specs.Edits.Elision.{toggled}
use Rattle.template_tree.specs.Programs.PlainTree.{Forest, roomless}
use Rattle.tree_steps.specs.EditStep.{substance}
use Rattle.plcs_store.specs.declared.kept.Kept.{Kept}
use Rattle.plcs_store.specs.Configuration.{PlainConfiguration}
use Rattle.plcs_store.specs.Fits.{Fits}
use Rattle.plcs_store.specs.NewFrame.{First}
use Rattle.plcs_store.specs.Resume.{IsKeptOf, heading_parts, kept_of, resolved, template_held}
use Rattle.plcs_store.specs.Step.{Step}

-- of two programs the same is kept for runs: the phrases of each heading, the effective items of each procedure, and
-- the kind and the parts of what stands in each slot
pub record KeepsAlike (one other : Forest) : Type 0 where
  pub headings : (slot : ℕ) → heading_parts one slot ≡ heading_parts other slot
  pub declared : (slot : ℕ) → Items one slot ≡ Items other slot
  pub held : (slot : ℕ) → template_held one slot ≡ template_held other slot

-- runs of two programs are alike: the same fits both, a new run begins in both and each step is made in both as in the
-- other, the same is kept for a run, and it goes on in both at the same place
pub record RunsAlike (one other : Forest) : Type 0 where
  pub fits : (c : PlainConfiguration) → Fits one c ↔ Fits other c
  pub begins : First one ≡ First other
  pub steps : (input : List ℕ) (c : PlainConfiguration) → Step one input c ≡ Step other input c
  pub keeps : KeepsAlike one other
  pub kept : (c : PlainConfiguration) → kept_of one c ≡ kept_of other c
  pub goes_on : (c : PlainConfiguration) → resolved one c ≡ resolved other c

-- runs of a program and of it without room are alike
abbrev pub RunsIgnoreRoom : Type 0
RunsIgnoreRoom = (program : Forest) → RunsAlike (roomless program) program

-- runs of a program and of it with the comment at a path turned are alike
abbrev pub RunsIgnoreElision : Type 0
RunsIgnoreElision = (program : Forest) (path : List ℕ) → RunsAlike (edit_at toggled path program) program

-- of programs of the same substance the same is kept for runs
abbrev pub SubstanceKeepsAlike : Type 0
SubstanceKeepsAlike = (one other : Forest) → substance one ≡ substance other → KeepsAlike one other

-- what is kept of a program for a run is told by both, so that nothing else is kept
abbrev pub KeptIsOne : Type 0
KeptIsOne =
    (program : Forest) (c : PlainConfiguration) (kept : Kept) → IsKeptOf program c kept → kept ≡ kept_of program c
