-- Kept code that is sound: each node has a slot of its own.
use Rattle.std.specs.Prelude.{ℕ, ◌+◌, ◌≤◌, ◌==◌, if◌then◌else◌}
use Rattle.plcs_code.specs.OwnCode.{EndInSlot}
use Rattle.code_patch.specs.CodeForest.{CodeForest}

-- how often a slot stands among kept nodes, those inside others too
abbrev pub times_kept : (slot : ℕ) → CodeForest → ℕ
times_kept slot CodeForest.nil = 0
times_kept slot (CodeForest.cons own spare inner rest) =
    (if own.slot == slot then 1 else 0) + (times_kept slot inner + times_kept slot rest)

-- the steps of the own code of each kept node end at places of its own slot
abbrev pub OwnSteps : CodeForest → Type 0
OwnSteps CodeForest.nil = Unit {0}
OwnSteps (CodeForest.cons own spare inner rest) =
    EndInSlot own.slot own.pieces.before × EndInSlot own.slot own.pieces.behind × OwnSteps inner × OwnSteps rest

-- kept nodes of which each has a slot of its own, and steps at places of that
pub record AreSound (nodes : CodeForest) : Type 0 where
  pub once : (slot : ℕ) → times_kept slot nodes ≤ 1
  pub steps : OwnSteps nodes
