-- A list of kept nodes in memory, with the lengths of their codes, after one step of a prepared edit.
use Rattle.std.specs.Prelude.{◌≡◌, ℕ, ◌≤◌, map, min, sum}
use Rattle.prefix_sums.specs.PlainPrefixSums.{PlainPrefixSums}
use Rattle.plcs_code.specs.BlockLimit.{most_instrs}
use Rattle.code_patch.specs.declared.code_edit.Act.{Act}
use Rattle.code_patch.specs.CodeForest.{kept_lengths}
use Rattle.code_patch.specs.Private.PlainCodeNode.{PlainCodeNodes, code_forest, kept_length}
use Rattle.code_patch.specs.Private.PlainSteps.{ActFits, after_act, room_acted}

-- this can be done with the node of the number in the list and in the lengths
pub record CanAct {W : Type 0} (act : Act W) (k : ℕ) (list : PlainCodeNodes) (sums : PlainPrefixSums) : Type 0 where
  pub lengths : sums.numbers ≡ map kept_length list.items
  pub fit : ActFits k act (min list.spare sums.spare) (code_forest list.items)
  pub short : sum (kept_lengths (after_act k act (code_forest list.items))) ≤ most_instrs

-- the list and the lengths after that, as it makes the nodes in order
pub record IsActed {W : Type 0} (act : Act W) (k : ℕ) (old new : PlainCodeNodes) (sums numbers : PlainPrefixSums) : Type 0 where
  pub items : code_forest new.items ≡ after_act k act (code_forest old.items)
  pub spare : min new.spare numbers.spare ≡ room_acted act (min old.spare sums.spare)
  pub lengths : numbers.numbers ≡ map kept_length new.items
