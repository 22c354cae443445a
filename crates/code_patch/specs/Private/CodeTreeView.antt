-- What a code tree in memory is seen as.
use Rattle.std.specs.Prelude.{◌≡◌, ◌≤◌}
use Rattle.plcs_code.specs.BlockLimit.{most_instrs}
use Rattle.plcs_code.specs.OwnCode.{no_own_code}
use Rattle.code_patch.specs.declared.code_tree.CodeTree.TheInside.{Inside}
use Rattle.code_patch.specs.SoundCode.{AreSound}
use Rattle.code_patch.specs.ItemNames.{item_numbers}
use Rattle.code_patch.specs.CodeEdit.{PlainCodeTree}
use Rattle.code_patch.specs.Private.PlainCodeNode.{kept_length}

-- what a code tree in memory is seen as: what is kept inside its root, with the room there
abbrev pub code_tree_seen : {W : Type 0} → Inside W → PlainCodeTree
code_tree_seen a = record { items = a.root.inner; spare = a.root.spare }

-- the root of a code tree in memory has no own code, the names that it has are those of its items, what it keeps has
-- slots and places of its own, and it is no longer than code may be
pub record IsCodeTreeRight {W : Type 0} (a : Inside W) : Type 0 where
  pub own : a.root.own ≡ no_own_code
  pub names : a.names ≡ item_numbers a.root.inner
  pub sound : AreSound a.root.inner
  pub short : kept_length a.root ≤ most_instrs
