-- What a kept node in memory is seen as.
use Rattle.std.specs.Prelude.{◌≡◌, ◌≤◌, min, map}
use Rattle.std.specs.Option.{option_to_list}
use Rattle.plcs_code.specs.BlockLimit.{most_instrs}
use Rattle.plcs_code.specs.OwnCode.{jumps_beside}
use Rattle.code_patch.specs.declared.code_node.CodeNode.TheInside.{Inside}
use Rattle.code_patch.specs.CodeForest.{count_around, PlainCodeNode}
use Rattle.code_patch.specs.Private.PlainCodeNode.{code_forest, kept_length}

-- what a kept node in memory is seen as: its own code, and what is kept inside it, with the room of both its lists
abbrev pub code_node_seen : {W : Type 0} → Inside W → PlainCodeNode
code_node_seen a = record { own = a.own; spare = min a.inner.spare a.lengths.spare; inner = code_forest a.inner.items }

-- the lengths that a kept node in memory has are those of the codes inside it, its jumps are those that its own code
-- has beside these, and all together is no longer than code may be
pub record IsCodeNodeRight {W : Type 0} (a : Inside W) : Type 0 where
  pub lengths : a.lengths.numbers ≡ map kept_length a.inner.items
  pub ahead : a.jumps.ahead ≡ option_to_list (jumps_beside a.own (map kept_length a.inner.items)).ahead
  pub between : a.jumps.between ≡ option_to_list (jumps_beside a.own (map kept_length a.inner.items)).between
  pub back : a.jumps.back ≡ option_to_list (jumps_beside a.own (map kept_length a.inner.items)).back
  pub short : count_around a.own (map kept_length a.inner.items) ≤ most_instrs
