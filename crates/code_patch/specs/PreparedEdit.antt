-- When a prepared edit can be put in place in a code tree. Callers hand this on from where the edit was prepared.
use Rattle.std.specs.Prelude.{◌≡◌, ℕ, ◌+◌, ◌-◌, ◌<◌, ◌≤◌, length, sum, Option, Some, None, slice_get, unwrap_or}
use Rattle.std.specs.Option.{option_to_list}
use Rattle.plcs_code.specs.BlockLimit.{most_instrs}
use Rattle.plcs_code.specs.OwnCode.{PlainOwnCode, jumps_beside}
use Rattle.code_patch.specs.SoundCode.{AreSound}
use Rattle.code_patch.specs.ItemNames.{NumberMap, item_numbers}
use Rattle.code_patch.specs.CodeEdit.{CodeEdit, PlainCodeTree, PreparedJumps, code_added, code_gives_way, edited_code, mended_node, room_after}
use Rattle.code_patch.specs.CodeForest.{CodeForest, count_around, kept_lengths, PlainCodeNode, code_nodes}

-- the jumps that a prepared edit has for a node are those of its own code then, beside the codes inside it then, and
-- all together is no longer than code may be
pub record AreJumps (own : PlainOwnCode) (inner : CodeForest) (jumps : PreparedJumps) : Type 0 where
  pub ahead : jumps.ahead ≡ option_to_list (jumps_beside own (kept_lengths inner)).ahead
  pub between : jumps.between ≡ option_to_list (jumps_beside own (kept_lengths inner)).between
  pub back : jumps.back ≡ option_to_list (jumps_beside own (kept_lengths inner)).back
  pub short : count_around own (kept_lengths inner) ≤ most_instrs

-- kept nodes in order aren't longer together than code may be
abbrev pub AreShort : CodeForest → Type 0
AreShort nodes = sum (kept_lengths nodes) ≤ most_instrs

-- the steps of a prepared edit can be made in kept nodes in order, whose list has this room: each is of a node that is
-- there then, what comes into a list has room there, and at no time the nodes are too long
abbrev pub StepsFit : CodeEdit → (spare : ℕ) → CodeForest → Type 0
StepsFit CodeEdit.done spare nodes = AreShort nodes
StepsFit (CodeEdit.mend number own jumps inner rest) spare nodes =
    AreShort nodes
    × ((node : PlainCodeNode) × (slice_get (code_nodes nodes) number ≡ Some node)
    × StepsFit inner node.spare node.inner × AreJumps (unwrap_or own node.own) (edited_code inner node.inner) jumps)
    × StepsFit rest spare (code_gives_way (mended_node own (edited_code inner) (room_after inner)) number nodes)
StepsFit (CodeEdit.put number node rest) spare nodes =
    AreShort nodes × (number < length (code_nodes nodes))
    × StepsFit rest spare (code_gives_way (λ was spare within. node) number nodes)
StepsFit (CodeEdit.add number node rest) spare nodes =
    AreShort nodes × ((number ≤ length (code_nodes nodes)) × (0 < spare))
    × StepsFit rest (spare - 1) (code_added node number nodes)
StepsFit (CodeEdit.drop number rest) spare nodes =
    AreShort nodes × (number < length (code_nodes nodes))
    × StepsFit rest (spare + 1) (code_gives_way (λ was spare within. CodeForest.nil) number nodes)

-- an edit that was prepared for a code tree, with the names of the items then, if they change
pub record PlainPrepared : Type 0 where
  pub steps : CodeEdit
  pub names : Option NumberMap

-- the names that a prepared edit has are those of the items then; where it has none, the names of the items stay
abbrev pub NamesFit : Option NumberMap → (before after : CodeForest) → Type 0
NamesFit None before after = item_numbers after ≡ item_numbers before
NamesFit (Some names) before after = names ≡ item_numbers after

-- a prepared edit can be put in place in the code tree
pub record CanPutInCode (prepared : PlainPrepared) (code : PlainCodeTree) : Type 0 where
  pub steps : StepsFit prepared.steps code.spare code.items
  pub names : NamesFit prepared.names code.items (edited_code prepared.steps code.items)
  pub sound : AreSound (edited_code prepared.steps code.items)
