-- What a prepared edit makes of code that is kept node by node.
use Rattle.std.specs.Prelude.{◌≡◌, ℕ, zero, suc, ◌+◌, ◌-◌, List, Option, unwrap_or}
use Rattle.template_tree.specs.declared.change.Change.{Change}
use Rattle.template_tree.specs.Edits.Edit.{Differs}
use Rattle.template_tree.specs.Programs.PlainTree.{PlainTree}
use Rattle.template_tree.specs.Programs.Tree.{IsTree}
use Rattle.code_patch.specs.CodeForest.{CodeForest, kept_program}
use Rattle.plcs_code.specs.OwnCode.{PlainOwnCode}
use Rattle.plcs_code.specs.PlainInstr.{PlainInstr}

-- ---- code trees

-- the code of a program that is kept node by node, with how many more items the list of main and procedures has room
-- for
pub record PlainCodeTree : Type 0 where
  pub items : CodeForest
  pub spare : ℕ

-- kept code without the room of its lists
abbrev pub roomless_code : CodeForest → CodeForest
roomless_code CodeForest.nil = CodeForest.nil
roomless_code (CodeForest.cons own spare inner rest) = CodeForest.cons own 0 (roomless_code inner) (roomless_code rest)

-- the code tree keeps the code of the program, by the program's own marks and items
abbrev pub IsCodeTreeOf : PlainCodeTree → PlainTree → Type 0
IsCodeTreeOf code tree = roomless_code code.items ≡ kept_program tree.items

-- the code tree keeps the code of a tree from which this one differs by the change
abbrev pub IsCodeTreeBefore : PlainCodeTree → (after : PlainTree) → Change → Type 0
IsCodeTreeBefore code after change =
    (before : PlainTree) × IsTree before × IsCodeTreeOf code before × Differs before after change

-- ---- prepared edits

-- the jumps that a prepared edit has for a node that it mends: each one instruction or none
pub record PreparedJumps : Type 0 where
  pub ahead : List PlainInstr
  pub between : List PlainInstr
  pub back : List PlainInstr

-- a prepared edit of kept nodes in order, as steps one after the other: of the node of this number the own code is
-- mended, if there is other one, with its jumps, and nodes inside it are edited; or another node comes in its place,
-- or before it; or it goes
pub data CodeEdit : Type 0 where
  done : CodeEdit
  mend : (number : ℕ) (own : Option PlainOwnCode) (jumps : PreparedJumps) (inner rest : CodeEdit) → CodeEdit
  put : (number : ℕ) (node : CodeForest) (rest : CodeEdit) → CodeEdit
  add : (number : ℕ) (node : CodeForest) (rest : CodeEdit) → CodeEdit
  drop : (number : ℕ) (rest : CodeEdit) → CodeEdit

-- the room that a list of kept nodes has once a prepared edit is put in place
abbrev pub room_after : CodeEdit → (spare : ℕ) → ℕ
room_after CodeEdit.done spare = spare
room_after (CodeEdit.mend number own jumps inner rest) spare = room_after rest spare
room_after (CodeEdit.put number node rest) spare = room_after rest spare
room_after (CodeEdit.add number node rest) spare = room_after rest (spare - 1)
room_after (CodeEdit.drop number rest) spare = room_after rest (spare + 1)

-- kept nodes in order, joined: those of the one, and those of the other behind them
abbrev pub join_code : CodeForest → CodeForest → CodeForest
join_code CodeForest.nil others = others
join_code (CodeForest.cons own spare inner rest) others = CodeForest.cons own spare inner (join_code rest others)

-- kept nodes where the one of this number gives way to what a function makes of it
abbrev pub code_gives_way : (PlainOwnCode → ℕ → CodeForest → CodeForest) → (number : ℕ) → CodeForest → CodeForest
code_gives_way change number CodeForest.nil = CodeForest.nil
code_gives_way change zero (CodeForest.cons own spare inner rest) = join_code (change own spare inner) rest
code_gives_way change (suc number) (CodeForest.cons own spare inner rest) =
    CodeForest.cons own spare inner (code_gives_way change number rest)

-- kept nodes where another one comes before the one of this number, or behind all
abbrev pub code_added : (node : CodeForest) → (number : ℕ) → CodeForest → CodeForest
code_added node zero nodes = join_code node nodes
code_added node (suc number) CodeForest.nil = node
code_added node (suc number) (CodeForest.cons own spare inner rest) =
    CodeForest.cons own spare inner (code_added node number rest)

-- a kept node, alone in a list, after a prepared edit with this own code, if there is other one, and these steps
-- inside
abbrev pub mended_node : Option PlainOwnCode → (inside : CodeForest → CodeForest) → (room : ℕ → ℕ)
    → PlainOwnCode → ℕ → CodeForest → CodeForest
mended_node own inside room was spare within =
    CodeForest.cons (unwrap_or own was) (room spare) (inside within) CodeForest.nil

-- kept nodes in order after a prepared edit
abbrev pub edited_code : CodeEdit → CodeForest → CodeForest
edited_code CodeEdit.done nodes = nodes
edited_code (CodeEdit.mend number own jumps inner rest) nodes =
    edited_code rest (code_gives_way (mended_node own (edited_code inner) (room_after inner)) number nodes)
edited_code (CodeEdit.put number node rest) nodes =
    edited_code rest (code_gives_way (λ was spare within. node) number nodes)
edited_code (CodeEdit.add number node rest) nodes = edited_code rest (code_added node number nodes)
edited_code (CodeEdit.drop number rest) nodes =
    edited_code rest (code_gives_way (λ was spare within. CodeForest.nil) number nodes)

-- a code tree once a prepared edit is put in place
abbrev pub code_tree_after : CodeEdit → PlainCodeTree → PlainCodeTree
code_tree_after edit code = record { items = edited_code edit code.items; spare = room_after edit code.spare }
