-- Kept nodes one by one, as plain data.
use Rattle.std.specs.Prelude.{◌≡◌, ℕ, ◌+◌, ◌-◌, List, [], ◌∷◌, ◌++◌, length, map, refl, slice_set}
use Rattle.std.proofs.Common.{ap}
use Rattle.std.specs.List.{insert, remove}
use Rattle.std.specs.Option.{option_to_list}
use Rattle.plcs_base.specs.Mark.{MarkMap}
use Rattle.plcs_base.specs.Scope.{ItemMap}
use Rattle.template_tree.specs.Programs.PlainTree.{PlainNode}
use Rattle.plcs_code.specs.Gen.{code_with, codes_around, length_around, node_lengths}
use Rattle.plcs_code.specs.OwnCode.{PlainOwnCode, jumps_beside, own_code_by}
use Rattle.plcs_code.specs.PlainInstr.{PlainInstr}
use Rattle.code_patch.specs.CodeEdit.{roomless_code}
use Rattle.code_patch.specs.CodeForest.{CodeForest, PlainCodeNode, code_nodes, count_around, kept_code, kept_codes, kept_lengths}

-- a list of kept nodes, with how many more it has room for
pub record PlainCodeNodes : Type 0 where
  pub items : List PlainCodeNode
  pub spare : ℕ

-- a list of kept nodes as nodes in order
abbrev pub code_forest : List PlainCodeNode → CodeForest
code_forest [] = CodeForest.nil
code_forest (node ∷ rest) = CodeForest.cons node.own node.spare node.inner (code_forest rest)

-- a list of kept nodes, made nodes in order and these a list again, is that list
pub code_nodes_forest : (items : List PlainCodeNode) → code_nodes (code_forest items) ≡ items
code_nodes_forest [] = refl
code_nodes_forest (node ∷ rest) = ap (λ items. node ∷ items) (code_nodes_forest rest)

-- kept nodes in order, made a list and that nodes in order again, are those nodes
pub code_forest_nodes : (nodes : CodeForest) → code_forest (code_nodes nodes) ≡ nodes
code_forest_nodes CodeForest.nil = refl
code_forest_nodes (CodeForest.cons own spare inner rest) =
    ap (λ rest. CodeForest.cons own spare inner rest) (code_forest_nodes rest)

-- how many instructions the code of a kept node has
abbrev pub kept_length : PlainCodeNode → ℕ
kept_length node = count_around node.own (kept_lengths node.inner)

-- how many instructions the codes of the kept nodes of a list have, one by one
pub kept_lengths_forest : (items : List PlainCodeNode) → kept_lengths (code_forest items) ≡ map kept_length items
kept_lengths_forest [] = refl
kept_lengths_forest (node ∷ rest) = ap (λ lengths. kept_length node ∷ lengths) (kept_lengths_forest rest)

-- the code of a kept node, what stands inside it included
abbrev pub kept_node_code : PlainCodeNode → List PlainInstr
kept_node_code node =
    code_with node.own.pieces (jumps_beside node.own (kept_lengths node.inner)) (kept_codes node.inner)

-- how many instructions the code of a kept node has before that of the nodes inside it
abbrev pub length_ahead : PlainCodeNode → ℕ
length_ahead node =
    length node.own.pieces.before + length (option_to_list (jumps_beside node.own (kept_lengths node.inner)).ahead)

-- how many instructions the code of a kept node has behind that of the nodes inside it
abbrev pub length_behind : PlainCodeNode → ℕ
length_behind node =
    length node.own.pieces.behind + length (option_to_list (jumps_beside node.own (kept_lengths node.inner)).back)

-- the instructions of a kept node behind the codes of the nodes inside it
abbrev pub instrs_behind : PlainCodeNode → List PlainInstr
instrs_behind node =
    node.own.pieces.behind ++ option_to_list (jumps_beside node.own (kept_lengths node.inner)).back

-- the instructions of a kept node from the code of the first node inside it on
abbrev pub instrs_inside : PlainCodeNode → List PlainInstr
instrs_inside node =
    codes_around (option_to_list (jumps_beside node.own (kept_lengths node.inner)).between) (kept_codes node.inner)
    ++ instrs_behind node

-- the list of kept nodes with one more before the one of this number, in room that was there
abbrev pub with_kept_inserted : PlainCodeNodes → ℕ → PlainCodeNode → PlainCodeNodes
with_kept_inserted list k node = record { items = insert list.items k node; spare = list.spare - 1 }

-- the list of kept nodes without the one of this number, whose room is left
abbrev pub with_kept_removed : PlainCodeNodes → ℕ → PlainCodeNodes
with_kept_removed list k = record { items = remove list.items k; spare = list.spare + 1 }

-- the list of kept nodes with another one in the place of this number
abbrev pub with_code_set : PlainCodeNodes → ℕ → PlainCodeNode → PlainCodeNodes
with_code_set list k node = record { items = slice_set list.items k node; spare = list.spare }

-- a kept node without the room of the lists in it
abbrev pub roomless_code_node : PlainCodeNode → PlainCodeNode
roomless_code_node node = record { own = node.own; spare = 0; inner = roomless_code node.inner }

-- what is kept of a node of a program
abbrev pub kept_node : MarkMap → ItemMap → PlainNode → PlainCodeNode
kept_node marks items node =
    record { own = own_code_by marks items node.label; spare = 0; inner = kept_code marks items node.inner }

-- how many instructions the code of a node of a program has, what stands inside it included, of which is kept as many
abbrev pub node_length : MarkMap → ItemMap → PlainNode → ℕ
node_length marks items node = length_around marks items node.label (node_lengths marks items node.inner)

-- how many jumps own code has, where the codes inside the kept node have these lengths
abbrev pub jumps_length : PlainOwnCode → (lengths : List ℕ) → ℕ
jumps_length own lengths =
    let around = jumps_beside own lengths in
    length (option_to_list around.ahead)
    + (length (option_to_list around.between) + length (option_to_list around.back))

-- how many nodes are kept, those inside others too
abbrev pub count_kept : CodeForest → ℕ
count_kept CodeForest.nil = 0
count_kept (CodeForest.cons own spare inner rest) = 1 + (count_kept inner + count_kept rest)
