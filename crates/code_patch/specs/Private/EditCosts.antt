-- What the preparation of an edit costs: of which kept nodes something becomes, and how many instructions are emitted
-- for them at most.
use Rattle.std.specs.Prelude.{ℕ, ◌+◌, Bool, false, ◌&&◌, ◌||◌, if◌then◌else◌, min, List, Option, is_some, option_and_then, slice_get}
use Rattle.std.specs.Option.{option_map_or}
use Rattle.template_tree.specs.declared.change.What.{What}
use Rattle.template_tree.specs.Programs.PlainTree.{Forest, Label, PlainNode, nodes}
use Rattle.plcs_code.specs.Gen.{own_length}
use Rattle.code_patch.specs.Bill.{is_of_node}
use Rattle.code_patch.specs.CodeForest.{CodeForest, PlainCodeNode, code_nodes}
use Rattle.code_patch.specs.Private.NearCode.{PlainPlan, ends_here, is_added, is_remade, is_visited, item_number, kept_number, way_below}
use Rattle.code_patch.specs.Private.PlainCodeNode.{node_length}

-- what was kept of the node that has this number after the edit, if it wasn't added
abbrev pub kept_for : What → Option (List ℕ) → CodeForest → (k : ℕ) → Option PlainCodeNode
kept_for what way kept k =
    option_and_then (λ (number : ℕ). slice_get (code_nodes kept) number) (kept_number what way k)

-- whether another node comes in place of a kept one, by the way below it
abbrev pub is_put : PlainPlan → (below : Option (List ℕ)) → Bool
is_put plan below = ends_here below && is_of_node plan.what

-- ---- of which kept nodes something becomes

-- whether something becomes of a kept node that is gone to, of the nodes in order, the first of which has this number
-- after the edit
abbrev pub nodes_move : PlainPlan → Option (List ℕ) → CodeForest → (k : ℕ) → Forest → Bool
nodes_move plan way kept k Forest.nil = false
nodes_move plan way kept k (Forest.cons label within others) =
    (is_visited plan way k
    && option_map_or
    (λ (child : PlainCodeNode).
    is_put plan (way_below plan.what way k)
    || (is_remade plan (ends_here (way_below plan.what way k)) child.own label
    || (is_some (item_number plan.what (way_below plan.what way k))
    || nodes_move plan (way_below plan.what way k) child.inner 0 within)))
    (kept_for plan.what way kept k) false)
    || nodes_move plan way kept (k + 1) others

-- whether something becomes of a list of kept nodes: an item comes or goes, or something becomes of a node in it
abbrev pub list_moves : PlainPlan → Option (List ℕ) → CodeForest → (after : Forest) → Bool
list_moves plan way kept after = is_some (item_number plan.what way) || nodes_move plan way kept 0 after

-- whether something becomes of a kept node in which no other one comes: its own code is made anew, or something
-- becomes of the list inside it
abbrev pub node_moves : PlainPlan → Option (List ℕ) → PlainCodeNode → PlainNode → Bool
node_moves plan way kept node =
    is_remade plan (ends_here way) kept.own node.label || list_moves plan way kept.inner node.inner

-- whether something becomes of what was kept of the node that has this number after the edit, if it is gone to
abbrev pub child_moves : PlainPlan → Option (List ℕ) → CodeForest → (k : ℕ) → PlainNode → Bool
child_moves plan way kept k node =
    option_map_or
    (λ (child : PlainCodeNode).
    is_put plan (way_below plan.what way k) || node_moves plan (way_below plan.what way k) child node)
    (kept_for plan.what way kept k) false

-- ---- what is emitted

-- how many instructions are emitted for an item that comes into a list
abbrev pub item_cost : PlainPlan → Option (List ℕ) → (after : Forest) → ℕ
item_cost plan way after =
    option_map_or
    (λ (k : ℕ).
    if is_added plan.what
    then option_map_or (λ (node : PlainNode). node_length plan.marks plan.items node) (slice_get (nodes after) k) 0
    else 0)
    (item_number plan.what way) 0

-- how many instructions are emitted at most for the own code of a node: all of it where it is made anew, or its jumps
-- where something becomes of what is inside
abbrev pub own_cost : PlainPlan → (made moved : Bool) → Label → ℕ
own_cost plan made moved label =
    if made then own_length plan.marks plan.items label
    else (if moved then min 2 (own_length plan.marks plan.items label) else 0)

-- how many are emitted at most for the kept nodes that are gone to, of the nodes in order, the first of which has this
-- number after the edit
abbrev pub nodes_cost : PlainPlan → Option (List ℕ) → CodeForest → (k : ℕ) → Forest → ℕ
nodes_cost plan way kept k Forest.nil = 0
nodes_cost plan way kept k (Forest.cons label within others) =
    (if is_visited plan way k
    then option_map_or
    (λ (child : PlainCodeNode).
    if is_put plan (way_below plan.what way k)
    then node_length plan.marks plan.items (record { label = label; inner = within })
    else
    own_cost plan (is_remade plan (ends_here (way_below plan.what way k)) child.own label)
    (list_moves plan (way_below plan.what way k) child.inner within) label
    + (item_cost plan (way_below plan.what way k) within
    + nodes_cost plan (way_below plan.what way k) child.inner 0 within))
    (kept_for plan.what way kept k) 0
    else 0)
    + nodes_cost plan way kept (k + 1) others

-- how many are emitted at most for a list of kept nodes
abbrev pub list_cost : PlainPlan → Option (List ℕ) → CodeForest → (after : Forest) → ℕ
list_cost plan way kept after = item_cost plan way after + nodes_cost plan way kept 0 after

-- how many are emitted at most for a kept node in which no other one comes
abbrev pub node_cost : PlainPlan → Option (List ℕ) → PlainCodeNode → PlainNode → ℕ
node_cost plan way kept node =
    own_cost plan (is_remade plan (ends_here way) kept.own node.label) (list_moves plan way kept.inner node.inner)
    node.label
    + list_cost plan way kept.inner node.inner

-- how many are emitted at most for what was kept of a node, by the way below it: all of it where another one comes
abbrev pub gone_cost : PlainPlan → (below : Option (List ℕ)) → PlainCodeNode → PlainNode → ℕ
gone_cost plan below kept node =
    if is_put plan below then node_length plan.marks plan.items node else node_cost plan below kept node

-- how many are emitted at most for what was kept of the node that has this number after the edit, if it is gone to
abbrev pub child_cost : PlainPlan → Option (List ℕ) → CodeForest → (k : ℕ) → PlainNode → ℕ
child_cost plan way kept k node =
    option_map_or (λ (child : PlainCodeNode). gone_cost plan (way_below plan.what way k) child node)
    (kept_for plan.what way kept k) 0

-- how many are emitted at most for what was kept of the node that has this number after the edit: none where it isn't
-- gone to
abbrev pub visited_cost : PlainPlan → Option (List ℕ) → CodeForest → (k : ℕ) → PlainNode → ℕ
visited_cost plan way kept k node = if is_visited plan way k then child_cost plan way kept k node else 0
