-- What is prepared for kept nodes, as contracts see it.
use Rattle.std.specs.Prelude.{◌≡◌, ℕ, ◌<◌, ◌≤◌, true, ◌&&◌, List, [], ◌∷◌, length, sum, take, None, Some, Option, IsSome, MatchOption, option_map, slice_get, unwrap_or}
use Rattle.plcs_base.specs.Mark.{MarkMap}
use Rattle.plcs_base.specs.Scope.{ItemMap}
use Rattle.template_tree.specs.declared.change.What.{What}
use Rattle.template_tree.specs.Programs.PlainTree.{Forest, PlainNode, nodes}
use Rattle.plcs_code.specs.OwnCode.{own_code_by}
use Rattle.code_patch.specs.declared.plan.Plan.{Plan}
use Rattle.code_patch.specs.declared.list_edit.ListEdit.{ListEdit}
use Rattle.code_patch.specs.declared.list_edit.NodeEdit.{NodeEdit}
use Rattle.code_patch.specs.Bill.{is_of_node}
use Rattle.code_patch.specs.CodeEdit.{edited_code, roomless_code}
use Rattle.code_patch.specs.CodeForest.{CodeForest, count_around, kept_code, kept_lengths, PlainCodeNode, code_nodes}
use Rattle.code_patch.specs.PreparedEdit.{AreJumps, StepsFit}
use Rattle.code_patch.specs.Private.NearCode.{Near, OwnNear, PlainPlan, ends_here, item_edited, kept_number, near_as, way_below}
use Rattle.code_patch.specs.Private.PlainCodeNode.{kept_node, roomless_code_node}
use Rattle.code_patch.specs.Private.StepsView.{plain_jumps, edit_of_steps}

-- a plan in memory as plain data, with the marks and the items that it goes by
abbrev pub plain_plan : {M D : Type 0} → MarkMap → ItemMap → Plan M D → PlainPlan
plain_plan marks items plan =
    record {
      marks = marks;
      items = items;
      what = plan.what;
      everywhere = plan.everywhere;
      procedure = option_map (λ slot. slot.0) plan.procedure;
    }

-- kept nodes after the steps that are prepared so far
abbrev pub made_by : {W : Type 0} → ListEdit W → CodeForest → CodeForest
made_by list kept = edited_code (edit_of_steps list.steps.items) kept

-- the steps that are prepared so far can be made in kept nodes, and the lengths are those that these have then
pub record IsListEdit {W : Type 0} (list : ListEdit W) (spare : ℕ) (kept : CodeForest) : Type 0 where
  pub fit : StepsFit (edit_of_steps list.steps.items) spare kept
  pub first : list.first ≡ sum (take 1 (kept_lengths (made_by list kept)))
  pub total : list.total ≡ sum (kept_lengths (made_by list kept))

-- a kept node that is mended is near what is kept of the node after the edit, where the way goes on below it
abbrev pub MendNear : PlainPlan → Option (List ℕ) → PlainCodeNode → PlainNode → Type 0
MendNear plan way kept node =
    OwnNear plan (ends_here way) kept.own node.label
    × Near plan way 0 (item_edited plan way kept.inner node.inner) node.inner

-- what is prepared for a kept node makes of it what is kept of the node after the edit
pub record IsNodeEdit {W : Type 0} (edit : NodeEdit W) (plan : PlainPlan) (kept : PlainCodeNode) (node : PlainNode)
    : Type 0 where
  pub own : unwrap_or edit.mending.own kept.own ≡ own_code_by plan.marks plan.items node.label
  pub inner : roomless_code (edited_code edit.mending.inner kept.inner) ≡ kept_code plan.marks plan.items node.inner
  pub fit : StepsFit edit.mending.inner kept.spare kept.inner
  pub jumps :
      AreJumps (unwrap_or edit.mending.own kept.own) (edited_code edit.mending.inner kept.inner)
      (plain_jumps edit.mending.jumps)
  pub length :
      edit.length
      ≡ count_around (unwrap_or edit.mending.own kept.own) (kept_lengths (edited_code edit.mending.inner kept.inner))

-- there is room for one more node in the list in which the path ends, from this kept node on
abbrev pub RoomAt : (path : List ℕ) → PlainCodeNode → Type 0
RoomAt [] node = Unit {0}
RoomAt (k ∷ []) node = 0 < node.spare
RoomAt (k ∷ next ∷ path) node =
    (child : PlainCodeNode) → slice_get (code_nodes node.inner) k ≡ Some child → RoomAt (next ∷ path) child

-- an item can come, or go, by its number in a list of kept nodes
abbrev pub ItemFits : What → (k : ℕ) → PlainCodeNode → (after : Forest) → Type 0
ItemFits What.Node k kept after = Unit {0}
ItemFits (What.Part part) k kept after = Unit {0}
ItemFits What.Added k kept after =
    (k ≤ length (code_nodes kept.inner)) × (0 < kept.spare) × IsSome (slice_get (nodes after) k)
ItemFits What.Dropped k kept after = k < length (code_nodes kept.inner)

-- where a path ends at an item that came or went, from this kept node on, it can come or go in its list
abbrev pub PathFits : What → (path : List ℕ) → PlainCodeNode → (after : Forest) → Type 0
PathFits what [] kept after = Unit {0}
PathFits what (k ∷ []) kept after = ItemFits what k kept after
PathFits what (k ∷ next ∷ path) kept after =
    (child : PlainCodeNode) (node : PlainNode) → slice_get (code_nodes kept.inner) k ≡ Some child
    → slice_get (nodes after) k ≡ Some node → PathFits what (next ∷ path) child node.inner

-- where a way leads here, and ends at an item that came or went, it can come or go in its list; elsewhere nothing is
-- asked
abbrev pub WayFits : What → (way : Option (List ℕ)) → PlainCodeNode → (after : Forest) → Type 0
WayFits what None kept after = Unit {0}
WayFits what (Some path) kept after = PathFits what path kept after

-- what is to be done with a kept node that is gone to: another one comes in its place, or it is mended, and is near
-- what is kept of the node after the edit
abbrev pub GoneTo : PlainPlan → (below : Option (List ℕ)) → PlainCodeNode → PlainNode → Type 0
GoneTo plan below child node =
    near_as true (ends_here below && is_of_node plan.what) (Unit {0}) (MendNear plan below child node)
    × WayFits plan.what below child node.inner

-- kept nodes, after the steps that are prepared so far, have at this number what was kept of the node, which is gone
-- to; or they have what is kept of it after the edit, as it was added
abbrev pub ChildNear : PlainPlan → Option (List ℕ) → (k : ℕ) → PlainCodeNode → (made : CodeForest) → PlainNode → Type 0
ChildNear plan way k kept made node =
    (child : PlainCodeNode) × (slice_get (code_nodes made) k ≡ Some child)
    × MatchOption (kept_number plan.what way k) (roomless_code_node child ≡ kept_node plan.marks plan.items node)
    (λ number.
    (slice_get (code_nodes kept.inner) number ≡ Some child) × GoneTo plan (way_below plan.what way k) child node)

-- of kept nodes that of this number became what is kept of the node after the edit, and the others stayed
pub record ChildEdited (plan : PlainPlan) (k : ℕ) (old new : CodeForest) (node : PlainNode) : Type 0 where
  pub at :
      (child : PlainCodeNode) × (slice_get (code_nodes new) k ≡ Some child)
      × (roomless_code_node child ≡ kept_node plan.marks plan.items node)
  pub others : (j : ℕ) → (j ≡ k → ⊥) → slice_get (code_nodes new) j ≡ slice_get (code_nodes old) j
  pub many : length (code_nodes new) ≡ length (code_nodes old)

-- kept nodes, after the steps that are prepared so far, are those that were kept, by the numbers after the edit, and
-- what is kept then of an item that was added
abbrev pub KeptStay : PlainPlan → Option (List ℕ) → PlainCodeNode → (made : CodeForest) → (after : Forest) → Type 0
KeptStay plan way kept made after =
    (k : ℕ) (node : PlainNode) → slice_get (nodes after) k ≡ Some node
    → MatchOption (kept_number plan.what way k)
    ((child : PlainCodeNode) × (slice_get (code_nodes made) k ≡ Some child)
    × (roomless_code_node child ≡ kept_node plan.marks plan.items node))
    (λ number. slice_get (code_nodes made) k ≡ slice_get (code_nodes kept.inner) number)

-- a path ends in a list inside this kept node, or inside one to which it leads
abbrev pub LeadsToList : (path : List ℕ) → PlainCodeNode → Type 0
LeadsToList [] node = Unit {0}
LeadsToList (k ∷ []) node = Unit {0}
LeadsToList (k ∷ next ∷ path) node =
    (child : PlainCodeNode) × (slice_get (code_nodes node.inner) k ≡ Some child) × LeadsToList (next ∷ path) child
