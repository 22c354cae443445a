-- Kept code that an edit mends node by node: how near it is to the code after the edit, by how the edit is prepared.
use Rattle.std.specs.Prelude.{◌≡◌, ℕ, ◌+◌, ◌-◌, Bool, true, false, not, ◌&&◌, ◌||◌, ◌==◌, nat_lt, if◌then◌else◌, List, [], ◌∷◌, take, Option, Some, None, is_some, slice_get}
use Rattle.std.specs.Option.{option_map_or}
use Rattle.plcs_base.specs.Mark.{MarkMap}
use Rattle.plcs_base.specs.Scope.{ItemMap}
use Rattle.template_tree.specs.declared.change.Change.{Change}
use Rattle.template_tree.specs.declared.change.What.{What}
use Rattle.template_tree.specs.Programs.PlainTree.{Forest, Label, PlainNode, forest, nodes}
use Rattle.plcs_code.specs.OwnCode.{PlainOwnCode, own_code_by}
use Rattle.plcs_code.specs.Pieces.{suspension}
use Rattle.code_patch.specs.Bill.{is_of_node}
use Rattle.code_patch.specs.CodeEdit.{code_added, code_gives_way, roomless_code}
use Rattle.code_patch.specs.CodeForest.{CodeForest, kept_code, PlainCodeNode}

-- ---- ways

-- how an edit is prepared: by the marks and the items after it, what it did, whether marks may have changed anywhere,
-- and the procedure whose own code is touched
pub record PlainPlan : Type 0 where
  pub marks : MarkMap
  pub items : ItemMap
  pub what : What
  pub everywhere : Bool
  pub procedure : Option ℕ

-- how an edit that made a change is prepared by these marks and items, where it changed a declaration or not, and an
-- item of the program or not
abbrev pub plan_of : MarkMap → ItemMap → Change → (declares is_item : Bool) → PlainPlan
plan_of marks items change declares is_item =
    record {
      marks = marks;
      items = items;
      what = change.what;
      everywhere = declares || is_item;
      procedure = if declares then Some change.procedure.0 else None;
    }

-- whether an item was added or dropped
abbrev pub is_of_item : What → Bool
is_of_item What.Node = false
is_of_item (What.Part part) = false
is_of_item What.Added = true
is_of_item What.Dropped = true

-- whether an item was added
abbrev pub is_added : What → Bool
is_added What.Node = false
is_added (What.Part part) = false
is_added What.Added = true
is_added What.Dropped = false

-- whether an item was dropped
abbrev pub is_dropped : What → Bool
is_dropped What.Node = false
is_dropped (What.Part part) = false
is_dropped What.Added = false
is_dropped What.Dropped = true

-- whether a path ends at once
abbrev pub is_short : List ℕ → Bool
is_short [] = true
is_short (k ∷ path) = false

-- whether a path leads to an item of a program
abbrev pub leads_to_item : List ℕ → Bool
leads_to_item [] = true
leads_to_item (k ∷ path) = is_short path

-- whether a way ends here
abbrev pub ends_here : Option (List ℕ) → Bool
ends_here None = false
ends_here (Some []) = true
ends_here (Some (k ∷ way)) = false

-- the number of the node to which a way leads first, if it goes on
abbrev pub first_number : Option (List ℕ) → Option ℕ
first_number None = None
first_number (Some []) = None
first_number (Some (k ∷ way)) = Some k

-- the number of the item at which the way ends, if it does here and the item was added or dropped
abbrev pub item_number : What → Option (List ℕ) → Option ℕ
item_number what None = None
item_number what (Some []) = None
item_number what (Some (k ∷ [])) = if is_of_item what then Some k else None
item_number what (Some (k ∷ next ∷ way)) = None

-- the number among what is kept of the node that has this number after the edit, if it wasn't added
abbrev pub kept_number : What → Option (List ℕ) → (k : ℕ) → Option ℕ
kept_number what way k =
    option_map_or
    (λ item.
    if nat_lt k item then Some k
    else (if is_added what then (if k == item then None else Some (k - 1)) else Some (k + 1)))
    (item_number what way) (Some k)

-- the rest of the way below the node of this number, if it leads there
abbrev pub way_below : What → Option (List ℕ) → (k : ℕ) → Option (List ℕ)
way_below what None k = None
way_below what (Some []) k = None
way_below what (Some (first ∷ [])) k = if (first == k) && not (is_of_item what) then Some [] else None
way_below what (Some (first ∷ next ∷ way)) k = if first == k then Some (next ∷ way) else None

-- whether the way leads to the node of this number, or every node is gone to
abbrev pub is_visited : PlainPlan → Option (List ℕ) → (k : ℕ) → Bool
is_visited plan way k = plan.everywhere || option_map_or (λ first. first == k) (first_number way) false

-- ---- own code

-- whether two answers are the same
abbrev pub same_answer : Bool → Bool → Bool
same_answer true other = other
same_answer false other = not other

-- whether kept own code stops a run as that of a node does by these marks
abbrev pub stops_as : MarkMap → PlainOwnCode → Label → Bool
stops_as marks own label =
    same_answer own.all_stopped (is_some (suspension marks label.slot label.parts))
    && same_answer own.one_stopped (is_some (suspension marks label.slot (take 1 label.parts)))

-- whether the own code of a node is made anew, where a way ends or doesn't
abbrev pub is_remade : PlainPlan → (ends : Bool) → PlainOwnCode → Label → Bool
is_remade plan ends was label =
    ends
    || (option_map_or (λ procedure. procedure == was.slot) plan.procedure false || not (stops_as plan.marks was label))

-- the own code that is kept of a node is that after the edit, if it isn't made anew
abbrev pub OwnNear : PlainPlan → (ends : Bool) → PlainOwnCode → Label → Type 0
OwnNear plan ends was label = is_remade plan ends was label ≡ false → was ≡ own_code_by plan.marks plan.items label

-- ---- nodes in order

-- what is kept of the node of this number, alone in a list
abbrev pub kept_item : PlainPlan → (k : ℕ) → Forest → CodeForest
kept_item plan k after =
    option_map_or (λ node. kept_code plan.marks plan.items (forest (node ∷ []))) (slice_get (nodes after) k)
    CodeForest.nil

-- kept nodes once the item came or went with which a way ends among them
abbrev pub item_edited : PlainPlan → Option (List ℕ) → CodeForest → (after : Forest) → CodeForest
item_edited plan way kept after =
    option_map_or
    (λ k.
    if is_added plan.what then code_added (kept_item plan k after) k kept
    else code_gives_way (λ was spare within. CodeForest.nil) k kept)
    (item_number plan.what way) kept

-- what is said of a kept node, by what becomes of it: where it isn't gone to, where another one replaces it, or where
-- it is mended
abbrev pub near_as : (visited put : Bool) (unchanged mended : Type 0) → Type 0
near_as false put unchanged mended = unchanged
near_as true true unchanged mended = Unit {0}
near_as true false unchanged mended = mended

-- kept nodes in order, the first of which has this number, are near what is kept of these after the edit
abbrev pub Near : PlainPlan → Option (List ℕ) → (k : ℕ) → CodeForest → (after : Forest) → Type 0
Near plan way k CodeForest.nil Forest.nil = Unit {0}
Near plan way k CodeForest.nil (Forest.cons label within others) = ⊥
Near plan way k (CodeForest.cons own spare inner rest) Forest.nil = ⊥
Near plan way k (CodeForest.cons own spare inner rest) (Forest.cons label within others) =
    near_as (is_visited plan way k) (ends_here (way_below plan.what way k) && is_of_node plan.what)
    ((own ≡ own_code_by plan.marks plan.items label) × (roomless_code inner ≡ kept_code plan.marks plan.items within))
    (OwnNear plan (ends_here (way_below plan.what way k)) own label
    × Near plan (way_below plan.what way k) 0 (item_edited plan (way_below plan.what way k) inner within) within)
    × Near plan way (k + 1) rest others

-- a kept node is near what is kept of the node after the edit, which has this number there
abbrev pub NodeNear : PlainPlan → Option (List ℕ) → (k : ℕ) → PlainCodeNode → PlainNode → Type 0
NodeNear plan way k kept node =
    near_as (is_visited plan way k) (ends_here (way_below plan.what way k) && is_of_node plan.what)
    ((kept.own ≡ own_code_by plan.marks plan.items node.label)
    × (roomless_code kept.inner ≡ kept_code plan.marks plan.items node.inner))
    (OwnNear plan (ends_here (way_below plan.what way k)) kept.own node.label
    × Near plan (way_below plan.what way k) 0 (item_edited plan (way_below plan.what way k) kept.inner node.inner)
    node.inner)
