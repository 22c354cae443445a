-- The visible node before another one, and the last one.
use Rattle.std.specs.Prelude.{◌≡◌, refl, ℕ, ◌+◌, false, if◌then◌else◌, List, [], ◌∷◌, ◌++◌, length, Option, Some, None, option_and_then, option_map, slice_get, IsSome, IsSomeAnd, ◌==◌}
use Rattle.std.specs.Option.{option_or}
use Rattle.std.proofs.Common.{ap, sym, ◌∙◌, arith, append_assoc}
use Rattle.std.proofs.lemmas.Option.{none-some, same_Some, slice_get_within, slice_get-get_or}
use Rattle.std.proofs.lemmas.List.{append-nil}
use Rattle.template_tree.specs.Programs.PlainTree.{Forest, PlainNode, nodes}
use Rattle.template_tree.specs.Positions.Path.{below, node_at}
use Rattle.template_tree.specs.Positions.Stop.{visible_at, visible_below}
use Rattle.cursor_moves.specs.Private.NextPath.{IsLastBelow, first_inside, next_of, next_with}
use Rattle.std.proofs.Math.Bool.{false≢true}
use Rattle.cursor_moves.proofs.FoundNodes.{known}
use Rattle.cursor_moves.proofs.Nodes.PathSteps.{climbed, entered, opened, seen, stepped, there}

-- a node itself is what is visible at the end of its path
item_itself : (o : Option PlainNode) → option_and_then (λ item. visible_below item []) o ≡ o
item_itself None = refl
item_itself (Some item) = refl

-- and what is there
item_there : (o : Option PlainNode) → option_and_then (λ item. below item []) o ≡ o
item_there None = refl
item_there (Some item) = refl

-- one step of a path below a node that isn't elided
step_below : (node : PlainNode) (j : ℕ) (path : List ℕ) (item : PlainNode) → node.label.elided ≡ false → slice_get (nodes node.inner) j ≡ Some item
    → visible_below node (j ∷ path) ≡ visible_below item path
step_below node j path item shown e = rw (shown, e) refl

-- and of one from the program on
step_at : (items : Forest) (j : ℕ) (path : List ℕ) (item : PlainNode) → slice_get (nodes items) j ≡ Some item
    → visible_at items (j ∷ path) ≡ visible_below item path
step_at items j path item e = rw e refl

-- the items of a visible node that isn't elided are visible
below_step : (node : PlainNode) (path : List ℕ) (end : PlainNode) (k : ℕ) → visible_below node path ≡ Some end → end.label.elided ≡ false
    → visible_below node (path ++ k ∷ []) ≡ slice_get (nodes end.inner) k
below_step node [] end k e shown =
    ap (λ n. visible_below n (k ∷ [])) (same_Some node end e)
    ∙ ap (λ b. if b then None else option_and_then (λ item. visible_below item []) (slice_get (nodes end.inner) k)) shown
    ∙ item_itself (slice_get (nodes end.inner) k)
below_step node (j ∷ path) end k e shown =
    let open_there = opened node.label.elided (option_and_then (λ item. visible_below item path) (slice_get (nodes node.inner) j)) end e in
    let item = stepped (λ item. visible_below item path) (slice_get (nodes node.inner) j) end open_there.1 in
    rw (open_there.0, item.1) (below_step item.0 path end k item.2 shown)

pub visible_step : (items : Forest) (path : List ℕ) (node : PlainNode) (k : ℕ) → visible_at items path ≡ Some node → node.label.elided ≡ false
    → visible_at items (path ++ k ∷ []) ≡ slice_get (nodes node.inner) k
visible_step items [] node k e shown = absurd (none-some node e)
visible_step items (j ∷ path) node k e shown =
    let item = stepped (λ item. visible_below item path) (slice_get (nodes items) j) node e in
    rw (item.1) (below_step item.0 path node k item.2 shown)

-- the items of a node that is there are there
below_item : (node : PlainNode) (path : List ℕ) (end : PlainNode) (k : ℕ) → below node path ≡ Some end
    → below node (path ++ k ∷ []) ≡ slice_get (nodes end.inner) k
below_item node [] end k e =
    ap (λ n. below n (k ∷ [])) (same_Some node end e) ∙ item_there (slice_get (nodes end.inner) k)
below_item node (j ∷ path) end k e =
    let item = stepped (λ item. below item path) (slice_get (nodes node.inner) j) end e in
    rw (item.1) (below_item item.0 path end k item.2)

pub item_at : (items : Forest) (path : List ℕ) (node : PlainNode) (k : ℕ) → node_at items path ≡ Some node
    → node_at items (path ++ k ∷ []) ≡ slice_get (nodes node.inner) k
item_at items [] node k e = absurd (none-some node e)
item_at items (j ∷ path) node k e =
    let item = stepped (λ item. below item path) (slice_get (nodes items) j) node e in
    rw (item.1) (below_item item.0 path node k item.2)

-- the node in which a visible one stands is visible, and not elided
pub record IsParent (items : Forest) (path : List ℕ) (k : ℕ) (item : PlainNode) : Type 0 where
  pub node : PlainNode
  pub visible : visible_at items path ≡ Some node
  pub shown : node.label.elided ≡ false
  pub item_is : slice_get (nodes node.inner) k ≡ Some item

parent_below : (node : PlainNode) (path : List ℕ) (k : ℕ) (item : PlainNode) → visible_below node (path ++ k ∷ []) ≡ Some item
    → (parent : PlainNode) × (visible_below node path ≡ Some parent) × (parent.label.elided ≡ false) × (slice_get (nodes parent.inner) k ≡ Some item)
parent_below node [] k item e =
    let open_there = opened node.label.elided (option_and_then (λ item. visible_below item []) (slice_get (nodes node.inner) k)) item e in
    (node, refl, open_there.0, sym (item_itself (slice_get (nodes node.inner) k)) ∙ open_there.1)
parent_below node (j ∷ path) k item e =
    let open_there = opened node.label.elided (option_and_then (λ item. visible_below item (path ++ k ∷ [])) (slice_get (nodes node.inner) j)) item e in
    let step = stepped (λ item. visible_below item (path ++ k ∷ [])) (slice_get (nodes node.inner) j) item open_there.1 in
    let parent = parent_below step.0 path k item step.2 in
    (parent.0, step_below node j path step.0 open_there.0 step.1 ∙ parent.1, parent.2, parent.3)

pub parent_of : (items : Forest) (j : ℕ) (path : List ℕ) (k : ℕ) (item : PlainNode) → visible_at items (j ∷ (path ++ k ∷ [])) ≡ Some item
    → IsParent items (j ∷ path) k item
parent_of items j path k item e =
    let step = stepped (λ item. visible_below item (path ++ k ∷ [])) (slice_get (nodes items) j) item e in
    let parent = parent_below step.0 path k item step.2 in
    record { node = parent.0; visible = step_at items j path step.0 step.1 ∙ parent.1; shown = parent.2; item_is = parent.3 }

-- the last visible node below a visible node has its place: behind it is what is behind all that stands in the node
pub record IsLastFrom (items : Forest) (path way : List ℕ) : Type 0 where
  pub node : PlainNode
  pub visible : visible_at items (path ++ way) ≡ Some node
  pub next_is : next_with (first_inside node) items (path ++ way) ≡ next_with None items path

pub last_from : (items : Forest) (path way : List ℕ) (node : PlainNode) → visible_at items path ≡ Some node → IsLastBelow node way
    → IsLastFrom items path way
last_from items path [] node e last =
    record {
      node = node;
      visible = ap (visible_at items) (append-nil path) ∙ e;
      next_is = ap (λ inside. next_with inside items (path ++ [])) last ∙ ap (next_with None items) (append-nil path);
    }
last_from items path (k ∷ way) node e last =
    let item = there (λ item. IsLastBelow item way) (slice_get (nodes node.inner) k) last.2 in
    let step : visible_at items (path ++ k ∷ []) ≡ Some item.0 = visible_step items path node k e last.0 ∙ item.1 in
    let below = last_from items (path ++ k ∷ []) way item.0 step item.2 in
    let same : (path ++ k ∷ []) ++ way ≡ path ++ k ∷ way = append_assoc path (k ∷ []) way in
    let none : node_at items (path ++ (k + 1) ∷ []) ≡ None = item_at items path node (k + 1) (seen items path node e) ∙ last.1 in
    record {
      node = below.node;
      visible = ap (visible_at items) (sym same) ∙ below.visible;
      next_is =
          ap (next_with (first_inside below.node) items) (sym same)
          ∙ below.next_is
          ∙ climbed items path k
          ∙ ap (λ o. option_or (option_map (λ _. path ++ (k + 1) ∷ []) o) (next_with None items path)) none;
    }

-- the last node of the last item is the last of all
pub last_of_all : (items : Forest) (k : ℕ) (way : List ℕ) → IsLastFrom items (k ∷ []) way → slice_get (nodes items) (k + 1) ≡ None
    → next_of items (k ∷ way) ≡ None
last_of_all items k way last none =
    ap (option_and_then (λ node. next_with (first_inside node) items (k ∷ way))) last.visible
    ∙ last.next_is
    ∙ climbed items [] k
    ∙ ap (λ o. option_or (option_map (λ _. (k + 1) ∷ []) (option_and_then (λ item. below item []) o)) None) none

-- the first item of a node that isn't elided
first_is : (node item : PlainNode) → node.label.elided ≡ false → slice_get (nodes node.inner) 0 ≡ Some item → first_inside node ≡ Some (0 ∷ [])
first_is node item shown e =
    ap (λ b. if b then None else option_map (λ _. 0 ∷ []) (slice_get (nodes node.inner) 0)) shown ∙ ap (option_map (λ _. 0 ∷ [])) e

-- before the first item is the node in which it stands
pub before_first : (items : Forest) (j : ℕ) (path : List ℕ) (item : PlainNode) → visible_at items (j ∷ (path ++ 0 ∷ [])) ≡ Some item
    → next_of items (j ∷ path) ≡ Some (j ∷ (path ++ 0 ∷ []))
before_first items j path item e =
    let parent = parent_of items j path 0 item e in
    let first : first_inside parent.node ≡ Some (0 ∷ []) = first_is parent.node item parent.shown parent.item_is in
    ap (option_and_then (λ node. next_with (first_inside node) items (j ∷ path))) parent.visible
    ∙ ap (λ inside. next_with inside items (j ∷ path)) first
    ∙ entered (0 ∷ []) items (j ∷ path)

-- before another item is the last node of the item before it
pub before_other : (items : Forest) (path : List ℕ) (k : ℕ) (way : List ℕ) (item : PlainNode) → IsLastFrom items (path ++ k ∷ []) way
    → visible_at items (path ++ (k + 1) ∷ []) ≡ Some item
    → next_of items ((path ++ k ∷ []) ++ way) ≡ Some (path ++ (k + 1) ∷ [])
before_other items path k way item last e =
    ap (option_and_then (λ node. next_with (first_inside node) items ((path ++ k ∷ []) ++ way))) last.visible
    ∙ last.next_is
    ∙ climbed items path k
    ∙ ap (λ o. option_or (option_map (λ _. path ++ (k + 1) ∷ []) o) (next_with None items path)) (seen items (path ++ (k + 1) ∷ []) item e)

-- where an item is there so is the one before it
item_before : (items : List PlainNode) (k : ℕ) (item : PlainNode) → slice_get items (k + 1) ≡ Some item → (other : PlainNode) × (slice_get items k ≡ Some other)
item_before items k item e =
    let within = slice_get_within items (k + 1) item e in (_, slice_get-get_or items k item (omega (arith, within)))

pub visible_before : (items : Forest) (path : List ℕ) (k : ℕ) (item : PlainNode) → visible_at items (path ++ (k + 1) ∷ []) ≡ Some item
    → (other : PlainNode) × (visible_at items (path ++ k ∷ []) ≡ Some other)
visible_before items [] k item e =
    let other = item_before (nodes items) k item (sym (item_itself (slice_get (nodes items) (k + 1))) ∙ e) in
    (other.0, item_itself (slice_get (nodes items) k) ∙ other.1)
visible_before items (j ∷ path) k item e =
    let parent = parent_of items j path (k + 1) item e in
    let other = item_before (nodes parent.node.inner) k item parent.item_is in
    (other.0, visible_step items (j ∷ path) parent.node k parent.visible parent.shown ∙ other.1)

-- the node before the first item of a node
pub before_first_is : (items : Forest) (whole path : List ℕ) (k : ℕ) → IsSome (visible_at items whole) → whole ≡ path ++ k ∷ [] → k ≡ 0
    → (length path == 0) ≡ false → next_of items path ≡ Some whole
before_first_is items whole [] k h whole_is k_is some = absurd (false≢true (sym some))
before_first_is items whole (j ∷ path) k h whole_is k_is some =
    let item = known (visible_at items whole) h in
    let same : whole ≡ j ∷ (path ++ 0 ∷ []) = whole_is ∙ ap (λ n. j ∷ (path ++ n ∷ [])) k_is in
    before_first items j path item.0 (sym (ap (visible_at items) same) ∙ item.1) ∙ ap Some (sym same)

-- the item before another one is visible
pub item_before_is : (items : Forest) (whole path : List ℕ) (k before : ℕ) → IsSome (visible_at items whole) → whole ≡ path ++ k ∷ [] → k ≡ before + 1
    → IsSome (visible_at items (path ++ before ∷ []))
item_before_is items whole path k before h whole_is k_is =
    let item = known (visible_at items whole) h in
    let same : whole ≡ path ++ (before + 1) ∷ [] = whole_is ∙ ap (λ n. path ++ n ∷ []) k_is in
    let other = visible_before items path before item.0 (sym (ap (visible_at items) same) ∙ item.1) in rw (other.1) refl

-- the last node in it is the one before
pub before_other_is : (items : Forest) (whole path : List ℕ) (k before : ℕ) (way : List ℕ) → IsSome (visible_at items whole)
    → whole ≡ path ++ k ∷ [] → k ≡ before + 1
    → IsSomeAnd (visible_at items (path ++ before ∷ [])) (λ node. IsLastBelow node way)
    → next_of items ((path ++ before ∷ []) ++ way) ≡ Some whole
before_other_is items whole path k before way h whole_is k_is last =
    let item = known (visible_at items whole) h in
    let same : whole ≡ path ++ (before + 1) ∷ [] = whole_is ∙ ap (λ n. path ++ n ∷ []) k_is in
    let other = there (λ node. IsLastBelow node way) (visible_at items (path ++ before ∷ [])) last in
    before_other items path before way item.0 (last_from items (path ++ before ∷ []) way other.0 other.1 other.2)
    (sym (ap (visible_at items) same) ∙ item.1)
    ∙ ap Some (sym same)
