-- The nodes of a program at their paths, among what is kept of it: they are the same, and as many.
use Rattle.std.proofs.Common.{◌≡◌, ℕ, zero, suc, ◌+◌, List, [], ◌∷◌, length, Option, Some, None, refl, ap, sym, subst, ◌∙◌, arith}
use Rattle.std.specs.Prelude.{is_some, max, option_and_then, option_map, slice_get}
use Rattle.std.proofs.lemmas.Option.{none-some, same_Some, slice_get_within}
use Rattle.plcs_base.specs.Mark.{MarkMap}
use Rattle.plcs_base.specs.Scope.{ItemMap}
use Rattle.template_tree.specs.declared.change.What.{What}
use Rattle.template_tree.specs.Edits.Edit.{edit_below, give_way}
use Rattle.template_tree.specs.Positions.Path.{below, node_at}
use Rattle.template_tree.specs.Programs.PlainTree.{Forest, PlainNode, forest, join, nodes}
use Rattle.template_tree.specs.Programs.Slots.{count, depth}
use Rattle.plcs_code.specs.OwnCode.{PlainOwnCode, own_code_by}
use Rattle.code_patch.specs.CodeEdit.{roomless_code}
use Rattle.code_patch.specs.CodeForest.{CodeForest, kept_code, PlainCodeNode, code_nodes}
use Rattle.code_patch.specs.Private.KeptPaths.{kept_below, kept_depth}
use Rattle.code_patch.specs.Private.PlainCodeNode.{count_kept}
use Rattle.code_patch.specs.Private.PreparedNodes.{LeadsToList, PathFits, RoomAt}
use Rattle.code_patch.proofs.NearRooms.{inner_of, own_of, rest_of}

-- the item to which a path leads first
pub first_item : (program : Forest) (k : ℕ) (path : List ℕ) (node : PlainNode) → node_at program (k ∷ path) ≡ Some node
    → (item : PlainNode) × (slice_get (nodes program) k ≡ Some item) × (below item path ≡ Some node)
first_item program k path node there = by (slice_get (nodes program) k) refl there
  where
    by : (o : Option PlainNode) → slice_get (nodes program) k ≡ o → option_and_then (λ (item : PlainNode). below item path) o ≡ Some node
        → (item : PlainNode) × (slice_get (nodes program) k ≡ Some item) × (below item path ≡ Some node)
    by None e is = absurd (none-some node is)
    by (Some item) e is = (item, e, is)

-- ---- an edit at a path

-- the item of its number is what the edit makes of it
pub given_child : (gives : PlainNode → List PlainNode) (other : PlainNode) (k : ℕ) (program : Forest) (item : PlainNode)
    → slice_get (nodes program) k ≡ Some item → gives item ≡ other ∷ [] → slice_get (nodes (give_way gives k program)) k ≡ Some other
given_child gives other zero Forest.nil item there is = absurd (cc)
given_child gives other (suc k) Forest.nil item there is = absurd (cc)
given_child gives other zero (Forest.cons label inner rest) item there is =
    let same : record { label = label; inner = inner } ≡ item = cc in
    ap (λ (ns : List PlainNode). slice_get (nodes (join (forest ns) rest)) 0) (ap gives same ∙ is)
given_child gives other (suc k) (Forest.cons label inner rest) item there is = given_child gives other k rest item there is

-- and the node at its path
pub given_at : (change : PlainNode → List PlainNode) (new : PlainNode) (path : List ℕ) (k : ℕ) (program : Forest) (node : PlainNode)
    → node_at program (k ∷ path) ≡ Some node → change node ≡ new ∷ []
    → node_at (give_way (edit_below change path) k program) (k ∷ path) ≡ Some new
given_at change new path zero Forest.nil node there is = absurd (cc)
given_at change new path (suc k) Forest.nil node there is = absurd (cc)
given_at change new [] zero (Forest.cons label inner rest) node there is =
    let same : record { label = label; inner = inner } ≡ node = cc in
    ap (λ (ns : List PlainNode). node_at (join (forest ns) rest) (0 ∷ [])) (ap change same ∙ is)
given_at change new (j ∷ path) zero (Forest.cons label inner rest) node there is = given_at change new path j inner node there is
given_at change new path (suc k) (Forest.cons label inner rest) node there is = given_at change new path k rest node there is

-- where an item goes there is one less
pub given_less : (k : ℕ) (program : Forest) (item : PlainNode) → slice_get (nodes program) k ≡ Some item
    → suc (length (nodes (give_way (λ other. []) k program))) ≡ length (nodes program)
given_less zero Forest.nil item there = absurd (cc)
given_less (suc k) Forest.nil item there = absurd (cc)
given_less zero (Forest.cons label inner rest) item there = refl
given_less (suc k) (Forest.cons label inner rest) item there = ap suc (given_less k rest item there)

module _ (marks : MarkMap) (items : ItemMap) where
  differ_less : (own : PlainOwnCode) (inner rest : CodeForest) → CodeForest.nil ≡ CodeForest.cons own 0 inner rest → ⊥
  differ_less own inner rest same =
      let many : 0 ≡ suc (length (code_nodes rest)) = ap (λ (f : CodeForest). length (code_nodes f)) same in omega (arith, many)

  differ_more : (own : PlainOwnCode) (inner rest : CodeForest) → CodeForest.cons own 0 inner rest ≡ CodeForest.nil → ⊥
  differ_more own inner rest same = differ_less own inner rest (sym same)

  -- ---- as many

  pub kept_many : (kept : CodeForest) (program : Forest) → roomless_code kept ≡ kept_code marks items program
      → length (code_nodes kept) ≡ length (nodes program)
  kept_many CodeForest.nil Forest.nil is = refl
  kept_many CodeForest.nil (Forest.cons label within others) is =
      absurd (differ_less (own_code_by marks items label) (kept_code marks items within) (kept_code marks items others) is)
  kept_many (CodeForest.cons own spare inner rest) Forest.nil is = absurd (differ_more own (roomless_code inner) (roomless_code rest) is)
  kept_many (CodeForest.cons own spare inner rest) (Forest.cons label within others) is = ap suc (kept_many rest others (ap rest_of is))

  pub kept_count : (kept : CodeForest) (program : Forest) → roomless_code kept ≡ kept_code marks items program → count_kept kept ≡ count program
  kept_count CodeForest.nil Forest.nil is = refl
  kept_count CodeForest.nil (Forest.cons label within others) is =
      absurd (differ_less (own_code_by marks items label) (kept_code marks items within) (kept_code marks items others) is)
  kept_count (CodeForest.cons own spare inner rest) Forest.nil is = absurd (differ_more own (roomless_code inner) (roomless_code rest) is)
  kept_count (CodeForest.cons own spare inner rest) (Forest.cons label within others) is =
      omega (arith, kept_count inner within (ap inner_of is), kept_count rest others (ap rest_of is))

  pub kept_deep : (kept : CodeForest) (program : Forest) → roomless_code kept ≡ kept_code marks items program → kept_depth kept ≡ depth program
  kept_deep CodeForest.nil Forest.nil is = refl
  kept_deep CodeForest.nil (Forest.cons label within others) is =
      absurd (differ_less (own_code_by marks items label) (kept_code marks items within) (kept_code marks items others) is)
  kept_deep (CodeForest.cons own spare inner rest) Forest.nil is = absurd (differ_more own (roomless_code inner) (roomless_code rest) is)
  kept_deep (CodeForest.cons own spare inner rest) (Forest.cons label within others) is =
      (λ i. max (kept_deep inner within (ap inner_of is) i + 1) (kept_deep rest others (ap rest_of is) i))

  -- ---- by their numbers

  pub kept_child : (kept : CodeForest) (program : Forest) (k : ℕ) (child : PlainCodeNode) (node : PlainNode)
      → roomless_code kept ≡ kept_code marks items program → slice_get (code_nodes kept) k ≡ Some child → slice_get (nodes program) k ≡ Some node
      → (child.own ≡ own_code_by marks items node.label) × (roomless_code child.inner ≡ kept_code marks items node.inner)
  kept_child CodeForest.nil program zero child node is found there = absurd (cc)
  kept_child CodeForest.nil program (suc k) child node is found there = absurd (cc)
  kept_child (CodeForest.cons own spare inner rest) Forest.nil zero child node is found there = absurd (cc)
  kept_child (CodeForest.cons own spare inner rest) Forest.nil (suc k) child node is found there = absurd (cc)
  kept_child (CodeForest.cons own spare inner rest) (Forest.cons label within others) zero child node is found there =
      let one : record { own = own; spare = spare; inner = inner } ≡ child = cc in
      let same : record { label = label; inner = within } ≡ node = cc in (
        sym (ap (λ (c : PlainCodeNode). c.own) one) ∙ ap own_of is ∙ ap (λ (n : PlainNode). own_code_by marks items n.label) same,
        sym (ap (λ (c : PlainCodeNode). roomless_code c.inner) one) ∙ ap inner_of is ∙ ap (λ (n : PlainNode). kept_code marks items n.inner) same,
      )
  kept_child (CodeForest.cons own spare inner rest) (Forest.cons label within others) (suc k) child node is found there =
      kept_child rest others k child node (ap rest_of is) found there

  pub kept_there : (kept : CodeForest) (program : Forest) (k : ℕ) (node : PlainNode) → roomless_code kept ≡ kept_code marks items program
      → slice_get (nodes program) k ≡ Some node → (child : PlainCodeNode) × (slice_get (code_nodes kept) k ≡ Some child)
  kept_there kept Forest.nil zero node is there = absurd (cc)
  kept_there kept Forest.nil (suc k) node is there = absurd (cc)
  kept_there CodeForest.nil (Forest.cons label within others) k node is there =
      absurd (differ_less (own_code_by marks items label) (kept_code marks items within) (kept_code marks items others) is)
  kept_there (CodeForest.cons own spare inner rest) (Forest.cons label within others) zero node is there =
      (record { own = own; spare = spare; inner = inner }, refl)
  kept_there (CodeForest.cons own spare inner rest) (Forest.cons label within others) (suc k) node is there =
      kept_there rest others k node (ap rest_of is) there

  -- ---- at a path

  pub kept_path : (path : List ℕ) (k : ℕ) (kept : CodeForest) (program : Forest) → roomless_code kept ≡ kept_code marks items program
      → option_map (λ (n : PlainCodeNode). n.own) (option_and_then (λ (child : PlainCodeNode). kept_below child path) (slice_get (code_nodes kept) k))
      ≡ option_map (λ (n : PlainNode). own_code_by marks items n.label) (node_at program (k ∷ path))
  kept_path path zero CodeForest.nil Forest.nil is = refl
  kept_path path (suc k) CodeForest.nil Forest.nil is = refl
  kept_path path k CodeForest.nil (Forest.cons label within others) is =
      absurd (differ_less (own_code_by marks items label) (kept_code marks items within) (kept_code marks items others) is)
  kept_path path k (CodeForest.cons own spare inner rest) Forest.nil is =
      absurd (differ_more own (roomless_code inner) (roomless_code rest) is)
  kept_path [] zero (CodeForest.cons own spare inner rest) (Forest.cons label within others) is =
      ap (λ (o : PlainOwnCode). Some o) (ap own_of is)
  kept_path (j ∷ path) zero (CodeForest.cons own spare inner rest) (Forest.cons label within others) is =
      kept_path path j inner within (ap inner_of is)
  kept_path path (suc k) (CodeForest.cons own spare inner rest) (Forest.cons label within others) is =
      kept_path path k rest others (ap rest_of is)

  -- ---- where an item comes

  -- what is kept of the node to which the path goes on, without the item
  came_child : (j : ℕ) (path : List ℕ) (k : ℕ) (kept : CodeForest) (after : Forest) (child : PlainCodeNode) (item : PlainNode)
      → roomless_code kept ≡ kept_code marks items (give_way (edit_below (λ other. []) (j ∷ path)) k after)
      → slice_get (code_nodes kept) k ≡ Some child → slice_get (nodes after) k ≡ Some item
      → roomless_code child.inner ≡ kept_code marks items (give_way (edit_below (λ other. []) path) j item.inner)
  came_child j path k kept after child item is found there =
      let other : PlainNode = record item { inner = give_way (edit_below (λ other. []) path) j item.inner } in
      (kept_child kept (give_way (edit_below (λ other. []) (j ∷ path)) k after) k child other is found
      (given_child (edit_below (λ other. []) (j ∷ path)) other k after item there refl)).1

  -- it can come where there is room
  pub fits_added : (path : List ℕ) (k : ℕ) (kept : PlainCodeNode) (after : Forest) (node : PlainNode)
      → roomless_code kept.inner ≡ kept_code marks items (give_way (edit_below (λ other. []) path) k after)
      → node_at after (k ∷ path) ≡ Some node → RoomAt (k ∷ path) kept → PathFits What.Added (k ∷ path) kept after
  fits_added [] k kept after node is there room =
      let (item, found, its) = first_item after k [] node there in
      let many : length (code_nodes kept.inner) ≡ length (nodes (give_way (λ other. []) k after)) =
      kept_many kept.inner (give_way (λ other. []) k after) is in (
        omega (arith, many, given_less k after item found, slice_get_within (nodes after) k item found),
        room,
        ap is_some found,
      )
  fits_added (j ∷ path) k kept after node is there room = λ child item found at.
      let (first, is_first, its) = first_item after k (j ∷ path) node there in
      let same : first ≡ item = same_Some first item (sym is_first ∙ at) in
      let inside : node_at item.inner (j ∷ path) ≡ Some node = subst (λ (n : PlainNode). node_at n.inner (j ∷ path) ≡ Some node) same its in
      fits_added path j child item.inner node (came_child j path k kept.inner after child item is found at) inside (room child found)

  -- and its list is among what is kept
  pub leads_added : (path : List ℕ) (k : ℕ) (kept : PlainCodeNode) (after : Forest) (node : PlainNode)
      → roomless_code kept.inner ≡ kept_code marks items (give_way (edit_below (λ other. []) path) k after)
      → node_at after (k ∷ path) ≡ Some node → LeadsToList (k ∷ path) kept
  leads_added [] k kept after node is there = tt
  leads_added (j ∷ path) k kept after node is there =
      let (item, at, its) = first_item after k (j ∷ path) node there in
      let other : PlainNode = record item { inner = give_way (edit_below (λ other. []) path) j item.inner } in
      let (child, found) =
      kept_there kept.inner (give_way (edit_below (λ other. []) (j ∷ path)) k after) k other is
      (given_child (edit_below (λ other. []) (j ∷ path)) other k after item at refl) in
      (child, found, leads_added path j child item.inner node (came_child j path k kept.inner after child item is found at) its)

  -- ---- where an item goes

  pub fits_dropped : (path : List ℕ) (k : ℕ) (kept : PlainCodeNode) (before after : Forest) (node : PlainNode)
      → roomless_code kept.inner ≡ kept_code marks items before → node_at before (k ∷ path) ≡ Some node
      → PathFits What.Dropped (k ∷ path) kept after
  fits_dropped [] k kept before after node is there =
      let (item, found, its) = first_item before k [] node there in
      omega (arith, kept_many kept.inner before is, slice_get_within (nodes before) k item found)
  fits_dropped (j ∷ path) k kept before after node is there = λ child item found at.
      let (first, is_first, its) = first_item before k (j ∷ path) node there in
      fits_dropped path j child first.inner item.inner node (kept_child kept.inner before k child first is found is_first).1 its

-- ---- where none does

pub fits_node : (path : List ℕ) (k : ℕ) (kept : PlainCodeNode) (after : Forest) → PathFits What.Node (k ∷ path) kept after
fits_node [] k kept after = tt
fits_node (j ∷ path) k kept after = λ child item found at. fits_node path j child item.inner

pub fits_part : (part : ℕ) (path : List ℕ) (k : ℕ) (kept : PlainCodeNode) (after : Forest) → PathFits (What.Part part) (k ∷ path) kept after
fits_part part [] k kept after = tt
fits_part part (j ∷ path) k kept after = λ child item found at. fits_part part path j child item.inner
