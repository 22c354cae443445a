-- The limits of a tree into which a node comes.
use Rattle.std.specs.Prelude.{◌≡◌, refl, ℕ, ◌+◌, ◌<◌, ◌≤◌, max, Bool, true, false, List, length, Some}
use Rattle.std.proofs.Common.{ap, ◌∙◌, subst, arith}
use Rattle.template_tree.specs.declared.tree_fault.TreeFault.{TreeFault}
use Rattle.template_tree.specs.Programs.Limit.{deepest_path, most_slots, most_drawn_slots}
use Rattle.template_tree.specs.Programs.PlainTree.{Forest, PlainNode, PlainTree}
use Rattle.template_tree.specs.Positions.Path.{node_at}
use Rattle.template_tree.specs.Programs.Slots.{count, depth}
use Rattle.template_tree.specs.Programs.Tree.{IsTree}
use Rattle.template_tree.specs.Edits.Edit.{Put, whole}
use Rattle.template_tree.specs.Edits.EditAnswer.{IsWithin, IsOverTreeLimit}
use Rattle.template_tree.specs.Private.Exchange.{MeetsLimit}
use Rattle.template_tree.proofs.Trees.DrawnSlots.{depth_numbered}
use Rattle.template_tree.proofs.Edits.EditedNodes.{deep_enough, no_deeper, edit_same}
use Rattle.template_tree.proofs.Puts.PutEdits.{come, put_by_path, live_after}

depth_whole : (items : Forest) → depth (whole items) ≡ depth items
depth_whole Forest.nil = refl
depth_whole (Forest.cons label inner rest) = λ i. max (depth_whole inner i + 1) (depth_whole rest i)

-- a node that comes is as deep as it was
come_depth : (tree : PlainTree) (old new : PlainNode) → depth (come tree old new).inner ≡ depth new.inner
come_depth tree old new = depth_numbered tree.drawn (whole new.inner) ∙ depth_whole new.inner

-- a path is no longer than the nodes are deep
pub path_short : (items : Forest) (path : List ℕ) (node : PlainNode) → node_at items path ≡ Some node → length path + depth node.inner ≤ depth items
path_short items path node there =
    subst (λ f. length path + depth node.inner ≤ depth f) (edit_same node items path there) (deep_enough node node items path there)

-- the tree after is as deep as what came
pub put_deep : (tree : PlainTree) (path : List ℕ) (old new : PlainNode) → IsTree tree → node_at tree.items path ≡ Some old
    → length path + depth new.inner ≤ depth (Put tree old.label.slot new).items
put_deep tree path old new t there =
    omega (
      arith,
      deep_enough old (come tree old new) tree.items path there,
      come_depth tree old new,
      ap depth (put_by_path tree path old new t there),
    )

-- and no deeper than it may be
pub put_shallow : (tree : PlainTree) (path : List ℕ) (old new : PlainNode) → IsTree tree → node_at tree.items path ≡ Some old
    → length path + depth new.inner ≤ deepest_path → depth (Put tree old.label.slot new).items ≤ deepest_path
put_shallow tree path old new t there few =
    let inside : length path + depth (come tree old new).inner ≤ deepest_path = omega (arith, few, come_depth tree old new) in
    omega (
      arith,
      no_deeper deepest_path old (come tree old new) tree.items path there t.shallow inside,
      ap depth (put_by_path tree path old new t there),
    )

-- a node may come where it is shallow and small enough
pub put_within : (tree : PlainTree) (path : List ℕ) (old new : PlainNode) → IsTree tree → node_at tree.items path ≡ Some old
    → length path + depth new.inner ≤ deepest_path → tree.live + count new.inner ≤ most_slots + count old.inner
    → tree.drawn + count new.inner ≤ most_drawn_slots → IsWithin (Put tree old.label.slot new)
put_within tree path old new t there shallow few drawn =
    record {
      shallow = put_shallow tree path old new t there shallow;
      few = omega (arith, live_after tree path old new t there, few);
      drawn_few = drawn;
    }

-- the limit that is met first is the one that the tree after would be over
pub put_over : (tree : PlainTree) (path : List ℕ) (old new : PlainNode) (shallow : Bool) (slots : ℕ) (fault : TreeFault)
    → IsTree tree → node_at tree.items path ≡ Some old → count old.inner ≡ 0
    → (shallow ≡ true → length path + depth new.inner ≤ deepest_path) → (shallow ≡ false → deepest_path < length path + depth new.inner)
    → slots ≤ count new.inner → (slots ≤ most_slots → count new.inner ≡ slots)
    → MeetsLimit shallow (tree.live + slots) (tree.drawn + slots) fault → IsOverTreeLimit fault (Put tree old.label.slot new)
put_over tree path old new shallow slots TreeFault.NotHere t there empty shallow_is deep_is fewer exact meets = absurd meets
put_over tree path old new shallow slots TreeFault.TooDeep t there empty shallow_is deep_is fewer exact meets =
    omega (arith, deep_is meets, put_deep tree path old new t there)
put_over tree path old new shallow slots TreeFault.TooLarge t there empty shallow_is deep_is fewer exact meets =
    (put_shallow tree path old new t there (shallow_is meets.0), omega (arith, meets.1, fewer, empty, live_after tree path old new t there))
put_over tree path old new shallow slots TreeFault.SlotsUsedUp t there empty shallow_is deep_is fewer exact meets =
    let same : count new.inner ≡ slots = exact (omega (arith, meets.1)) in (
      put_shallow tree path old new t there (shallow_is meets.0),
      omega (arith, meets.1, same, empty, live_after tree path old new t there),
      omega (arith, meets.2, same),
    )
put_over tree path old new shallow slots TreeFault.OutOfMemory t there empty shallow_is deep_is fewer exact meets = absurd meets

-- and where none is met, it is over none
pub put_under : (tree : PlainTree) (path : List ℕ) (old new : PlainNode) (shallow : Bool) (slots : ℕ)
    → IsTree tree → node_at tree.items path ≡ Some old → count old.inner ≡ 0
    → (shallow ≡ true → length path + depth new.inner ≤ deepest_path) → (slots ≤ most_slots → count new.inner ≡ slots)
    → (shallow ≡ true) × (tree.live + slots ≤ most_slots) × (tree.drawn + slots ≤ most_drawn_slots) → IsWithin (Put tree old.label.slot new)
put_under tree path old new shallow slots t there empty shallow_is exact under =
    let same : count new.inner ≡ slots = exact (omega (arith, under.1)) in
    put_within tree path old new t there (shallow_is under.0) (omega (arith, same, under.1)) (omega (arith, same, under.2))
