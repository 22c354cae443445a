-- An edit that was made can be reverted.
use Rattle.std.specs.Prelude.{◌≡◌, refl, ℕ, ◌+◌, ◌≤◌, List, Option, Some, None, IsSome, IsSomeAnd, is_some, option_map}
use Rattle.std.proofs.Common.{ap, sym, ◌∙◌, subst, arith}
use Rattle.std.proofs.Math.Bool.{false≢true}
use Rattle.template_tree.specs.Edits.Edit.{Differs, changed_in, edit_at, procedure_of}
use Rattle.template_tree.specs.Edits.Receipt.{PlainReceipt, PlainUndoing, undone}
use Rattle.template_tree.specs.Edits.Reversal.{Back, Before, CanRevert, IsUndoneIn, coming, comments, what_undone}
use Rattle.template_tree.specs.Positions.Path.{node_at}
use Rattle.template_tree.specs.Programs.Limit.{most_drawn_slots}
use Rattle.template_tree.specs.Programs.PlainTree.{Forest, PlainNode, PlainTree, roomless, roomless_node, roomless_tree}
use Rattle.template_tree.specs.Programs.Slots.{times}
use Rattle.template_tree.specs.Programs.Tree.{IsTree}
use Rattle.template_tree.proofs.Edits.SameEdits.{edit_nowhere}
use Rattle.template_tree.proofs.Puts.PutTrees.{below_more}
use Rattle.template_tree.proofs.Reversals.CommentCounts.{comments_roomless}
use Rattle.template_tree.proofs.Reversals.EditedElision.{undone_alike}
use Rattle.template_tree.proofs.Reversals.ElidedComments.{ElidedAlike, alike_kept}
use Rattle.template_tree.proofs.Room.RoomlessChanges.{differs_roomless}
use Rattle.template_tree.proofs.Room.RoomlessNodes.{node_roomless}
use Rattle.template_tree.proofs.Room.RoomlessTrees.{tree_without_room}

-- something stands without room where it stands with it
pub some_roomless : (items : Forest) (path : List ℕ) → IsSome (node_at items path) → IsSome (node_at (roomless items) path)
some_roomless items path some = ap is_some (node_roomless items path) ∙ mapped (node_at items path) some
  where
    mapped : (o : Option PlainNode) → IsSome o → IsSome (option_map roomless_node o)
    mapped None h = h
    mapped (Some node) h = h

pub some_with_room : (items : Forest) (path : List ℕ) → IsSome (node_at (roomless items) path) → IsSome (node_at items path)
some_with_room items path some = mapped (node_at items path) (sym (ap is_some (node_roomless items path)) ∙ some)
  where
    mapped : (o : Option PlainNode) → IsSome (option_map roomless_node o) → IsSome o
    mapped None h = h
    mapped (Some node) h = h

-- a change that isn't for nothing is made at a node
pub some_place : (change : PlainNode → List PlainNode) (items : Forest) (path : List ℕ) (o : Option PlainNode) → node_at items path ≡ o
    → (edit_at change path items ≡ items → ⊥) → IsSome o
some_place change items path None e changed = absurd (changed (edit_nowhere change items path e))
some_place change items path (Some node) e changed = refl

-- seen from the other side comments are elided alike, too
alike_back : (one other : Forest) → ElidedAlike one other → ElidedAlike other one
alike_back one other alike = λ slot a b found there. sym (alike slot b a there found)

-- where comments are elided alike, that tree comes back
pub back_is : (tree earlier : PlainTree) → ((slot : ℕ) → times slot earlier.items ≤ 1) → ElidedAlike tree.items earlier.items
    → Back tree earlier ≡ record earlier { drawn = tree.drawn }
back_is tree earlier once alike =
    ap (λ items. let t : PlainTree = record earlier { items = items; drawn = tree.drawn } in t) (alike_kept tree.items earlier.items once alike)

-- a tree is one with more slots drawn
pub more_drawn : (tree : PlainTree) (drawn : ℕ) → IsTree tree → tree.drawn ≤ drawn → drawn ≤ most_drawn_slots
    → IsTree record tree { drawn = drawn }
more_drawn tree drawn t more few =
    record {
      program = t.program;
      shallow = t.shallow;
      few = t.few;
      drawn_few = few;
      drawn = below_more tree.drawn drawn tree.items more t.drawn;
      once = t.once;
      main = t.main;
      live = t.live;
    }

-- the tree that a receipt undoes to, with as many slots drawn as are now
abbrev pub undone_now : PlainTree → PlainReceipt → Option PlainNode → PlainTree
undone_now tree receipt back = record (undone receipt back tree) { drawn = tree.drawn }

-- the node that is there
pub some_node : (o : Option PlainNode) → IsSome o → (node : PlainNode) × (o ≡ Some node)
some_node None some = absurd (false≢true some)
some_node (Some node) some = (node, refl)

-- something is there of which this holds
pub and_some : (o : Option PlainNode) (Holds : PlainNode → Type 0) → IsSomeAnd o Holds → IsSome o
and_some None Holds h = absurd h
and_some (Some node) Holds h = refl

-- what holds of a node that is there
pub node_of : (o : Option PlainNode) (Holds : PlainNode → Type 0) → IsSomeAnd o Holds → (node : PlainNode) × (o ≡ Some node) × Holds node
node_of None Holds h = absurd h
node_of (Some node) Holds h = (node, refl, h)

-- that is the tree before the edit, where no comment that comes back stands in the tree
pub before_is : (tree : PlainTree) (receipt : PlainReceipt) (back : Option PlainNode) (Holds : PlainNode → Type 0)
    → IsSomeAnd (node_at tree.items receipt.path) Holds → ((slot : ℕ) → times slot tree.items ≤ 1)
    → ((slot : ℕ) → times slot (undone receipt back tree).items ≤ 1)
    → ((slot : ℕ) → comments slot tree.items + comments slot (coming receipt.undoing back) ≤ 1)
    → Before tree receipt back ≡ undone_now tree receipt back
before_is tree receipt back Holds there once once_before apart =
    let node = node_of (node_at tree.items receipt.path) Holds there in
    let gone : Forest = (undone receipt back tree).items in
    back_is tree (undone receipt back tree) once_before
    (alike_back gone tree.items (undone_alike receipt.undoing back tree.items receipt.path node.0 node.1 once apart))

-- where a node stands at which an edit is undone
pub stands_undone : (items : Forest) (path : List ℕ) (node : PlainNode) (slot own : ℕ) (undoing : PlainUndoing) (back : Option PlainNode)
    → node_at items path ≡ Some node → slot ≡ own → IsUndoneIn own undoing back (roomless_node node)
    → IsSomeAnd (node_at (roomless items) path) (IsUndoneIn slot undoing back)
stands_undone items path node slot own undoing back e is undone_so =
    subst (λ o. IsSomeAnd o (IsUndoneIn slot undoing back)) (sym (node_roomless items path ∙ ap (option_map roomless_node) e))
    (subst (λ s. IsUndoneIn s undoing back (roomless_node node)) (sym is) undone_so)

-- where some node stands
pub some_and : (o : Option PlainNode) (Holds : PlainNode → Type 0) → IsSome o → ((node : PlainNode) → Holds node) → IsSomeAnd o Holds
some_and None Holds some h = absurd (false≢true some)
some_and (Some node) Holds some h = h node

-- an edit that was made can be reverted
pub edit_can_revert : (before after : PlainTree) (receipt : PlainReceipt) (back : Option PlainNode) → IsTree before → IsTree after
    → undone receipt back (roomless_tree after) ≡ roomless_tree before → Differs before after receipt.change
    → receipt.change.what ≡ what_undone receipt.undoing
    → IsSomeAnd (node_at (roomless after.items) receipt.path) (IsUndoneIn receipt.change.slot.0 receipt.undoing back)
    → ((slot : ℕ) → comments slot after.items + comments slot (coming receipt.undoing back) ≤ 1) → before.drawn ≤ after.drawn
    → CanRevert receipt back (roomless_tree after)
edit_can_revert before after receipt back was is undoes differs what there apart drawn =
    let old : PlainTree = roomless_tree before in
    let new : PlainTree = roomless_tree after in
    let old_tree : IsTree old = tree_without_room before was in
    let new_tree : IsTree new = tree_without_room after is in
    let bare : (slot : ℕ) → comments slot new.items + comments slot (coming receipt.undoing back) ≤ 1 =
    λ slot. omega (arith, apart slot, comments_roomless slot after.items) in
    let once : (slot : ℕ) → times slot (undone receipt back new).items ≤ 1 =
    subst (λ (tree : PlainTree). (slot : ℕ) → times slot tree.items ≤ 1) (sym undoes) old_tree.once in
    let comes : Before new receipt back ≡ record old { drawn = after.drawn } =
    before_is new receipt back (IsUndoneIn receipt.change.slot.0 receipt.undoing back) there new_tree.once once bare
    ∙ ap (λ (tree : PlainTree). let t : PlainTree = record tree { drawn = after.drawn } in t) undoes in
    let seen : Differs old new receipt.change = differs_roomless before after receipt.change differs in
    record {
      what = what;
      there = there;
      within =
          subst
          (λ (tree : PlainTree).
          procedure_of (changed_in receipt.change.what tree.items new.items) receipt.change.slot.0 ≡ Some receipt.change.procedure.0)
          (sym undoes) seen.within;
      before = subst IsTree (sym comes) (more_drawn old after.drawn old_tree drawn is.drawn_few);
      apart = bare;
    }
