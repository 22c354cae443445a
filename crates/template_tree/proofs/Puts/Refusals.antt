-- Why an edit is refused at a node where its limits are asked.
use Rattle.std.specs.Prelude.{◌≡◌, ℕ, ◌+◌, ◌-◌, ◌<◌, ◌≤◌, min, true, false, Bool, List, length, Option, Some, IsSomeAnd, ◌↔◌, IsTrue}
use Rattle.std.proofs.Common.{ap, sym, arith, ◌∙◌, inl, inr}
use Rattle.std.proofs.Math.Bool.{false≢true}
use Rattle.std.proofs.lemmas.Bool.{cases_lt}
use Rattle.template_tree.specs.declared.tree_fault.TreeFault.{TreeFault}
use Rattle.template_tree.specs.Programs.Limit.{deepest_path, most_slots, most_drawn_slots}
use Rattle.template_tree.specs.Programs.PlainTree.{Forest, PlainNode, PlainTree, roomless_node, roomless_tree}
use Rattle.template_tree.specs.Positions.Path.{node_at}
use Rattle.template_tree.specs.Programs.Program.{IsSubtree, sort_of}
use Rattle.template_tree.specs.Programs.Slots.{count, depth}
use Rattle.template_tree.specs.Programs.Tree.{IsTree}
use Rattle.template_tree.specs.Edits.Edit.{Put}
use Rattle.template_tree.specs.Edits.Elision.{is_comment}
use Rattle.template_tree.specs.Private.Exchange.{MayReplace, MeetsLimit}
use Rattle.template_tree.specs.Edits.TreeEdit.{TreeEdit, tree_after}
use Rattle.template_tree.specs.Edits.EditAnswer.{IsHoleFor, IsOverTreeLimit, IsWithin, Refuses}
use Rattle.template_tree.proofs.Puts.PutEdits.{at_there}
use Rattle.template_tree.proofs.Puts.PutLimits.{put_over, put_under}
use Rattle.template_tree.proofs.Puts.Holes.{hole_empty, hole_no_comment, hole_sort, not_both_second}
use Rattle.template_tree.proofs.Room.Rooms.{depth_roomless}
use Rattle.template_tree.proofs.Room.RoomlessEdits.{roomless_put}
use Rattle.template_tree.proofs.Trees.Subtrees.{subtree_at}

-- the node is what it has to be, and the tree after would be over a limit
pub refused_by : (fault : TreeFault) (edit : TreeEdit) (there : Option PlainNode) (Here : PlainNode → Type 0) (before : PlainTree) (node : PlainNode)
    → there ≡ Some node → Here node → IsOverTreeLimit fault (tree_after edit before node.label.slot) → Refuses edit there Here before fault
refused_by TreeFault.NotHere edit there Here before node at here over = absurd over
refused_by TreeFault.TooDeep edit there Here before node at here over =
    at_there there (λ n. Here n × IsOverTreeLimit TreeFault.TooDeep (tree_after edit before n.label.slot)) node at (here, over)
refused_by TreeFault.TooLarge edit there Here before node at here over =
    at_there there (λ n. Here n × IsOverTreeLimit TreeFault.TooLarge (tree_after edit before n.label.slot)) node at (here, over)
refused_by TreeFault.SlotsUsedUp edit there Here before node at here over =
    at_there there (λ n. Here n × IsOverTreeLimit TreeFault.SlotsUsedUp (tree_after edit before n.label.slot)) node at (here, over)
refused_by TreeFault.OutOfMemory edit there Here before node at here over =
    at_there there (λ n. Here n × IsOverTreeLimit TreeFault.OutOfMemory (tree_after edit before n.label.slot)) node at (here, over)

-- what was asked of a node before it comes to the end of a path of this length: whether it is shallow enough, and how
-- many slots it brings, as far as that is counted
pub record Asked (path : ℕ) (node : PlainNode) (shallow : Bool) (slots : ℕ) : Type 0 where
  pub short : shallow ≡ true → path + depth node.inner ≤ deepest_path
  pub deep : shallow ≡ false → deepest_path < path + depth node.inner
  pub fewer : slots ≤ count node.inner
  pub exact : slots ≤ most_slots → count node.inner ≡ slots

-- a hole is there, and a limit is met
pub limit_refused : (tree : PlainTree) (path : List ℕ) (there node : PlainNode) (shallow : Bool) (slots : ℕ) (fault : TreeFault) → IsTree tree
    → node_at tree.items path ≡ Some there → IsHoleFor node.label.kind there → Asked (length path) node shallow slots
    → MeetsLimit shallow (tree.live + slots) (tree.drawn + slots) fault
    → Refuses (TreeEdit.put node) (node_at tree.items path) (IsHoleFor node.label.kind) tree fault
limit_refused tree path there node shallow slots fault t at here asked meets =
    refused_by fault (TreeEdit.put node) (node_at tree.items path) (IsHoleFor node.label.kind) tree there at here
    (put_over tree path there node shallow slots fault t at
    (hole_empty (sort_of node.label.kind) there (subtree_at tree.items path there t.program.sound at) here)
    asked.short asked.deep asked.fewer asked.exact meets)

-- a hole is there, and no limit is met
pub limit_kept : (tree : PlainTree) (path : List ℕ) (there node : PlainNode) (shallow : Bool) (slots : ℕ) → IsTree tree
    → node_at tree.items path ≡ Some there → IsHoleFor node.label.kind there → Asked (length path) node shallow slots
    → (shallow ≡ true) × (tree.live + slots ≤ most_slots) × (tree.drawn + slots ≤ most_drawn_slots) → IsWithin (Put tree there.label.slot node)
limit_kept tree path there node shallow slots t at here asked under =
    put_under tree path there node shallow slots t at
    (hole_empty (sort_of node.label.kind) there (subtree_at tree.items path there t.program.sound at) here)
    asked.short asked.exact under

-- so the node may come
pub may_come : (tree : PlainTree) (path : List ℕ) (there node : PlainNode) → node_at tree.items path ≡ Some there
    → IsHoleFor node.label.kind there → IsSubtree node → IsWithin (Put tree there.label.slot node)
    → IsSomeAnd (node_at tree.items path) (MayReplace tree node)
may_come tree path there node at here sound within =
    at_there (node_at tree.items path) (MayReplace tree node) there at
    record {
      subtree = sound;
      sort = sym (hole_sort (sort_of node.label.kind) there.label.kind here);
      apart =
          not_both_second (is_comment node.label.kind) (is_comment there.label.kind)
          (hole_no_comment (sort_of node.label.kind) there.label.kind here);
      within = within;
    }

-- what a test of depth says
pub shallow_where : (shallow : Bool) (path deep : ℕ) → (IsTrue shallow ↔ (deep ≤ deepest_path - path)) → path ≤ deepest_path
    → shallow ≡ true → path + deep ≤ deepest_path
shallow_where shallow path deep test short is = omega (arith, test.0 is, short)

pub deep_where : (shallow : Bool) (path deep : ℕ) → (IsTrue shallow ↔ (deep ≤ deepest_path - path)) → path ≤ deepest_path
    → shallow ≡ false → deepest_path < path + deep
deep_where shallow path deep test short is =
    elim (cases_lt deepest_path (path + deep)) [
      | inl more ↦ more
      | inr flat ↦ absurd (false≢true (sym is ∙ test.1 (omega (arith, flat, short))))
    ]

-- what a count up to the limit says
pub no_more : (slots all : ℕ) → slots ≡ min all (most_slots + 1) → slots ≤ all
no_more slots all is = omega (arith, is)

pub exactly : (slots all : ℕ) → slots ≡ min all (most_slots + 1) → slots ≤ most_slots → all ≡ slots
exactly slots all is few = omega (arith, is, few)

-- what was asked of a node that is put in
pub asked_of : (path len : ℕ) (node : PlainNode) (inner : Forest) (shallow : Bool) (slots : ℕ) → len ≡ path → path ≤ deepest_path → inner ≡ node.inner
    → (IsTrue shallow ↔ (depth inner ≤ deepest_path - len)) → slots ≡ min (count node.inner) (most_slots + 1) → Asked path node shallow slots
asked_of path len node inner shallow slots len_is few is test slots_is =
    let own : IsTrue shallow ↔ (depth node.inner ≤ deepest_path - path) =
    ((λ h. omega (arith, test.0 h, ap depth is, len_is)), (λ h. test.1 (omega (arith, h, ap depth is, len_is))))
    in
    record {
      short = shallow_where shallow path (depth node.inner) own few;
      deep = deep_where shallow path (depth node.inner) own few;
      fewer = no_more slots (count node.inner) slots_is;
      exact = exactly slots (count node.inner) slots_is;
    }

-- the same limits hold where the one comes, or another that is the same but for the room of its lists
pub within_like : (tree : PlainTree) (slot : ℕ) (one other : PlainNode) → roomless_node one ≡ roomless_node other → IsWithin (Put tree slot one)
    → IsWithin (Put tree slot other)
within_like tree slot one other same w =
    let e : roomless_tree (Put tree slot one) ≡ roomless_tree (Put tree slot other) = roomless_put tree slot one other same in
    record {
      shallow =
          omega (
            arith,
            w.shallow,
            depth_roomless (Put tree slot one).items,
            depth_roomless (Put tree slot other).items,
            ap (λ (t : PlainTree). depth t.items) e,
          );
      few = omega (arith, w.few, ap (λ (t : PlainTree). t.live) e);
      drawn_few = omega (arith, w.drawn_few, ap (λ (t : PlainTree). t.drawn) e);
    }
