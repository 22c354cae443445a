-- Edits that were prepared for the names that are kept of a tree: each makes them those of the tree after its change, and
-- can be put in place.
use Rattle.std.specs.Prelude.{◌≡◌, refl, ℕ, zero, suc, ◌+◌, ◌<◌, ◌≤◌, ◌==◌, Bool, true, false, if◌then◌else◌, List, [], ◌∷◌, Option, Some, None, option_map}
use Rattle.std.proofs.Common.{ap, sym, ◌∙◌, subst, arith}
use Rattle.std.proofs.lemmas.Option.{none-some}
use Rattle.plcs_grammar.specs.PlainPhrase.{PlainPhrase}
use Rattle.template_tree.specs.declared.change.Change.{Change}
use Rattle.template_tree.specs.declared.change.What.{What}
use Rattle.template_tree.specs.Edits.Edit.{DifferBy, changed_in, edit_at, edit_below, edit_slot, give_way, procedure_of}
use Rattle.template_tree.specs.Laws.RoomLaws.{NodesIgnoreRoom, SlotsIgnoreRoom}
use Rattle.template_tree.specs.Laws.TreeLaws.{SlotEditIsPathEdit}
use Rattle.template_tree.specs.Positions.Path.{node_at, slot_at}
use Rattle.template_tree.specs.Programs.Limit.{deepest_path, most_slots}
use Rattle.template_tree.specs.Programs.Part.{with_part}
use Rattle.template_tree.specs.Programs.PlainTree.{Forest, Label, PlainNode, PlainTree, roomless, roomless_node}
use Rattle.template_tree.specs.Programs.Slots.{times}
use Rattle.template_tree.specs.Programs.Tree.{IsTree}
use Rattle.decl_table.specs.DeclEdit.{MayMendNames, NameMend, PlainNameEdit, names_mended}
use Rattle.decl_table.specs.Names.{NameForest, NameLabel, names_of}
use Rattle.decl_table.specs.Private.ChangeBefore.{AreNamesBefore, IsBeforeChange}
use Rattle.decl_table.specs.Private.NamePaths.{count_beside, name_count, name_depth, name_times, names_at}
use Rattle.decl_table.specs.Private.PlainNameNode.{PlainNameNode, name_node_of, node_names}
use Rattle.decl_table.proofs.MendedNames.{add_names, drop_names, label_names, may_add, may_at, names_count, names_deep, names_slot, names_times, put_names, set_names}
use Rattle.decl_table.proofs.SlotNodes.{node_of_slot, replaced, stands}

-- the room of lists plays no part in the names that are kept
pub names_roomless : (items : Forest) → names_of (roomless items) ≡ names_of items
names_roomless Forest.nil = refl
names_roomless (Forest.cons label inner rest) = λ i. NameForest.cons (label_names label) (names_roomless inner i) (names_roomless rest i)

pub same_names : (one other : Forest) → roomless one ≡ roomless other → names_of one ≡ names_of other
same_names one other same = sym (names_roomless one) ∙ ap names_of same ∙ names_roomless other

times_roomless : (slot : ℕ) (items : Forest) → times slot (roomless items) ≡ times slot items
times_roomless slot Forest.nil = refl
times_roomless slot (Forest.cons label inner rest) =
    λ i. (if label.slot == slot then 1 else 0) + (times_roomless slot inner i + times_roomless slot rest i)

pub same_times : (slot : ℕ) (one other : Forest) → roomless one ≡ roomless other → times slot one ≡ times slot other
same_times slot one other same = sym (times_roomless slot one) ∙ ap (times slot) same ∙ times_roomless slot other

pub node_roomless : (one other : PlainNode) → roomless_node one ≡ roomless_node other → name_node_of one ≡ name_node_of other
node_roomless one other same =
    let kept : (node : PlainNode) → name_node_of (roomless_node node) ≡ name_node_of node =
    λ node. (λ i. record { label = label_names node.label; inner = names_roomless node.inner i }) in
    sym (kept one) ∙ ap name_node_of same ∙ kept other

abbrev taken : PlainNode → Option PlainNode → PlainNode
taken node None = node
taken node (Some there) = there

pub same_there : (one other : Option PlainNode) (node there : PlainNode) → option_map roomless_node one ≡ option_map roomless_node other
    → one ≡ Some node → other ≡ Some there → roomless_node node ≡ roomless_node there
same_there one other node there same e f =
    ap (taken (roomless_node node)) (sym (ap (option_map roomless_node) e) ∙ same ∙ ap (option_map roomless_node) f)

-- an edit that was prepared makes the names those of the tree, and can be put in place
pub record IsPrepared (edit : PlainNameEdit) (names : NameForest) (tree : PlainTree) : Type 0 where
  pub made : names_mended edit.mend edit.path names ≡ names_of tree.items
  pub there : MayMendNames edit.mend edit.path names

pub there_item : (o : Option PlainNameNode) (slot : ℕ) → option_map (λ item. item.label.slot) o ≡ Some slot → (item : PlainNameNode) × (o ≡ Some item)
there_item None slot there = absurd (none-some slot there)
there_item (Some item) slot there = (item, refl)

-- the edit by slot is the one at the path of the slot
pub by_path : SlotEditIsPathEdit → (change : PlainNode → List PlainNode) (items : Forest) (path : List ℕ) (slot : ℕ)
    → times slot items ≤ 1 → slot_at items path ≡ Some slot → edit_slot slot change items ≡ edit_at change path items
by_path law change items path slot once there =
    let found = node_of_slot (node_at items path) slot there in
    sym (ap (λ s. edit_slot s change items) found.2)
    ∙ law change items path found.0 (subst (λ s. times s items ≤ 1) (sym found.2) once) found.1

-- the slot of a path is there among the names before
pub slot_before : (names : NameForest) (before : PlainTree) (path : List ℕ) (slot : ℕ) → names ≡ names_of before.items → slot_at before.items path ≡ Some slot
    → option_map (λ item. item.label.slot) (names_at names path) ≡ Some slot
slot_before names before path slot agrees at =
    ap (λ l. option_map (λ (item : PlainNameNode). item.label.slot) (names_at l path)) agrees ∙ names_slot before.items path ∙ at

-- another node came into a slot
pub prepared_put : SlotEditIsPathEdit → NodesIgnoreRoom → SlotsIgnoreRoom → (names : NameForest) (slot : ℕ) (after : PlainTree) → IsTree after
    → IsBeforeChange What.Node slot names after → (path : List ℕ) (node : PlainNode) → slot_at after.items path ≡ Some slot
    → node_at after.items path ≡ Some node → (item : PlainNameNode) → item ≡ name_node_of node
    → IsPrepared record { path = path; mend = NameMend.put (node_names item) } names after
prepared_put law nodes slots names slot after is b [] node at there item item_is = absurd (none-some node there)
prepared_put law nodes slots names slot after is b (k ∷ path) node at there item item_is =
    let before = b.before in
    let new = b.differ.0 in
    let edited = edit_slot slot (λ _. new ∷ []) before.items in
    let same : roomless after.items ≡ roomless edited = b.differ.2 in
    let once : times slot edited ≤ 1 = omega (arith, same_times slot after.items edited same, is.once slot) in
    let at_edited : slot_at edited (k ∷ path) ≡ Some slot =
    sym (slots edited (k ∷ path)) ∙ sym (ap (λ f. slot_at f (k ∷ path)) same) ∙ slots after.items (k ∷ path) ∙ at in
    let old = replaced new slot before.items (k ∷ path) b.differ.1 once at_edited in
    let at_before : slot_at before.items (k ∷ path) ≡ Some slot =
    ap (option_map (λ (n : PlainNode). n.label.slot)) old.1 ∙ ap Some old.2 in
    let by : edited ≡ edit_at (λ _. new ∷ []) (k ∷ path) before.items =
    by_path law (λ _. new ∷ []) before.items (k ∷ path) slot (b.tree.once slot) at_before in
    let alike = same_there (node_at after.items (k ∷ path)) (node_at edited (k ∷ path)) node new
    (sym (nodes after.items (k ∷ path)) ∙ ap (λ f. node_at f (k ∷ path)) same ∙ nodes edited (k ∷ path)) there old.3 in
    let kept : item ≡ name_node_of new = item_is ∙ node_roomless node new alike in
    let found = there_item (names_at names (k ∷ path)) slot (slot_before names before (k ∷ path) slot b.agrees at_before) in
    record {
      made =
          ap (λ (o : PlainNameNode). names_mended (NameMend.put (node_names o)) (k ∷ path) names) kept
          ∙ ap (names_mended (NameMend.put (node_names (name_node_of new))) (k ∷ path)) b.agrees
          ∙ sym (put_names new before.items k path) ∙ sym (ap names_of by) ∙ sym (same_names after.items edited same);
      there = may_at (NameMend.put (node_names item)) (λ l n within. within) names k path found.0 found.1;
    }

-- an item came into a list
pub prepared_add : SlotEditIsPathEdit → (names : NameForest) (slot : ℕ) (after : PlainTree) → IsTree after
    → IsBeforeChange What.Added slot names after → (path : List ℕ) (node : PlainNode) → slot_at after.items path ≡ Some slot
    → node_at after.items path ≡ Some node → (item : PlainNameNode) (room : ℕ) → item ≡ name_node_of node
    → count_beside path names < room
    → IsPrepared record { path = path; mend = NameMend.add (node_names item) room } names after
prepared_add law names slot after is b [] node at there item room item_is fits = absurd (none-some node there)
prepared_add law names slot after is b (k ∷ path) node at there item room item_is fits =
    let before = b.before in
    let edited = edit_slot slot (λ _. []) after.items in
    let same : roomless before.items ≡ roomless edited = b.differ.1 in
    let by : edited ≡ edit_at (λ _. []) (k ∷ path) after.items = by_path law (λ _. []) after.items (k ∷ path) slot (is.once slot) at in
    let kept : names ≡ names_of (edit_at (λ _. []) (k ∷ path) after.items) =
    b.agrees ∙ same_names before.items edited same ∙ ap names_of by in
    record {
      made =
          ap (λ (o : PlainNameNode). names_mended (NameMend.add (node_names o) room) (k ∷ path) names) item_is
          ∙ ap (names_mended (NameMend.add (node_names (name_node_of node)) room) (k ∷ path)) kept
          ∙ sym (add_names node room after.items k path there);
      there =
          subst (λ l. MayMendNames (NameMend.add (node_names item) room) (k ∷ path) l) (sym kept)
          (may_add (node_names item) room node after.items k path there (subst (λ l. count_beside (k ∷ path) l < room) kept fits));
    }

-- an item went
pub prepared_drop : SlotEditIsPathEdit → (names : NameForest) (slot : ℕ) (after : PlainTree) → IsTree after
    → IsBeforeChange What.Dropped slot names after → (path : List ℕ)
    → option_map (λ item. item.label.slot) (names_at names path) ≡ Some slot
    → IsPrepared record { path = path; mend = NameMend.drop } names after
prepared_drop law names slot after is b [] there = absurd (none-some slot there)
prepared_drop law names slot after is b (k ∷ path) there =
    let before = b.before in
    let edited = edit_slot slot (λ _. []) before.items in
    let same : roomless after.items ≡ roomless edited = b.differ.1 in
    let at : slot_at before.items (k ∷ path) ≡ Some slot =
    sym (names_slot before.items (k ∷ path))
    ∙ sym (ap (λ l. option_map (λ (item : PlainNameNode). item.label.slot) (names_at l (k ∷ path))) b.agrees) ∙ there in
    let by : edited ≡ edit_at (λ _. []) (k ∷ path) before.items =
    by_path law (λ _. []) before.items (k ∷ path) slot (b.tree.once slot) at in
    let found = there_item (names_at names (k ∷ path)) slot there in
    record {
      made =
          ap (names_mended NameMend.drop (k ∷ path)) b.agrees
          ∙ sym (drop_names before.items k path) ∙ sym (ap names_of by) ∙ sym (same_names after.items edited same);
      there = may_at NameMend.drop (λ l n within. within) names k path found.0 found.1;
    }

-- ---- a part that was set

-- the nodes after it, by whether the first one is in the slot
abbrev set_or_not : (is_own : Bool) (part : ℕ) (place : Option PlainPhrase) (label : Label) (inner inside others : Forest) → Forest
set_or_not is_own part place label inner inside others =
    if is_own
    then Forest.cons (with_part part place record { label = label; inner = inner }).label inner others
    else Forest.cons label inside others

part_first : (is_own : Bool) (part : ℕ) (place : Option PlainPhrase) (label : Label) (inner rest inside others : Forest) (k : ℕ) (path : List ℕ)
    → ((way : List ℕ) → slot_at inside way ≡ slot_at inner way) → ((way : List ℕ) → slot_at others way ≡ slot_at rest way)
    → slot_at (set_or_not is_own part place label inner inside others) (k ∷ path) ≡ slot_at (Forest.cons label inner rest) (k ∷ path)
part_first true part place label inner rest inside others zero [] within behind = refl
part_first true part place label inner rest inside others zero (j ∷ path) within behind = refl
part_first true part place label inner rest inside others (suc k) path within behind = behind (k ∷ path)
part_first false part place label inner rest inside others zero [] within behind = refl
part_first false part place label inner rest inside others zero (j ∷ path) within behind = within (j ∷ path)
part_first false part place label inner rest inside others (suc k) path within behind = behind (k ∷ path)

-- the slots stay
pub part_slot : (slot part : ℕ) (place : Option PlainPhrase) (items : Forest) (path : List ℕ)
    → slot_at (edit_slot slot (λ node. with_part part place node ∷ []) items) path ≡ slot_at items path
part_slot slot part place Forest.nil [] = refl
part_slot slot part place Forest.nil (k ∷ path) = refl
part_slot slot part place (Forest.cons label inner rest) [] = refl
part_slot slot part place (Forest.cons label inner rest) (k ∷ path) =
    let change = λ (node : PlainNode). with_part part place node ∷ [] in
    part_first (label.slot == slot) part place label inner rest (edit_slot slot change inner) (edit_slot slot change rest) k path
    (λ way. part_slot slot part place inner way) (λ way. part_slot slot part place rest way)

-- the node has the part
pub part_there : (part : ℕ) (place : Option PlainPhrase) (items : Forest) (k : ℕ) (path : List ℕ) (old : PlainNode) → node_at items (k ∷ path) ≡ Some old
    → node_at (give_way (edit_below (λ node. with_part part place node ∷ []) path) k items) (k ∷ path) ≡ Some (with_part part place old)
part_there part place Forest.nil k path old there = absurd (none-some old there)
part_there part place (Forest.cons label inner rest) zero [] old there = ap (λ (n : PlainNode). Some (with_part part place n)) (ap (taken old) there)
part_there part place (Forest.cons label inner rest) zero (j ∷ path) old there = part_there part place inner j path old there
part_there part place (Forest.cons label inner rest) (suc k) path old there = part_there part place rest k path old there

pub prepared_set : SlotEditIsPathEdit → NodesIgnoreRoom → SlotsIgnoreRoom → (names : NameForest) (slot part : ℕ) (after : PlainTree) → IsTree after
    → IsBeforeChange (What.Part part) slot names after → (path : List ℕ) (node : PlainNode) → slot_at after.items path ≡ Some slot
    → node_at after.items path ≡ Some node → (item : PlainNameNode) → item.label ≡ (name_node_of node).label
    → IsPrepared record { path = path; mend = NameMend.set_parts item.label } names after
prepared_set law nodes slots names slot part after is b [] node at there item item_is = absurd (none-some node there)
prepared_set law nodes slots names slot part after is b (k ∷ path) node at there item item_is =
    let before = b.before in
    let place = b.differ.0 in
    let change = λ (n : PlainNode). with_part part place n ∷ [] in
    let edited = edit_slot slot change before.items in
    let same : roomless after.items ≡ roomless edited = b.differ.1 in
    let at_before : slot_at before.items (k ∷ path) ≡ Some slot =
    sym (part_slot slot part place before.items (k ∷ path)) ∙ sym (slots edited (k ∷ path)) ∙ sym (ap (λ f. slot_at f (k ∷ path)) same)
    ∙ slots after.items (k ∷ path) ∙ at in
    let old = node_of_slot (node_at before.items (k ∷ path)) slot at_before in
    let by : edited ≡ edit_at change (k ∷ path) before.items = by_path law change before.items (k ∷ path) slot (b.tree.once slot) at_before in
    let new = with_part part place old.0 in
    let new_there : node_at edited (k ∷ path) ≡ Some new =
    ap (λ f. node_at f (k ∷ path)) by ∙ part_there part place before.items k path old.0 old.1 in
    let alike = same_there (node_at after.items (k ∷ path)) (node_at edited (k ∷ path)) node new
    (sym (nodes after.items (k ∷ path)) ∙ ap (λ f. node_at f (k ∷ path)) same ∙ nodes edited (k ∷ path)) there new_there in
    let kept : item.label ≡ (name_node_of new).label =
    item_is ∙ ap (λ (n : PlainNameNode). n.label) (node_roomless node new alike) in
    let found = there_item (names_at names (k ∷ path)) slot (slot_before names before (k ∷ path) slot b.agrees at_before) in
    record {
      made =
          ap (λ (l : NameLabel). names_mended (NameMend.set_parts l) (k ∷ path) names) kept
          ∙ ap (names_mended (NameMend.set_parts (name_node_of new).label) (k ∷ path)) b.agrees
          ∙ sym (set_names part place before.items k path old.0 old.1) ∙ sym (ap names_of by) ∙ sym (same_names after.items edited same);
      there = may_at (NameMend.set_parts item.label) (λ l n within. within) names k path found.0 found.1;
    }

-- what was done in a slot, and which names were kept before
abbrev pub before_change : (what : What) (change : Change) (names : NameForest) (after : PlainTree) → change.what ≡ what → AreNamesBefore names after change
    → IsBeforeChange what change.slot.0 names after
before_change what change names after is b =
    let before = b.0 in
    record {
      before = before;
      tree = b.1;
      agrees = b.2;
      differ = subst (λ w. DifferBy w change.slot.0 before.items after.items) is b.3.by;
      stands =
          stands change.slot.0 change.procedure.0 (changed_in what before.items after.items)
          (subst (λ w. procedure_of (changed_in w before.items after.items) change.slot.0 ≡ Some change.procedure.0) is b.3.within);
    }

-- ---- what is there before an edit

-- a path to a slot leads to a node
pub no_node : (items : Forest) (path : List ℕ) (slot : ℕ) → slot_at items path ≡ Some slot → node_at items path ≡ None → ⊥
no_node items path slot there none =
    none-some slot (sym (ap (option_map (λ (node : PlainNode). node.label.slot)) none) ∙ there)

-- and has a number
pub no_path : (items : Forest) (path : List ℕ) (slot : ℕ) → slot_at items path ≡ Some slot → path ≡ [] → ⊥
no_path items path slot there none = none-some slot (sym (ap (slot_at items) none) ∙ there)

pub before_few : (what : What) (slot : ℕ) (names : NameForest) (after : PlainTree) → IsBeforeChange what slot names after → name_count names ≤ most_slots
before_few what slot names after b = omega (arith, ap name_count b.agrees, names_count b.before.items, b.tree.few)

pub before_deep : (what : What) (slot : ℕ) (names : NameForest) (after : PlainTree) → IsBeforeChange what slot names after → name_depth names ≤ deepest_path
before_deep what slot names after b = omega (arith, ap name_depth b.agrees, names_deep b.before.items, b.tree.shallow)

pub before_stands : (slot : ℕ) (names : NameForest) (after : PlainTree) → IsBeforeChange What.Dropped slot names after → 1 ≤ name_times slot names
before_stands slot names after b = omega (arith, ap (name_times slot) b.agrees, names_times slot b.before.items, b.stands)
