-- The nodes in the slot of an edit, before it and after it, and the gap in which they stand.
use Rattle.std.specs.Prelude.{◌≡◌, refl, ℕ, zero, suc, ◌≤◌, ◌||◌, List, [], ◌∷◌, map, Option, Some, None, option_map, slice_get, IfSome}
use Rattle.std.specs.Option.{option_copied, option_flatten}
use Rattle.std.proofs.Common.{Bor, ap, sym, ◌∙◌, subst, arith}
use Rattle.std.proofs.lemmas.Option.{none-some, slice_get-map}
use Rattle.plcs_base.specs.declared.place.PhraseAt.{PhraseAt}
use Rattle.plcs_grammar.specs.PlainPhrase.{PlainPhrase}
use Rattle.template_tree.specs.declared.change.What.{What}
use Rattle.template_tree.specs.Checks.Mention.{mention, mentions, phrase_at}
use Rattle.template_tree.specs.Edits.Edit.{edit_at, edit_slot}
use Rattle.template_tree.specs.Laws.RoomLaws.{NodesIgnoreRoom, SlotsIgnoreRoom}
use Rattle.template_tree.specs.Laws.TreeLaws.{SlotEditIsPathEdit}
use Rattle.template_tree.specs.Positions.Path.{node_at, slot_at}
use Rattle.template_tree.specs.Programs.Part.{part_at, with_part}
use Rattle.template_tree.specs.Programs.PlainTree.{Forest, PlainNode, PlainTree, forest, join, roomless, roomless_node}
use Rattle.template_tree.specs.Programs.Program.{AreNodes}
use Rattle.template_tree.specs.Programs.Slots.{times}
use Rattle.template_tree.specs.Programs.Tree.{IsTree}
use Rattle.decl_table.specs.DeclEdit.{NameMend, PlainNameEdit}
use Rattle.decl_table.specs.Names.{NameForest, NameLabel, kept_names, names_of}
use Rattle.decl_table.specs.Private.ChangeBefore.{IsBeforeChange, IsEditOf, IsNewNode, old_by, old_node, part_of, places_of}
use Rattle.decl_table.specs.Private.UsesView.{is_among}
use Rattle.decl_table.specs.Private.NamePaths.{names_at, names_below}
use Rattle.decl_table.specs.Private.PlainNameNode.{HaveFewParts, PlainNameNode, kept_mention, kept_mentions, name_node_of, node_names}
use Rattle.decl_table.proofs.EditedUses.{IsOutside, nodes_outside, part_outside}
use Rattle.decl_table.proofs.Gaps.{Gap, IsGapAt, filled, gap_at}
use Rattle.decl_table.proofs.KeptMentions.{mention_is, mentions_are, names_few}
use Rattle.decl_table.proofs.MendedNames.{names_slot}
use Rattle.decl_table.proofs.PreparedNames.{by_path, node_roomless, part_slot, part_there, same_there, same_times}
use Rattle.decl_table.proofs.SlotNodes.{node_of_slot, replaced}

-- ---- the nodes of an edit

abbrev taken_number : ℕ → Option ℕ → ℕ
taken_number n None = n
taken_number n (Some there) = there

-- the slot of a node at a path to it
in_slot : (items : Forest) (path : List ℕ) (slot : ℕ) (node : PlainNode) → slot_at items path ≡ Some slot → node_at items path ≡ Some node
    → node.label.slot ≡ slot
in_slot items path slot node at there =
    ap (taken_number slot) (sym (ap (option_map (λ (n : PlainNode). n.label.slot)) there) ∙ at)

-- the node that stood where another one came
stood_put : SlotEditIsPathEdit → SlotsIgnoreRoom → (names : NameForest) (slot : ℕ) (after : PlainTree) → IsTree after
    → (b : IsBeforeChange What.Node slot names after) → (path : List ℕ) → slot_at after.items path ≡ Some slot
    → (old : PlainNode) × (node_at b.before.items path ≡ Some old) × (old.label.slot ≡ slot)
    × (node_at (edit_slot slot (λ _. b.differ.0 ∷ []) b.before.items) path ≡ Some b.differ.0)
stood_put law slots names slot after is b path at =
    let new = b.differ.0 in
    let edited = edit_slot slot (λ _. new ∷ []) b.before.items in
    let same : roomless after.items ≡ roomless edited = b.differ.2 in
    let once : times slot edited ≤ 1 = omega (arith, same_times slot after.items edited same, is.once slot) in
    let at_edited : slot_at edited path ≡ Some slot =
    sym (slots edited path) ∙ sym (ap (λ f. slot_at f path) same) ∙ slots after.items path ∙ at in
    let old = replaced new slot b.before.items path b.differ.1 once at_edited in
    (old.0, old.1, old.2, old.3)

pub edited_put : SlotEditIsPathEdit → SlotsIgnoreRoom → (names : NameForest) (slot : ℕ) (after : PlainTree) → IsTree after
    → (b : IsBeforeChange What.Node slot names after) → (path : List ℕ) (node : PlainNode) → slot_at after.items path ≡ Some slot
    → node_at after.items path ≡ Some node → (item : PlainNameNode) → item ≡ name_node_of node
    → IsEditOf What.Node slot b.before.items after.items record { path = path; mend = NameMend.put (node_names item) }
edited_put law slots names slot after is b path node at there item item_is =
    let old = stood_put law slots names slot after is b path at in (
      old.0,
      node,
      old.1,
      there,
      old.2,
      in_slot after.items path slot node at there,
      ap (λ (n : PlainNameNode). NameMend.put (node_names n)) item_is,
    )

-- the node of which a part was set
stood_set : SlotsIgnoreRoom → (names : NameForest) (slot part : ℕ) (after : PlainTree) → IsTree after
    → (b : IsBeforeChange (What.Part part) slot names after) → (path : List ℕ) → slot_at after.items path ≡ Some slot
    → (old : PlainNode) × (node_at b.before.items path ≡ Some old) × (old.label.slot ≡ slot)
stood_set slots names slot part after is b path at =
    let place = b.differ.0 in
    let edited = edit_slot slot (λ (n : PlainNode). with_part part place n ∷ []) b.before.items in
    let same : roomless after.items ≡ roomless edited = b.differ.1 in
    node_of_slot (node_at b.before.items path) slot
    (sym (part_slot slot part place b.before.items path) ∙ sym (slots edited path) ∙ sym (ap (λ f. slot_at f path) same)
    ∙ slots after.items path ∙ at)

pub edited_set : SlotsIgnoreRoom → (names : NameForest) (slot part : ℕ) (after : PlainTree) → IsTree after
    → (b : IsBeforeChange (What.Part part) slot names after) → (path : List ℕ) (node : PlainNode) → slot_at after.items path ≡ Some slot
    → node_at after.items path ≡ Some node → (item : PlainNameNode) → item.label ≡ (name_node_of node).label
    → IsEditOf (What.Part part) slot b.before.items after.items record { path = path; mend = NameMend.set_parts item.label }
edited_set slots names slot part after is b path node at there item item_is =
    let old = stood_set slots names slot part after is b path at in
    (old.0, node, old.1, there, old.2, in_slot after.items path slot node at there, ap NameMend.set_parts item_is)

pub edited_add : (names : NameForest) (slot : ℕ) (after : PlainTree) (b : IsBeforeChange What.Added slot names after) (path : List ℕ)
    (node : PlainNode) → slot_at after.items path ≡ Some slot → node_at after.items path ≡ Some node
    → (item : PlainNameNode) (room : ℕ) → item ≡ name_node_of node
    → IsEditOf What.Added slot b.before.items after.items record { path = path; mend = NameMend.add (node_names item) room }
edited_add names slot after b path node at there item room item_is = (
  node,
  room,
  there,
  in_slot after.items path slot node at there,
  ap (λ (n : PlainNameNode). NameMend.add (node_names n) room) item_is,
)

pub edited_drop : (names : NameForest) (slot : ℕ) (after : PlainTree) (b : IsBeforeChange What.Dropped slot names after) (path : List ℕ)
    → option_map (λ item. item.label.slot) (names_at names path) ≡ Some slot
    → IsEditOf What.Dropped slot b.before.items after.items record { path = path; mend = NameMend.drop }
edited_drop names slot after b path there =
    let at : slot_at b.before.items path ≡ Some slot =
    sym (names_slot b.before.items path)
    ∙ sym (ap (λ l. option_map (λ (item : PlainNameNode). item.label.slot) (names_at l path)) b.agrees) ∙ there in
    let old = node_of_slot (node_at b.before.items path) slot at in
    (old.0, old.1, old.2, refl)

-- ---- the gap in which they stand

roomless_join : (one other : Forest) → roomless (join one other) ≡ join (roomless one) (roomless other)
roomless_join Forest.nil other = refl
roomless_join (Forest.cons label inner rest) other =
    ap (Forest.cons (record label { spare = 0 }) (roomless inner)) (roomless_join rest other)

-- what comes into a gap may have other room
filled_alike : (one other : Forest) (gap : Gap) → roomless one ≡ roomless other → roomless (filled one gap) ≡ roomless (filled other gap)
filled_alike one other (Gap.here rest) same =
    roomless_join one rest ∙ ap (λ f. join f (roomless rest)) same ∙ sym (roomless_join other rest)
filled_alike one other (Gap.inside label inner rest) same =
    ap (λ f. Forest.cons (record label { spare = 0 }) f (roomless rest)) (filled_alike one other inner same)
filled_alike one other (Gap.behind label inner rest) same =
    ap (Forest.cons (record label { spare = 0 }) (roomless inner)) (filled_alike one other rest same)

-- the gap stands at the path
abbrev pub StandsAt : List ℕ → Gap → Type 0
StandsAt [] gap = ⊥
StandsAt (k ∷ path) gap = IsGapAt k path gap

-- one list of nodes stood in a gap at a path before an edit, and another one stands there after it
pub record HasGapOf (path : List ℕ) (before after : Forest) (old new : List PlainNode) : Type 0 where
  pub gap : Gap
  pub place : StandsAt path gap
  pub was : roomless before ≡ roomless (filled (forest old) gap)
  pub is : roomless after ≡ roomless (filled (forest new) gap)
  pub once : (slot : ℕ) → times slot (filled (forest old) gap) ≤ 1

pub gap_put : SlotEditIsPathEdit → NodesIgnoreRoom → SlotsIgnoreRoom → (names : NameForest) (slot : ℕ) (after : PlainTree) → IsTree after
    → (b : IsBeforeChange What.Node slot names after) → (path : List ℕ) (old node : PlainNode)
    → node_at b.before.items path ≡ Some old → node_at after.items path ≡ Some node → old.label.slot ≡ slot → node.label.slot ≡ slot
    → HasGapOf path b.before.items after.items (old ∷ []) (node ∷ [])
gap_put law nodes slots names slot after is b [] old node stood there was_in in_it = absurd (none-some old stood)
gap_put law nodes slots names slot after is b (k ∷ path) old node stood there was_in in_it =
    let before = b.before in
    let new = b.differ.0 in
    let change = λ (_ : PlainNode). new ∷ [] in
    let edited = edit_slot slot change before.items in
    let same : roomless after.items ≡ roomless edited = b.differ.2 in
    let at : slot_at after.items (k ∷ path) ≡ Some slot = ap (option_map (λ (n : PlainNode). n.label.slot)) there ∙ ap Some in_it in
    let at_before : slot_at before.items (k ∷ path) ≡ Some slot =
    ap (option_map (λ (n : PlainNode). n.label.slot)) stood ∙ ap Some was_in in
    let came = stood_put law slots names slot after is b (k ∷ path) at in
    let by : edited ≡ edit_at change (k ∷ path) before.items =
    by_path law change before.items (k ∷ path) slot (b.tree.once slot) at_before in
    let alike : roomless_node node ≡ roomless_node new =
    same_there (node_at after.items (k ∷ path)) (node_at edited (k ∷ path)) node new
    (sym (nodes after.items (k ∷ path)) ∙ ap (λ f. node_at f (k ∷ path)) same ∙ nodes edited (k ∷ path)) there came.3 in
    let found = gap_at before.items k path old stood in
    record {
      gap = found.gap;
      place = found.place;
      was = ap roomless found.before;
      is =
          same ∙ ap roomless (by ∙ found.after change)
          ∙ filled_alike (forest (new ∷ [])) (forest (node ∷ [])) found.gap
          (ap (λ (n : PlainNode). Forest.cons n.label n.inner Forest.nil) (sym alike));
      once = λ s. subst (λ f. times s f ≤ 1) found.before (b.tree.once s);
    }

pub gap_set : SlotEditIsPathEdit → (names : NameForest) (slot part : ℕ) (after : PlainTree)
    → (b : IsBeforeChange (What.Part part) slot names after) → (path : List ℕ) (old : PlainNode)
    → node_at b.before.items path ≡ Some old → old.label.slot ≡ slot
    → HasGapOf path b.before.items after.items (old ∷ []) (with_part part b.differ.0 old ∷ [])
gap_set law names slot part after b [] old stood was_in = absurd (none-some old stood)
gap_set law names slot part after b (k ∷ path) old stood was_in =
    let before = b.before in
    let change = λ (n : PlainNode). with_part part b.differ.0 n ∷ [] in
    let at_before : slot_at before.items (k ∷ path) ≡ Some slot =
    ap (option_map (λ (n : PlainNode). n.label.slot)) stood ∙ ap Some was_in in
    let by : edit_slot slot change before.items ≡ edit_at change (k ∷ path) before.items =
    by_path law change before.items (k ∷ path) slot (b.tree.once slot) at_before in
    let found = gap_at before.items k path old stood in
    record {
      gap = found.gap;
      place = found.place;
      was = ap roomless found.before;
      is = b.differ.1 ∙ ap roomless (by ∙ found.after change);
      once = λ s. subst (λ f. times s f ≤ 1) found.before (b.tree.once s);
    }

pub gap_add : SlotEditIsPathEdit → (names : NameForest) (slot : ℕ) (after : PlainTree) → IsTree after
    → (b : IsBeforeChange What.Added slot names after) → (path : List ℕ) (node : PlainNode)
    → node_at after.items path ≡ Some node → node.label.slot ≡ slot
    → HasGapOf path b.before.items after.items [] (node ∷ [])
gap_add law names slot after is b [] node there in_it = absurd (none-some node there)
gap_add law names slot after is b (k ∷ path) node there in_it =
    let change = λ (_ : PlainNode). let none : List PlainNode = [] in none in
    let at : slot_at after.items (k ∷ path) ≡ Some slot = ap (option_map (λ (n : PlainNode). n.label.slot)) there ∙ ap Some in_it in
    let by : edit_slot slot change after.items ≡ edit_at change (k ∷ path) after.items =
    by_path law change after.items (k ∷ path) slot (is.once slot) at in
    let found = gap_at after.items k path node there in
    let stood : edit_slot slot change after.items ≡ filled (forest []) found.gap = by ∙ found.after change in
    record {
      gap = found.gap;
      place = found.place;
      was = b.differ.1 ∙ ap roomless stood;
      is = ap roomless found.before;
      once =
          λ s.
          omega
          (arith, same_times s b.before.items (filled (forest []) found.gap) (b.differ.1 ∙ ap roomless stood), b.tree.once s);
    }

pub gap_drop : SlotEditIsPathEdit → (names : NameForest) (slot : ℕ) (after : PlainTree)
    → (b : IsBeforeChange What.Dropped slot names after) → (path : List ℕ) (old : PlainNode)
    → node_at b.before.items path ≡ Some old → old.label.slot ≡ slot
    → HasGapOf path b.before.items after.items (old ∷ []) []
gap_drop law names slot after b [] old stood was_in = absurd (none-some old stood)
gap_drop law names slot after b (k ∷ path) old stood was_in =
    let before = b.before in
    let change = λ (_ : PlainNode). let none : List PlainNode = [] in none in
    let at_before : slot_at before.items (k ∷ path) ≡ Some slot =
    ap (option_map (λ (n : PlainNode). n.label.slot)) stood ∙ ap Some was_in in
    let by : edit_slot slot change before.items ≡ edit_at change (k ∷ path) before.items =
    by_path law change before.items (k ∷ path) slot (b.tree.once slot) at_before in
    let found = gap_at before.items k path old stood in
    record {
      gap = found.gap;
      place = found.place;
      was = ap roomless found.before;
      is = b.differ.1 ∙ ap roomless (by ∙ found.after change);
      once = λ s. subst (λ f. times s f ≤ 1) found.before (b.tree.once s);
    }

-- ---- the places that went and came

-- the names that are kept at a path
names_node : (items : Forest) (path : List ℕ) → names_at (names_of items) path ≡ option_map name_node_of (node_at items path)
names_node Forest.nil [] = refl
names_node Forest.nil (k ∷ path) = refl
names_node (Forest.cons label inner rest) [] = refl
names_node (Forest.cons label inner rest) (zero ∷ []) = refl
names_node (Forest.cons label inner rest) (zero ∷ (j ∷ path)) = names_node inner (j ∷ path)
names_node (Forest.cons label inner rest) (suc k ∷ path) = names_node rest (k ∷ path)

-- what is kept below a root at the path of a node
pub below_root : (root : PlainNameNode) (items : Forest) (path : List ℕ) (node : PlainNode) → root.inner ≡ names_of items
    → node_at items path ≡ Some node → names_below root path ≡ Some (name_node_of node)
below_root root items [] node inner there = absurd (none-some node there)
below_root root items (k ∷ path) node inner there =
    ap (λ (l : NameForest). names_at l (k ∷ path)) inner ∙ names_node items (k ∷ path) ∙ ap (option_map name_node_of) there

-- the same places under each name
same_outside : (before after : Forest) (went goes came comes : List ℕ → List PhraseAt) → ((name : List ℕ) → went name ≡ goes name)
    → ((name : List ℕ) → came name ≡ comes name) → IsOutside before after goes comes → IsOutside before after went came
same_outside before after went goes came comes w k outside = record {
  stays = outside.stays;
  before_is = λ name at. outside.before_is name at ∙ ap (λ l. is_among at l || outside.stays name at) (sym (w name));
  after_is = λ name at. outside.after_is name at ∙ ap (λ l. is_among at l || outside.stays name at) (sym (k name));
  apart = λ name at there. outside.apart name at (ap (is_among at) (sym (w name)) ∙ there);
}

-- the places in a node that is there
in_node : (found : Option PlainNameNode) (node : PlainNode) → option_map node_names found ≡ Some (node_names (name_node_of node))
    → (name : List ℕ) → places_of None found name ≡ mentions name (forest (node ∷ []))
in_node None node is name = absurd (none-some (node_names (name_node_of node)) is)
in_node (Some item) node is name =
    ap (kept_mentions name) (ap (taken_names (node_names item)) is) ∙ mentions_are name (forest (node ∷ []))
  where
    taken_names : NameForest → Option NameForest → NameForest
    taken_names names None = names
    taken_names names (Some there) = there

-- the names that are kept of one part
pub part_kept : (parts : List (Option PlainPhrase)) (part : ℕ)
    → option_flatten (slice_get (map (option_map kept_names) parts) part) ≡ option_map kept_names (part_at parts part)
part_kept parts part = ap option_flatten (slice_get-map (option_map kept_names) parts part) ∙ flat (slice_get parts part)
  where
    flat : (o : Option (Option PlainPhrase)) → option_flatten (option_map (option_map kept_names) o) ≡ option_map kept_names (option_flatten o)
    flat None = refl
    flat (Some place) = refl

-- the place in a part of a node that is there
in_part : (found : Option PlainNameNode) (node : PlainNode) (part : ℕ) → option_map (λ (n : PlainNameNode). n.label) found ≡ Some (name_node_of node).label
    → (name : List ℕ) → places_of (Some part) found name ≡ mention name (phrase_at node.label.slot part) (part_at node.label.parts part)
in_part None node part is name = absurd (none-some (name_node_of node).label is)
in_part (Some item) node part is name =
    ap (λ (l : NameLabel). kept_mention name (phrase_at l.slot part) (option_flatten (slice_get l.parts part))) (ap (taken_label item.label) is)
    ∙ ap (kept_mention name (phrase_at node.label.slot part)) (part_kept node.label.parts part)
    ∙ mention_is name (phrase_at node.label.slot part) (part_at node.label.parts part)
  where
    taken_label : NameLabel → Option NameLabel → NameLabel
    taken_label label None = label
    taken_label label (Some there) = there

-- the node after a part was set is the one before with the part
pub alike_set : SlotEditIsPathEdit → NodesIgnoreRoom → (names : NameForest) (slot part : ℕ) (after : PlainTree)
    → (b : IsBeforeChange (What.Part part) slot names after) → (path : List ℕ) (old node : PlainNode)
    → node_at b.before.items path ≡ Some old → node_at after.items path ≡ Some node → old.label.slot ≡ slot
    → roomless_node node ≡ roomless_node (with_part part b.differ.0 old)
alike_set law nodes names slot part after b [] old node stood there was_in = absurd (none-some old stood)
alike_set law nodes names slot part after b (k ∷ path) old node stood there was_in =
    let before = b.before in
    let change = λ (n : PlainNode). with_part part b.differ.0 n ∷ [] in
    let edited = edit_slot slot change before.items in
    let at_before : slot_at before.items (k ∷ path) ≡ Some slot =
    ap (option_map (λ (n : PlainNode). n.label.slot)) stood ∙ ap Some was_in in
    let by : edited ≡ edit_at change (k ∷ path) before.items =
    by_path law change before.items (k ∷ path) slot (b.tree.once slot) at_before in
    same_there (node_at after.items (k ∷ path)) (node_at edited (k ∷ path)) node (with_part part b.differ.0 old)
    (sym (nodes after.items (k ∷ path)) ∙ ap (λ f. node_at f (k ∷ path)) b.differ.1 ∙ nodes edited (k ∷ path)) there
    (ap (λ f. node_at f (k ∷ path)) by ∙ part_there part b.differ.0 before.items k path old stood)

-- what went, what came and what stays, of an edit of names
pub outside : SlotEditIsPathEdit → NodesIgnoreRoom → SlotsIgnoreRoom → (what : What) (names : NameForest) (slot : ℕ) (after : PlainTree) → IsTree after
    → (b : IsBeforeChange what slot names after) → (edit : PlainNameEdit) → IsEditOf what slot b.before.items after.items edit
    → (root : PlainNameNode) → root.inner ≡ names → (new : Option PlainNameNode) → IsNewNode edit.mend new
    → IsOutside b.before.items after.items (places_of (part_of what) (old_node edit root)) (places_of (part_of what) new)
outside law nodes slots What.Node names slot after is b edit (old, node, stood, there, was_in, in_it, mend) root inner new is_new =
    let gap = gap_put law nodes slots names slot after is b edit.path old node stood there was_in in_it in
    let kept = below_root root b.before.items edit.path old (inner ∙ b.agrees) stood in
    same_outside b.before.items after.items (places_of None (old_node edit root)) (λ name. mentions name (forest (old ∷ [])))
    (places_of None new) (λ name. mentions name (forest (node ∷ [])))
    (in_node (old_node edit root) old
    (ap (λ m. option_map node_names (old_by m (names_below root edit.path))) mend ∙ ap (option_map node_names) kept))
    (in_node new node (subst (λ m. IsNewNode m new) mend is_new))
    (nodes_outside b.before.items after.items (forest (old ∷ [])) (forest (node ∷ [])) gap.gap gap.was gap.is gap.once)
outside law nodes slots (What.Part part) names slot after is b edit (old, node, stood, there, was_in, in_it, mend) root inner new is_new =
    let gap = gap_set law names slot part after b edit.path old stood was_in in
    let kept = below_root root b.before.items edit.path old (inner ∙ b.agrees) stood in
    let came = with_part part b.differ.0 old in
    let alike = node_roomless node came (alike_set law nodes names slot part after b edit.path old node stood there was_in) in
    same_outside b.before.items after.items (places_of (Some part) (old_node edit root))
    (λ name. mention name (phrase_at old.label.slot part) (part_at old.label.parts part)) (places_of (Some part) new)
    (λ name. mention name (phrase_at old.label.slot part) (part_at came.label.parts part))
    (in_part (old_node edit root) old part
    (ap (λ m. option_map (λ (n : PlainNameNode). n.label) (old_by m (names_below root edit.path))) mend
    ∙ ap (option_map (λ (n : PlainNameNode). n.label)) kept))
    (in_part new came part (subst (λ m. IsNewNode m new) mend is_new ∙ ap (λ (n : PlainNameNode). Some n.label) alike))
    (part_outside b.before.items after.items part old b.differ.0 gap.gap gap.was gap.is gap.once)
outside law nodes slots What.Added names slot after is b edit (node, room, there, in_it, mend) root inner new is_new =
    let gap = gap_add law names slot after is b edit.path node there in_it in
    same_outside b.before.items after.items (places_of None (old_node edit root)) (λ name. mentions name (forest []))
    (places_of None new) (λ name. mentions name (forest (node ∷ [])))
    (λ name. ap (λ m. places_of None (old_by m (names_below root edit.path)) name) mend)
    (in_node new node (subst (λ m. IsNewNode m new) mend is_new))
    (nodes_outside b.before.items after.items (forest []) (forest (node ∷ [])) gap.gap gap.was gap.is gap.once)
outside law nodes slots What.Dropped names slot after is b edit (old, stood, was_in, mend) root inner new is_new =
    let gap = gap_drop law names slot after b edit.path old stood was_in in
    let kept = below_root root b.before.items edit.path old (inner ∙ b.agrees) stood in
    same_outside b.before.items after.items (places_of None (old_node edit root)) (λ name. mentions name (forest (old ∷ [])))
    (places_of None new) (λ name. mentions name (forest []))
    (in_node (old_node edit root) old
    (ap (λ m. option_map node_names (old_by m (names_below root edit.path))) mend ∙ ap (option_map node_names) kept))
    (λ name. ap (λ o. places_of None o name) (subst (λ m. IsNewNode m new) mend is_new))
    (nodes_outside b.before.items after.items (forest (old ∷ [])) (forest []) gap.gap gap.was gap.is gap.once)

-- ---- the nodes have few parts

-- a node of a program, with those inside it
few_at : (items : Forest) (k : ℕ) (path : List ℕ) (node : PlainNode) → AreNodes items → node_at items (k ∷ path) ≡ Some node
    → HaveFewParts (node_names (name_node_of node))
few_at Forest.nil k path node are there = absurd (none-some node there)
few_at (Forest.cons label inner rest) zero [] node are there =
    subst (λ (n : PlainNode). HaveFewParts (node_names (name_node_of n))) (ap (taken node) there)
    (names_few (Forest.cons label inner Forest.nil) (are.0, are.1, tt))
  where
    taken : PlainNode → Option PlainNode → PlainNode
    taken n None = n
    taken n (Some found) = found
few_at (Forest.cons label inner rest) zero (j ∷ path) node are there = few_at inner j path node are.1 there
few_at (Forest.cons label inner rest) (suc k) path node are there = few_at rest k path node are.2 there

few_node : (items : Forest) (path : List ℕ) (node : PlainNode) → AreNodes items → node_at items path ≡ Some node
    → HaveFewParts (node_names (name_node_of node))
few_node items [] node are there = absurd (none-some node there)
few_node items (k ∷ path) node are there = few_at items k path node are there

abbrev taken_item : PlainNameNode → Option PlainNameNode → PlainNameNode
taken_item item None = item
taken_item item (Some there) = there

-- the one that is kept is that of a node with few parts
few_kept : (found : Option PlainNameNode) (node : PlainNode) (item : PlainNameNode) → found ≡ Some (name_node_of node) → found ≡ Some item
    → HaveFewParts (node_names (name_node_of node)) → HaveFewParts (node_names item)
few_kept found node item is there few =
    subst (λ (n : PlainNameNode). HaveFewParts (node_names n)) (ap (taken_item item) (sym is ∙ there)) few

-- the node that went
pub few_gone : (what : What) (names : NameForest) (slot : ℕ) (after : PlainTree) (b : IsBeforeChange what slot names after) (edit : PlainNameEdit)
    → IsEditOf what slot b.before.items after.items edit → (root : PlainNameNode) → root.inner ≡ names → (item : PlainNameNode)
    → old_node edit root ≡ Some item → HaveFewParts (node_names item)
few_gone What.Node names slot after b edit (old, node, stood, there, was_in, in_it, mend) root inner item found =
    few_kept (old_node edit root) old item
    (ap (λ m. old_by m (names_below root edit.path)) mend ∙ below_root root b.before.items edit.path old (inner ∙ b.agrees) stood) found
    (few_node b.before.items edit.path old b.tree.program.sound stood)
few_gone (What.Part part) names slot after b edit (old, node, stood, there, was_in, in_it, mend) root inner item found =
    few_kept (old_node edit root) old item
    (ap (λ m. old_by m (names_below root edit.path)) mend ∙ below_root root b.before.items edit.path old (inner ∙ b.agrees) stood) found
    (few_node b.before.items edit.path old b.tree.program.sound stood)
few_gone What.Added names slot after b edit (node, room, there, in_it, mend) root inner item found =
    absurd (none-some item (sym (ap (λ m. old_by m (names_below root edit.path)) mend) ∙ found))
few_gone What.Dropped names slot after b edit (old, stood, was_in, mend) root inner item found =
    few_kept (old_node edit root) old item
    (ap (λ m. old_by m (names_below root edit.path)) mend ∙ below_root root b.before.items edit.path old (inner ∙ b.agrees) stood) found
    (few_node b.before.items edit.path old b.tree.program.sound stood)

few_names : (found : Option PlainNameNode) (node : PlainNode) (item : PlainNameNode)
    → option_map node_names found ≡ Some (node_names (name_node_of node)) → found ≡ Some item
    → HaveFewParts (node_names (name_node_of node)) → HaveFewParts (node_names item)
few_names found node item is there few =
    subst HaveFewParts (ap (taken_names (node_names item)) (sym is ∙ ap (option_map node_names) there)) few
  where
    taken_names : NameForest → Option NameForest → NameForest
    taken_names names None = names
    taken_names names (Some found) = found

-- the node that came, where more than a part was set
pub few_came : (what : What) (names : NameForest) (slot : ℕ) (after : PlainTree) → IsTree after → (b : IsBeforeChange what slot names after)
    → (edit : PlainNameEdit) → IsEditOf what slot b.before.items after.items edit → (new : Option PlainNameNode) → IsNewNode edit.mend new
    → part_of what ≡ None → (item : PlainNameNode) → new ≡ Some item → HaveFewParts (node_names item)
few_came What.Node names slot after is b edit (old, node, stood, there, was_in, in_it, mend) new is_new none item found =
    few_names new node item (subst (λ m. IsNewNode m new) mend is_new) found
    (few_node after.items edit.path node is.program.sound there)
few_came (What.Part part) names slot after is b edit of new is_new none item found = absurd (none-some part (sym none))
few_came What.Added names slot after is b edit (node, room, there, in_it, mend) new is_new none item found =
    few_names new node item (subst (λ m. IsNewNode m new) mend is_new) found
    (few_node after.items edit.path node is.program.sound there)
few_came What.Dropped names slot after is b edit (old, stood, was_in, mend) new is_new none item found =
    absurd (none-some item (sym (subst (λ m. IsNewNode m new) mend is_new) ∙ found))

-- of a node that is lent
pub lent : {X : Type 0} (P : X → Type 0) (o : Option (Bor X)) → ((x : X) → option_copied o ≡ Some x → P x) → IfSome o (λ b. P b.now)
lent P None holds = tt
lent P (Some b) holds = holds b.now refl
