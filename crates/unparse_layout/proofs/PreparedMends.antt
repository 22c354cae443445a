-- Edits that were prepared for a layout: each makes it the layout of the tree after its change, and can be put in place.
use Rattle.std.specs.Prelude.{◌≡◌, refl, ℕ, ◌<◌, ◌≤◌, Bool, false, List, [], ◌∷◌, Option, Some, None, option_map, unwrap_or, Result, Ok, Err, IfOk}
use Rattle.std.proofs.Common.{ap, sym, ◌∙◌, subst, arith, inl}
use Rattle.std.proofs.lemmas.Option.{none-some}
use Rattle.plcs_grammar.specs.Template.{program_sections}
use Rattle.template_tree.specs.declared.change.Change.{Change}
use Rattle.template_tree.specs.declared.change.What.{What}
use Rattle.template_tree.specs.Edits.Edit.{DifferBy, changed_in, edit_at, edit_slot, procedure_of}
use Rattle.template_tree.specs.Laws.RoomLaws.{NodesIgnoreRoom, SlotsIgnoreRoom}
use Rattle.template_tree.specs.Laws.TreeLaws.{SlotEditIsPathEdit}
use Rattle.template_tree.specs.Positions.Path.{node_at, slot_at}
use Rattle.template_tree.specs.Programs.PlainTree.{Forest, PlainNode, PlainTree, roomless}
use Rattle.template_tree.specs.Programs.Limit.{deepest_path, most_slots}
use Rattle.template_tree.specs.Programs.Program.{AreNodes}
use Rattle.template_tree.specs.Programs.Slots.{times}
use Rattle.template_tree.specs.Programs.Tree.{IsTree}
use Rattle.unparse_layout.specs.Bones.{PlainLayout, bone_count, bones_of}
use Rattle.unparse_layout.specs.LayoutEdit.{IsLayoutBefore, CanPutInPlace, LayoutMend, MayMendAt, PlainLayoutEdit, layout_mended_at, layout_after}
use Rattle.unparse_layout.specs.Private.ChangeBefore.{IsBeforeChange}
use Rattle.unparse_layout.specs.Private.LayoutEditView.{lone_layout}
use Rattle.unparse_layout.specs.Private.LayoutPaths.{bone_depth, bone_times, count_beside, layout_at, led_below}
use Rattle.unparse_layout.specs.Private.PlainNodeLayout.{PlainNodeLayout, node_layout_of}
use Rattle.unparse_layout.proofs.MendedBones.{add_bones, bones_deep, bones_slot, bones_times, drop_bones, may_add, may_at, part_bones, put_bones}
use Rattle.unparse_layout.proofs.Heights.{count_bones}
use Rattle.unparse_layout.proofs.KeptLeads.{program_unled}
use Rattle.unparse_layout.proofs.RoomlessNodes.{node_roomless, same_bones, same_soundness, same_there, same_times}
use Rattle.unparse_layout.proofs.SlotNodes.{node_of_slot, replaced, stands}

-- an edit that was prepared makes the layout that of the tree, and can be put in place
pub record IsPrepared (edit : PlainLayoutEdit) (layout : PlainLayout) (tree : PlainTree) : Type 0 where
  pub made : layout_after edit layout ≡ bones_of program_sections tree.items
  pub there : MayMendAt edit.mend edit.path layout

-- a node of a layout with the slot of a path is there, and so is whether a line stands before it
there_led : (o : Option PlainNodeLayout) (slot : ℕ) → option_map (λ item. item.bone.slot) o ≡ Some slot
    → option_map (λ item. item.bone.led) o ≡ Some (unwrap_or (option_map (λ item. item.bone.led) o) false)
there_led None slot there = absurd (none-some slot there)
there_led (Some item) slot there = refl

pub there_item : (o : Option PlainNodeLayout) (slot : ℕ) → option_map (λ item. item.bone.slot) o ≡ Some slot
    → (item : PlainNodeLayout) × (o ≡ Some item)
there_item None slot there = absurd (none-some slot there)
there_item (Some item) slot there = (item, refl)

-- the edit by slot is the one at the path of the slot
by_path : SlotEditIsPathEdit → (change : PlainNode → List PlainNode) (items : Forest) (path : List ℕ) (slot : ℕ)
    → times slot items ≤ 1 → slot_at items path ≡ Some slot → edit_slot slot change items ≡ edit_at change path items
by_path law change items path slot once there =
    let found = node_of_slot (node_at items path) slot there in
    sym (ap (λ s. edit_slot s change items) found.2)
    ∙ law change items path found.0 (subst (λ s. times s items ≤ 1) (sym found.2) once) found.1

-- another node came into a slot
pub prepared_put : SlotEditIsPathEdit → NodesIgnoreRoom → SlotsIgnoreRoom → (layout : PlainLayout) (slot : ℕ) (after : PlainTree) → IsTree after
    → IsBeforeChange What.Node slot layout after → (path : List ℕ) (node : PlainNode) → slot_at after.items path ≡ Some slot
    → node_at after.items path ≡ Some node → (item : PlainNodeLayout) (led : Bool) → item ≡ node_layout_of led node
    → led ≡ unwrap_or (option_map (λ item. item.bone.led) (layout_at layout path)) false
    → IsPrepared record { path = path; mend = LayoutMend.put (lone_layout item) } layout after
prepared_put law nodes slots layout slot after is b [] node at there item led item_is led_is = absurd (none-some node there)
prepared_put law nodes slots layout slot after is b (k ∷ path) node at there item led item_is led_is =
    let before = b.before in
    let new = b.differ.0 in
    let edited = edit_slot slot (λ _. new ∷ []) before.items in
    let same : roomless after.items ≡ roomless edited = b.differ.2 in
    let once : times slot edited ≤ 1 = omega (arith, same_times slot after.items edited same, is.once slot) in
    let at_edited : slot_at edited (k ∷ path) ≡ Some slot =
    sym (slots edited (k ∷ path)) ∙ sym (ap (λ f. slot_at f (k ∷ path)) same) ∙ slots after.items (k ∷ path) ∙ at in
    let old = replaced new slot before.items (k ∷ path) b.differ.1 once at_edited in
    let at_before : slot_at before.items (k ∷ path) ≡ Some slot =
    ap (option_map (λ (n : PlainNode). n.label.slot)) old.1 ∙ ap Some old.2 in
    let by : edited ≡ edit_at (λ _. new ∷ []) (k ∷ path) before.items =
    by_path law (λ _. new ∷ []) before.items (k ∷ path) slot (b.tree.once slot) at_before in
    let sound : AreNodes (edit_at (λ _. new ∷ []) (k ∷ path) before.items) =
    subst AreNodes by (same_soundness after.items edited same is.program.sound) in
    let in_layout : option_map (λ (item : PlainNodeLayout). item.bone.slot) (layout_at layout (k ∷ path)) ≡ Some slot =
    ap (λ l. option_map (λ (item : PlainNodeLayout). item.bone.slot) (layout_at l (k ∷ path))) b.agrees
    ∙ bones_slot program_sections before.items (k ∷ path) ∙ at_before in
    let led_there : option_map (λ (item : PlainNodeLayout). item.bone.led) (layout_at (bones_of program_sections before.items) (k ∷ path)) ≡ Some led =
    sym (ap (λ l. option_map (λ (item : PlainNodeLayout). item.bone.led) (layout_at l (k ∷ path))) b.agrees)
    ∙ there_led (layout_at layout (k ∷ path)) slot in_layout ∙ ap Some (sym led_is) in
    let put = put_bones new led program_sections before.items k path (inl program_unled) b.tree.program.sound sound led_there in
    let alike = same_there (node_at after.items (k ∷ path)) (node_at edited (k ∷ path)) node new
    (sym (nodes after.items (k ∷ path)) ∙ ap (λ f. node_at f (k ∷ path)) same ∙ nodes edited (k ∷ path)) there old.3 in
    let kept : item ≡ node_layout_of led new = item_is ∙ node_roomless led node new alike in
    let found = there_item (layout_at layout (k ∷ path)) slot in_layout in
    record {
      made =
          ap (λ (o : PlainNodeLayout). layout_mended_at (LayoutMend.put (lone_layout o)) (k ∷ path) layout) kept
          ∙ ap (layout_mended_at (LayoutMend.put (lone_layout (node_layout_of led new))) (k ∷ path)) b.agrees
          ∙ sym put ∙ sym (ap (bones_of program_sections) by) ∙ sym (same_bones program_sections after.items edited same);
      there = may_at (LayoutMend.put (lone_layout item)) (λ l n within. within) layout k path found.0 found.1;
    }

-- an item came into a list
pub prepared_add : SlotEditIsPathEdit → (layout : PlainLayout) (slot : ℕ) (after : PlainTree) → IsTree after
    → IsBeforeChange What.Added slot layout after → (path : List ℕ) (node : PlainNode) → slot_at after.items path ≡ Some slot
    → node_at after.items path ≡ Some node → (item : PlainNodeLayout) (room : ℕ) → item ≡ node_layout_of false node
    → count_beside path layout < room
    → IsPrepared record { path = path; mend = LayoutMend.add (lone_layout item) room } layout after
prepared_add law layout slot after is b [] node at there item room item_is fits = absurd (none-some node there)
prepared_add law layout slot after is b (k ∷ path) node at there item room item_is fits =
    let before = b.before in
    let edited = edit_slot slot (λ _. []) after.items in
    let same : roomless before.items ≡ roomless edited = b.differ.1 in
    let by : edited ≡ edit_at (λ _. []) (k ∷ path) after.items = by_path law (λ _. []) after.items (k ∷ path) slot (is.once slot) at in
    let sound : AreNodes (edit_at (λ _. []) (k ∷ path) after.items) =
    subst AreNodes by (same_soundness before.items edited same b.tree.program.sound) in
    let kept : layout ≡ bones_of program_sections (edit_at (λ _. []) (k ∷ path) after.items) =
    b.agrees ∙ same_bones program_sections before.items edited same ∙ ap (bones_of program_sections) by in
    let add = add_bones node room program_sections after.items k path (inl program_unled) is.program.sound sound there in
    record {
      made =
          ap (λ (o : PlainNodeLayout). layout_mended_at (LayoutMend.add (lone_layout o) room) (k ∷ path) layout) item_is
          ∙ ap (layout_mended_at (LayoutMend.add (lone_layout (node_layout_of false node)) room) (k ∷ path)) kept ∙ sym add;
      there =
          subst (λ l. MayMendAt (LayoutMend.add (lone_layout item) room) (k ∷ path) l) (sym kept)
          (may_add (lone_layout item) room node program_sections after.items k path there (subst (λ l. count_beside (k ∷ path) l < room) kept fits));
    }

-- an item went
pub prepared_drop : SlotEditIsPathEdit → (layout : PlainLayout) (slot : ℕ) (after : PlainTree) → IsTree after
    → IsBeforeChange What.Dropped slot layout after → (path : List ℕ)
    → option_map (λ item. item.bone.slot) (layout_at layout path) ≡ Some slot
    → IsPrepared record { path = path; mend = LayoutMend.drop } layout after
prepared_drop law layout slot after is b [] there = absurd (none-some slot there)
prepared_drop law layout slot after is b (k ∷ path) there =
    let before = b.before in
    let edited = edit_slot slot (λ _. []) before.items in
    let same : roomless after.items ≡ roomless edited = b.differ.1 in
    let at : slot_at before.items (k ∷ path) ≡ Some slot =
    sym (bones_slot program_sections before.items (k ∷ path))
    ∙ sym (ap (λ l. option_map (λ (item : PlainNodeLayout). item.bone.slot) (layout_at l (k ∷ path))) b.agrees) ∙ there in
    let by : edited ≡ edit_at (λ _. []) (k ∷ path) before.items =
    by_path law (λ _. []) before.items (k ∷ path) slot (b.tree.once slot) at in
    let sound : AreNodes (edit_at (λ _. []) (k ∷ path) before.items) =
    subst AreNodes by (same_soundness after.items edited same is.program.sound) in
    let drop = drop_bones program_sections before.items k path (inl program_unled) b.tree.program.sound sound in
    let found = there_item (layout_at layout (k ∷ path)) slot there in
    record {
      made =
          ap (layout_mended_at LayoutMend.drop (k ∷ path)) b.agrees
          ∙ sym drop ∙ sym (ap (bones_of program_sections) by) ∙ sym (same_bones program_sections after.items edited same);
      there = may_at LayoutMend.drop (λ l n within. within) layout k path found.0 found.1;
    }

-- a part was set
pub prepared_part : (layout : PlainLayout) (slot part : ℕ) (after : PlainTree) → IsBeforeChange (What.Part part) slot layout after
    → layout ≡ bones_of program_sections after.items
prepared_part layout slot part after b =
    b.agrees ∙ sym (part_bones slot part b.differ.0 program_sections b.before.items)
    ∙ sym (same_bones program_sections after.items _ b.differ.1)

-- what was done in a slot, and what the layout was before
pub before_change : (what : What) (change : Change) (layout : PlainLayout) (after : PlainTree) → change.what ≡ what → IsLayoutBefore layout after change
    → IsBeforeChange what change.slot.0 layout after
before_change what change layout after is b =
    let before = b.0 in
    record {
      before = before;
      tree = b.1;
      agrees = b.2;
      differ = subst (λ w. DifferBy w change.slot.0 before.items after.items) is b.3.by;
      stands =
          stands change.slot.0 change.procedure.0 (changed_in what before.items after.items)
          (subst (λ w. procedure_of (changed_in w before.items after.items) change.slot.0 ≡ Some change.procedure.0) is b.3.within);
    }

-- an edit after which the layout is that of a tree leaves one that isn't too long
pub ready : (edit : PlainLayoutEdit) (layout : PlainLayout) (after : PlainTree) → IsTree after
    → layout_after edit layout ≡ bones_of program_sections after.items → MayMendAt edit.mend edit.path layout → CanPutInPlace edit layout
ready edit layout after is agrees there =
    let count : bone_count (layout_after edit layout) ≡ bone_count (bones_of program_sections after.items) = ap bone_count agrees in
    record { there = there; few = omega (arith, count, count_bones program_sections after.items, is.few) }

-- what holds of the value of a call where two facts hold of it
pub both_hold : {A E : Type 0} (o : Result A E) (P Q R : A → Type 0) → ((a : A) → P a → Q a → R a) → IfOk o P → IfOk o Q → IfOk o R
both_hold (Ok a) P Q R law p q = law a p q
both_hold (Err e) P Q R law p q = tt

-- ---- what is there before an edit

-- a path to a slot leads to a node
pub no_node : (items : Forest) (path : List ℕ) (slot : ℕ) → slot_at items path ≡ Some slot → node_at items path ≡ None → ⊥
no_node items path slot there none =
    none-some slot (sym (ap (option_map (λ (node : PlainNode). node.label.slot)) none) ∙ there)

-- and has a number
pub no_path : (items : Forest) (path : List ℕ) (slot : ℕ) → slot_at items path ≡ Some slot → path ≡ [] → ⊥
no_path items path slot there none = none-some slot (sym (ap (slot_at items) none) ∙ there)

-- whether a line stands before the node there, told from the node above
pub led_there : (node_layout : PlainNodeLayout) (path : List ℕ) (tree : PlainTree) (slot : ℕ) → slot_at tree.items path ≡ Some slot
    → led_below node_layout path ≡ unwrap_or (option_map (λ item. item.bone.led) (layout_at node_layout.inner path)) false
led_there node_layout [] tree slot there = absurd (none-some slot there)
led_there node_layout (k ∷ path) tree slot there = refl

-- the layout isn't too long
pub before_few : (what : What) (slot : ℕ) (layout : PlainLayout) (after : PlainTree) → IsBeforeChange what slot layout after
    → bone_count layout ≤ most_slots
before_few what slot layout after b =
    let count : bone_count layout ≡ bone_count (bones_of program_sections b.before.items) = ap bone_count b.agrees in
    omega (arith, count, count_bones program_sections b.before.items, b.tree.few)

-- nor too deep
pub before_deep : (what : What) (slot : ℕ) (layout : PlainLayout) (after : PlainTree) → IsBeforeChange what slot layout after
    → bone_depth layout ≤ deepest_path
before_deep what slot layout after b =
    let deep : bone_depth layout ≡ bone_depth (bones_of program_sections b.before.items) = ap bone_depth b.agrees in
    omega (arith, deep, bones_deep program_sections b.before.items, b.tree.shallow)

-- and what is dropped stands in it
pub before_stands : (slot : ℕ) (layout : PlainLayout) (after : PlainTree) → IsBeforeChange What.Dropped slot layout after → 1 ≤ bone_times slot layout
before_stands slot layout after b =
    let times_are : bone_times slot layout ≡ bone_times slot (bones_of program_sections b.before.items) = ap (bone_times slot) b.agrees in
    omega (arith, times_are, bones_times slot program_sections b.before.items, b.stands)

-- a layout that stays as it is, as that of a tree
pub ready_as_is : (layout : PlainLayout) (after : PlainTree) → IsTree after → layout ≡ bones_of program_sections after.items
    → CanPutInPlace record { path = []; mend = LayoutMend.keep } layout
ready_as_is layout after is agrees = ready record { path = []; mend = LayoutMend.keep } layout after is agrees tt
