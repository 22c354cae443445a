-- What is kept of a program is near what is kept of it after an edit, by how the edit is prepared.
use Rattle.std.proofs.Common.{◌≡◌, ℕ, ◌≤◌, Bool, true, false, List, [], ◌∷◌, Option, Some, refl, ap, sym, subst, ◌∙◌, arith}
use Rattle.std.specs.Prelude.{is_some, slice_get, slice_set}
use Rattle.std.specs.FinMap.{get}
use Rattle.plcs_base.specs.Mark.{MarkMap}
use Rattle.plcs_base.specs.Scope.{ItemMap}
use Rattle.plcs_grammar.specs.PlainPhrase.{PlainPhrase}
use Rattle.template_tree.specs.Checks.Marks.{Marks}
use Rattle.template_tree.specs.Checks.Mention.{phrase_at}
use Rattle.template_tree.specs.Checks.ProgramMaps.{ScopeTells}
use Rattle.template_tree.specs.Edits.Edit.{edit_below, edit_slot, give_way}
use Rattle.template_tree.specs.Laws.CheckLaws.{ChecksIgnoreRoom}
use Rattle.template_tree.specs.Laws.TreeLaws.{SlotEditIsPathEdit}
use Rattle.template_tree.specs.Positions.Path.{node_at}
use Rattle.template_tree.specs.Programs.Part.{with_part}
use Rattle.template_tree.specs.Programs.PlainTree.{Forest, Label, PlainNode, forest, nodes, roomless}
use Rattle.template_tree.specs.Programs.Slots.{times}
use Rattle.code_patch.specs.Bill.{is_of_node}
use Rattle.code_patch.specs.CodeEdit.{roomless_code}
use Rattle.code_patch.specs.CodeForest.{CodeForest, kept_code}
use Rattle.code_patch.specs.Private.NearCode.{Near, PlainPlan, is_added, is_of_item, item_edited}
use Rattle.code_patch.proofs.EditedPrograms.{PlanFits, item_is_node, items_edited, items_others, marks_edited, path_edit, stays_by, times_alike}
use Rattle.code_patch.proofs.ItemsStay.{AreIn}
use Rattle.code_patch.proofs.MarksStay.{FoundAlike, gone_alike, label_alike, node_alike}
use Rattle.code_patch.proofs.NearPaths.{AllStay, LabelStays, comes_near, near_added, near_dropped, near_program, part_near}
use Rattle.code_patch.proofs.RoomlessTrees.{edited_alike, kept_alike, near_alike}
use Rattle.code_patch.proofs.SlotNodes.{once_here, times_given}
use Rattle.code_patch.proofs.StayedNodes.{LiveStay, all_from, stays_but}

-- what is near the nodes after an edit is near those that are the same but for room
near_after : (plan : PlainPlan) (way : Option (List ℕ)) (kept : CodeForest) (given after : Forest) → roomless given ≡ roomless after
    → Near plan way 0 (item_edited plan way kept given) given → Near plan way 0 (item_edited plan way kept after) after
near_after plan way kept given after same near =
    subst (λ (f : CodeForest). Near plan way 0 f after) (edited_alike plan way kept given after same)
    (near_alike plan way 0 (item_edited plan way kept given) given after same near)

module _ (room : ChecksIgnoreRoom) (by_path : SlotEditIsPathEdit) (plan : PlainPlan) (before after : Forest) (items : ItemMap)
    (kept : CodeForest) (its : roomless_code kept ≡ kept_code (Marks before) items before)
    (once : (n : ℕ) → times n before ≤ 1) (once_after : (n : ℕ) → times n after ≤ 1)
    (marked : plan.marks ≡ Marks after) (scope : ScopeTells plan.items after) (tells : ScopeTells items before)
    (k : ℕ) (path : List ℕ) (item node : PlainNode) where
  -- ---- another node comes, a part is another one, or an item goes

  module _ (change : PlainNode → List PlainNode) (declares : Bool) (fits : PlanFits plan declares change path item node)
      (first : slice_get (nodes before) k ≡ Some item) (there : node_at before (k ∷ path) ≡ Some node)
      (is : roomless after ≡ roomless (edit_slot node.label.slot change before)) (came : AreIn node.label.slot (change node)) where
    same_given : roomless (give_way (edit_below change path) k before) ≡ roomless after
    same_given = sym (is ∙ ap roomless (path_edit room by_path before after change k path node there once is))

    -- a label in another slot, of the phrases of which as much is found
    apart_stays : (label : Label) → (label.slot ≡ node.label.slot → ⊥)
        → ((part : ℕ) → FoundAlike node.label.slot change (phrase_at label.slot part) node)
        → LabelStays plan (Marks before) items plan.everywhere label
    apart_stays label apart alike =
        stays_by plan (Marks before) items label declares change path item node fits
        (item_is_node before k path item node first there) apart
        (λ quiet deep. (
          (λ part.
              marks_edited room by_path before after change k path node there once is quiet deep (phrase_at label.slot part) apart (alike part)
              ∙ ap (λ (m : MarkMap). get m (phrase_at label.slot part)) (sym marked)),
          tells label.slot
              ∙ items_edited room by_path before after change k path node there once is quiet deep label.slot
              ∙ sym (scope label.slot),
        ))
        (λ other.
        tells label.slot
        ∙ items_others room by_path before after change k path node there once is item first came label.slot other
        ∙ sym (scope label.slot))

    -- a slot that stands without the node doesn't stand in it, nor in what comes
    off_node : (n : ℕ) → 1 ≤ times n (give_way (edit_below (λ other. []) path) k before) → times n (forest (node ∷ [])) ≡ 0
    off_node n live = omega (arith, live, once n, times_given n (λ other. []) path k before node there)

    off_come : (n : ℕ) → 1 ≤ times n (give_way (edit_below (λ other. []) path) k before) → times n (forest (change node)) ≡ 0
    off_come n live =
        omega
        (arith, live, once n, once_after n, times_given n (λ other. []) path k before node there, times_given n change path k before node there, times_alike n (give_way (edit_below change path) k before) after same_given)

    off_slot : (n : ℕ) → 1 ≤ times n (give_way (edit_below (λ other. []) path) k before) → n ≡ node.label.slot → ⊥
    off_slot n live here = omega (arith, off_node n live, once_here node.label.slot n (sym here))

  -- another node comes
  pub near_node : (new : PlainNode) (declares : Bool) → PlanFits plan declares (λ other. new ∷ []) path item node
      → slice_get (nodes before) k ≡ Some item → node_at before (k ∷ path) ≡ Some node → new.label.slot ≡ node.label.slot
      → roomless after ≡ roomless (edit_slot node.label.slot (λ other. new ∷ []) before)
      → is_of_item plan.what ≡ false → is_of_node plan.what ≡ true
      → Near plan (Some (k ∷ path)) 0 (item_edited plan (Some (k ∷ path)) kept after) after
  near_node new declares fits first there own is no_item puts =
      let change : PlainNode → List PlainNode = (λ other. new ∷ []) in
      let came : AreIn node.label.slot (change node) = (own, tt) in
      let stay : LiveStay plan (Marks before) items (give_way (edit_below (λ other. []) path) k before) =
      (λ label live.
      apart_stays change declares fits first there is came label (off_slot change declares fits first there is came label.slot live)
      (λ part.
      node_alike node.label.slot (phrase_at label.slot part) new node (off_node change declares fits first there is came label.slot live)
      (off_come change declares fits first there is came label.slot live))) in
      near_after plan (Some (k ∷ path)) kept (give_way (edit_below change path) k before) after
      (same_given change declares fits first there is came)
      (near_program plan (Marks before) items change no_item (λ was. Unit {0}) k path kept before
      (comes_near plan (Marks before) items change new (λ was. refl) puts) its
      (stays_but plan (Marks before) items (λ was. Unit {0}) path k before node there tt stay))

  -- a part is another one
  pub near_part : (part : ℕ) (place : Option PlainPhrase) (declares : Bool)
      → PlanFits plan declares (λ other. with_part part place other ∷ []) path item node
      → slice_get (nodes before) k ≡ Some item → node_at before (k ∷ path) ≡ Some node
      → roomless after ≡ roomless (edit_slot node.label.slot (λ other. with_part part place other ∷ []) before)
      → is_of_item plan.what ≡ false → is_of_node plan.what ≡ false
      → Near plan (Some (k ∷ path)) 0 (item_edited plan (Some (k ∷ path)) kept after) after
  near_part part place declares fits first there is no_item puts =
      let change : PlainNode → List PlainNode = (λ other. with_part part place other ∷ []) in
      let came : AreIn node.label.slot (change node) = (refl, tt) in
      let apart : (label : Label) → (label.slot ≡ node.label.slot → ⊥) → LabelStays plan (Marks before) items plan.everywhere label =
      (λ label other.
      apart_stays change declares fits first there is came label other
      (λ at.
      label_alike node.label.slot (phrase_at label.slot at) (λ (l : Label). record l { parts = slice_set l.parts part place }) node other refl)) in
      let inner : AllStay plan (Marks before) items plan.everywhere node.inner =
      all_from plan (Marks before) items node.inner
      (λ label live.
      apart label
      (λ here.
      omega
      (arith, live, once_here node.label.slot label.slot (sym here), once label.slot, times_given label.slot (λ other. []) path k before node there))) in
      let stay : LiveStay plan (Marks before) items (give_way (edit_below (λ other. []) path) k before) =
      (λ label live. apart label (off_slot change declares fits first there is came label.slot live)) in
      near_after plan (Some (k ∷ path)) kept (give_way (edit_below change path) k before) after
      (same_given change declares fits first there is came)
      (near_program plan (Marks before) items change no_item (λ was. AllStay plan (Marks before) items plan.everywhere was.inner) k path kept before
      (part_near plan (Marks before) items change
      (λ was. (record was.label { parts = slice_set was.label.parts part place }, refl)) puts) its
      (stays_but plan (Marks before) items (λ was. AllStay plan (Marks before) items plan.everywhere was.inner) path k before node there inner stay))

  -- an item goes
  pub near_gone : (declares : Bool) → PlanFits plan declares (λ other. []) path item node
      → slice_get (nodes before) k ≡ Some item → node_at before (k ∷ path) ≡ Some node
      → roomless after ≡ roomless (edit_slot node.label.slot (λ other. []) before)
      → is_of_item plan.what ≡ true → is_added plan.what ≡ false
      → Near plan (Some (k ∷ path)) 0 (item_edited plan (Some (k ∷ path)) kept after) after
  near_gone declares fits first there is ends went =
      let change : PlainNode → List PlainNode = (λ other. []) in
      let stay : LiveStay plan (Marks before) items (give_way (edit_below (λ other. []) path) k before) =
      (λ label live.
      apart_stays change declares fits first there is tt label (off_slot change declares fits first there is tt label.slot live)
      (λ part. gone_alike node.label.slot (phrase_at label.slot part) node (off_node change declares fits first there is tt label.slot live))) in
      near_after plan (Some (k ∷ path)) kept (give_way (edit_below change path) k before) after
      (same_given change declares fits first there is tt)
      (near_dropped plan (Marks before) items ends went path k kept before its
      (stays_but plan (Marks before) items (λ was. Unit {0}) path k before node there tt stay))

  -- an item comes
  pub near_came : (declares : Bool) → PlanFits plan declares (λ other. []) path item node
      → slice_get (nodes after) k ≡ Some item → node_at after (k ∷ path) ≡ Some node
      → roomless before ≡ roomless (edit_slot node.label.slot (λ other. []) after)
      → is_of_item plan.what ≡ true → is_added plan.what ≡ true
      → Near plan (Some (k ∷ path)) 0 (item_edited plan (Some (k ∷ path)) kept after) after
  near_came declares fits first there is ends came =
      let change : PlainNode → List PlainNode = (λ other. []) in
      let less : roomless before ≡ roomless (give_way (edit_below change path) k after) =
      is ∙ ap roomless (path_edit room by_path after before change k path node there once_after is) in
      let off : (n : ℕ) → 1 ≤ times n (give_way (edit_below change path) k after) → times n (forest (node ∷ [])) ≡ 0 =
      (λ n live. omega (arith, live, once_after n, times_given n change path k after node there)) in
      let stay : LiveStay plan (Marks before) items (give_way (edit_below change path) k after) =
      (λ label live.
      let n = label.slot in
      let apart : n ≡ node.label.slot → ⊥ = (λ here. omega (arith, off n live, once_here node.label.slot n (sym here))) in
      stays_by plan (Marks before) items label declares change path item node fits (item_is_node after k path item node first there) apart
      (λ quiet deep. (
        (λ part.
            sym
            (marks_edited room by_path after before change k path node there once_after is quiet deep (phrase_at n part) apart
            (gone_alike node.label.slot (phrase_at n part) node (off n live)))
            ∙ ap (λ (m : MarkMap). get m (phrase_at n part)) (sym marked)),
        tells n ∙ sym (items_edited room by_path after before change k path node there once_after is quiet deep n) ∙ sym (scope n),
      ))
      (λ other.
      tells n ∙ sym (items_others room by_path after before change k path node there once_after is item first tt n other) ∙ sym (scope n))) in
      near_added plan (Marks before) items ends came path k kept after (its ∙ kept_alike (Marks before) items before (give_way (edit_below change path) k after) less)
      (all_from plan (Marks before) items (give_way (edit_below change path) k after) stay)
      (ap is_some there)
