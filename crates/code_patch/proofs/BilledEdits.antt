-- The bill for an edit covers what its preparation costs, for each of the four changes: own code is made anew of what
-- the edit touched alone.
use Rattle.std.proofs.Common.{◌≡◌, ℕ, ◌+◌, ◌≤◌, ◌⊎◌, inl, inr, Bool, true, false, List, [], ◌∷◌, ◌++◌, length, Option, Some, None, refl, ap, sym, subst, ◌∙◌, arith, eqb-true, true≢false}
use Rattle.std.specs.Prelude.{not, ◌||◌, ◌==◌, if◌then◌else◌, is_some, take, option_map}
use Rattle.std.specs.FinMap.{get}
use Rattle.std.specs.Option.{option_map_or, option_to_list}
use Rattle.std.proofs.lemmas.Option.{none-some, same_Some}
use Rattle.plcs_base.specs.Mark.{MarkMap}
use Rattle.plcs_base.specs.Scope.{ItemMap}
use Rattle.plcs_base.specs.declared.declared.Declared.{Declared}
use Rattle.plcs_grammar.specs.PlainPhrase.{PlainPhrase}
use Rattle.template_tree.specs.declared.change.Change.{Change}
use Rattle.template_tree.specs.declared.change.What.{What}
use Rattle.template_tree.specs.Checks.Marks.{Marks}
use Rattle.template_tree.specs.Checks.Mention.{phrase_at}
use Rattle.template_tree.specs.Checks.ProgramMaps.{ScopeTells, items_in}
use Rattle.template_tree.specs.Edits.Edit.{edit_below, give_way}
use Rattle.template_tree.specs.Laws.RoomLaws.{NodesIgnoreRoom}
use Rattle.template_tree.specs.Positions.Path.{node_at}
use Rattle.template_tree.specs.Programs.Part.{with_part}
use Rattle.template_tree.specs.Programs.PlainTree.{Forest, Label, PlainNode, roomless, roomless_node}
use Rattle.template_tree.specs.Programs.Slots.{times}
use Rattle.plcs_code.specs.Gen.{own_length}
use Rattle.plcs_code.specs.OwnCode.{PlainOwnCode, own_code_by}
use Rattle.plcs_code.specs.Pieces.{count_pieces, has_empty, has_marked_part, own_jumps, own_pieces, suspension}
use Rattle.plcs_code.specs.PlainInstr.{PlainInstr}
use Rattle.plcs_code.specs.ProgramCode.{program_items}
use Rattle.code_patch.specs.Private.CoversTouched.{CoversTouched}
use Rattle.code_patch.specs.Bill.{Bill, billed, encloses_touched, has_touched, is_declaration_at, times_inside, is_of_node}
use Rattle.code_patch.specs.CodeEdit.{roomless_code}
use Rattle.code_patch.specs.CodeForest.{CodeForest, kept_code}
use Rattle.code_patch.specs.Private.EditCosts.{list_cost}
use Rattle.code_patch.specs.Private.NearCode.{PlainPlan, is_added, is_of_item, is_remade, stops_as}
use Rattle.code_patch.proofs.BilledNodes.{AllTouched, or_either, program_paid}
use Rattle.code_patch.proofs.BilledPaths.{Encloses, came_along, drop_ends, gave, part_ends, put_ends}
use Rattle.code_patch.proofs.EditedPrograms.{times_alike}
use Rattle.code_patch.proofs.KeptPlaces.{given_at}
use Rattle.code_patch.proofs.RemadeCode.{stops_same}
use Rattle.code_patch.proofs.Sites.{encloses_there, inside_there}
use Rattle.code_patch.proofs.SlotNodes.{once_here, times_given}

-- the node at a path, of nodes that are the same but for room
alike_path : NodesIgnoreRoom → (one other : Forest) → roomless one ≡ roomless other → (path : List ℕ) (was : PlainNode)
    → node_at other path ≡ Some was → (node : PlainNode) × (node_at one path ≡ Some node) × (roomless_node node ≡ roomless_node was)
alike_path at_room one other same path was there = by (node_at one path) refl
  where
    both : option_map roomless_node (node_at one path) ≡ Some (roomless_node was)
    both =
        sym (at_room one path)
        ∙ ap (λ (f : Forest). node_at f path) same
        ∙ at_room other path
        ∙ ap (λ (o : Option PlainNode). option_map roomless_node o) there

    by : (o : Option PlainNode) → node_at one path ≡ o
        → (node : PlainNode) × (node_at one path ≡ Some node) × (roomless_node node ≡ roomless_node was)
    by None e = absurd (none-some (roomless_node was) (sym (ap (λ (o : Option PlainNode). option_map roomless_node o) e) ∙ both))
    by (Some node) e = (
      node,
      e,
      same_Some (roomless_node node) (roomless_node was) (sym (ap (λ (o : Option PlainNode). option_map roomless_node o) e) ∙ both),
    )

module _ (change : Change) (before after : Forest) (is_touched : ℕ → Bool) (touched : CoversTouched before after change is_touched) where
  -- all nodes whose slots are touched
  all_by : (plan : PlainPlan) (nodes : Forest) → ((n : ℕ) → 1 ≤ times n nodes → is_touched n ≡ true) → AllTouched plan is_touched before nodes
  all_by plan Forest.nil each = tt
  all_by plan (Forest.cons label inner rest) each = (
    each label.slot (omega (arith, once_here label.slot label.slot refl)),
    all_by plan inner (λ n live. each n (omega (arith, live))),
    all_by plan rest (λ n live. each n (omega (arith, live))),
  )

  -- a slot that isn't touched has marks where it had
  module _ (slot : ℕ) (quiet : is_touched slot ≡ false) where
    one_alike : (part : ℕ) → is_some (get (Marks before) (phrase_at slot part)) ≡ is_some (get (Marks after) (phrase_at slot part))
    one_alike part =
        by (is_some (get (Marks before) (phrase_at slot part))) (is_some (get (Marks after) (phrase_at slot part))) refl refl
      where
        by : (a b : Bool) → is_some (get (Marks before) (phrase_at slot part)) ≡ a → is_some (get (Marks after) (phrase_at slot part)) ≡ b → a ≡ b
        by true true e f = refl
        by false false e f = refl
        by true false e f =
            absurd
            (true≢false (sym (touched.marked slot part (λ same. true≢false (sym e ∙ ap is_some same ∙ f))) ∙ quiet))
        by false true e f =
            absurd
            (true≢false (sym (touched.marked slot part (λ same. true≢false (sym f ∙ sym (ap is_some same) ∙ e))) ∙ quiet))

    parts_alike : (part : ℕ) (parts : List (Option PlainPhrase))
        → has_marked_part (Marks before) slot part parts ≡ has_marked_part (Marks after) slot part parts
    parts_alike part [] = refl
    parts_alike part (place ∷ parts) = (λ i. one_alike part i || parts_alike (part + 1) parts i)

    stops_alike : (parts : List (Option PlainPhrase)) → suspension (Marks before) slot parts ≡ suspension (Marks after) slot parts
    stops_alike parts =
        ap
        (λ (b : Bool).
        if has_empty parts then Some PlainInstr.suspend_placeholder else (if b then Some PlainInstr.suspend_marked else None))
        (parts_alike 0 parts)

  -- own code that stops a run otherwise than before is of a touched slot
  stops_touched : (items : ItemMap) (own : PlainOwnCode) (label : Label) → own ≡ own_code_by (Marks before) items label
      → not (stops_as (Marks after) own label) ≡ true → is_touched label.slot ≡ true
  stops_touched items own label its other = by (is_touched label.slot) refl
    where
      by : (b : Bool) → is_touched label.slot ≡ b → is_touched label.slot ≡ true
      by true e = e
      by false e =
          let all = ap (λ (o : PlainOwnCode). o.all_stopped) its ∙ ap is_some (stops_alike label.slot e label.parts) in
          let one = ap (λ (o : PlainOwnCode). o.one_stopped) its ∙ ap is_some (stops_alike label.slot e (take 1 label.parts)) in
          absurd (true≢false (sym other ∙ ap not (stops_same (Marks after) own label all one)))

  module _ (plan : PlainPlan) (items : ItemMap) (kept : CodeForest) (its : roomless_code kept ≡ kept_code (Marks before) items before)
      (once : (n : ℕ) → times n before ≤ 1) (once_after : (n : ℕ) → times n after ≤ 1) (marked : plan.marks ≡ Marks after) (declared : Bool)
      (procedure : plan.procedure ≡ (if declared then Some change.procedure.0 else None))
      (declares : declared ≡ true → (is_declaration_at before change.slot.0 || is_declaration_at after change.slot.0) ≡ true)
      (k : ℕ) (path : List ℕ) where
    -- own code is made anew of what is touched
    remade : (own : PlainOwnCode) (label : Label) → own ≡ own_code_by (Marks before) items label → is_remade plan false own label ≡ true
        → is_touched label.slot ≡ true
    remade own label is made =
        by
        (or_either (option_map_or (λ (p : ℕ). p == own.slot) plan.procedure false) (not (stops_as plan.marks own label)) made)
      where
        of : (d : Bool) → declared ≡ d → option_map_or (λ (p : ℕ). p == own.slot) (if d then Some change.procedure.0 else None) false ≡ true
            → is_touched label.slot ≡ true
        of true e holds =
            let same : change.procedure.0 ≡ label.slot =
            eqb-true change.procedure.0 own.slot holds ∙ ap (λ (o : PlainOwnCode). o.slot) is in
            subst (λ (n : ℕ). is_touched n ≡ true) same (touched.procedure (declares e))
        of false e holds = absurd (true≢false (sym holds))

        by : (option_map_or (λ (p : ℕ). p == own.slot) plan.procedure false ≡ true) ⊎ (not (stops_as plan.marks own label) ≡ true)
            → is_touched label.slot ≡ true
        by (inl holds) =
            of declared refl (sym (ap (λ (o : Option ℕ). option_map_or (λ (p : ℕ). p == own.slot) o false) procedure) ∙ holds)
        by (inr holds) =
            stops_touched items own label is (sym (ap (λ (m : MarkMap). not (stops_as m own label)) marked) ∙ holds)

    encloses : Encloses plan is_touched before (Marks before) items before
    encloses j way item there has = encloses_there before j way item there (once item.label.slot) is_touched ∙ has

    changed_slot : (node : PlainNode) → node.label.slot ≡ change.slot.0 → is_touched node.label.slot ≡ true
    changed_slot node own = ap is_touched own ∙ touched.changed

    -- another node comes
    pub put_billed : NodesIgnoreRoom → (node new : PlainNode) → node_at before (k ∷ path) ≡ Some node → node.label.slot ≡ change.slot.0
        → new.label.slot ≡ change.slot.0 → roomless after ≡ roomless (give_way (edit_below (λ other. new ∷ []) path) k before)
        → change.what ≡ What.Node → is_of_item plan.what ≡ false → is_of_node plan.what ≡ true
        → list_cost plan (Some (k ∷ path)) kept after ≤ billed is_touched before plan.marks plan.items after
    put_billed at_room node new there own new_own is did no_item puts =
        let gives : PlainNode → List PlainNode = (λ other. new ∷ []) in
        let given = give_way (edit_below gives path) k before in
        let (last, last_there, alike) = alike_path at_room after given is (k ∷ path) new (given_at gives new path k before node there refl) in
        let slot : last.label.slot ≡ change.slot.0 = ap (λ (m : PlainNode). m.label.slot) alike ∙ new_own in
        let all : (m : PlainNode) → roomless_node m ≡ roomless_node new → AllTouched plan is_touched before m.inner =
        (λ m same.
        all_by plan m.inner
        (λ n live.
        let as_many : times n last.inner ≡ times n m.inner =
        times_alike n last.inner m.inner (ap (λ (x : PlainNode). x.inner) (alike ∙ sym same)) in
        let inside = inside_there after k path last last_there (once_after last.label.slot) n in
        touched.put did n
        (subst (λ (s : ℕ). 1 ≤ times_inside after s n) slot (omega (arith, live, as_many, inside))))) in
        let (listed, item) =
        gave plan is_touched before (Marks before) items gives node (changed_slot node own)
        (put_ends plan is_touched before (Marks before) items new node no_item puts (changed_slot new new_own) all (changed_slot node own)) path k
        kept before after its is there encloses in
        program_paid plan is_touched before (Marks before) items remade k path kept after listed item

    -- a part is another one
    pub part_billed : (part : ℕ) (place : Option PlainPhrase) (node : PlainNode) → node_at before (k ∷ path) ≡ Some node
        → node.label.slot ≡ change.slot.0
        → roomless after ≡ roomless (give_way (edit_below (λ other. with_part part place other ∷ []) path) k before)
        → is_of_item plan.what ≡ false → is_of_node plan.what ≡ false
        → list_cost plan (Some (k ∷ path)) kept after ≤ billed is_touched before plan.marks plan.items after
    part_billed part place node there own is no_item puts =
        let gives : PlainNode → List PlainNode = (λ other. with_part part place other ∷ []) in
        let (listed, item) =
        gave plan is_touched before (Marks before) items gives node (changed_slot node own)
        (part_ends plan is_touched before (Marks before) items (with_part part place node).label gives node no_item puts refl refl
        (changed_slot node own))
        path k kept before after its is there encloses in
        program_paid plan is_touched before (Marks before) items remade k path kept after listed item

    -- an item goes
    pub drop_billed : (node : PlainNode) → node_at before (k ∷ path) ≡ Some node → node.label.slot ≡ change.slot.0
        → roomless after ≡ roomless (give_way (edit_below (λ other. []) path) k before)
        → is_of_item plan.what ≡ true → is_added plan.what ≡ false
        → list_cost plan (Some (k ∷ path)) kept after ≤ billed is_touched before plan.marks plan.items after
    drop_billed node there own is item went =
        let (listed, came) =
        gave plan is_touched before (Marks before) items (λ other. []) node (changed_slot node own)
        (drop_ends plan is_touched before (Marks before) items node item went (changed_slot node own)) path k kept before after its is there
        encloses in
        program_paid plan is_touched before (Marks before) items remade k path kept after listed came

    -- an item comes
    pub add_billed : (node : PlainNode) → node_at after (k ∷ path) ≡ Some node → node.label.slot ≡ change.slot.0
        → roomless before ≡ roomless (give_way (edit_below (λ other. []) path) k after)
        → roomless_code kept ≡ kept_code (Marks before) items (give_way (edit_below (λ other. []) path) k after)
        → is_of_item plan.what ≡ true → is_added plan.what ≡ true
        → list_cost plan (Some (k ∷ path)) kept after ≤ billed is_touched before plan.marks plan.items after
    add_billed node there own is less item came =
        let all : AllTouched plan is_touched before node.inner =
        all_by plan node.inner
        (λ n live.
        let given = times_given n (λ other. []) path k after node there in
        let as_many = times_alike n before (give_way (edit_below (λ other. []) path) k after) is in
        touched.drawn n (omega (arith, live, given, as_many, once_after n)) (omega (arith, live, given))) in
        let (listed, item_came) =
        came_along plan is_touched before (Marks before) items node (changed_slot node own) all item came path k kept after less there in
        program_paid plan is_touched before (Marks before) items remade k path kept after listed item_came

-- ---- by the items of the program after the edit

-- the own code of a node by the items of its procedure
abbrev own_by_items : MarkMap → Label → List Declared → List PlainInstr
own_by_items marks label its =
    let own = own_pieces marks its label in
    let around = own_jumps marks label (count_pieces own) 0 0 in
    own.before
    ++ (option_to_list around.ahead ++ (option_to_list around.between ++ (own.behind ++ option_to_list around.back)))

-- the bill is the same by all items that tell of the program
pub billed_alike : (is_touched : ℕ → Bool) (before : Forest) (marks : MarkMap) (one other : ItemMap)
    → ((slot : ℕ) → items_in one slot ≡ items_in other slot) → (after : Forest)
    → billed is_touched before marks one after ≡ billed is_touched before marks other after
billed_alike is_touched before marks one other same Forest.nil = refl
billed_alike is_touched before marks one other same (Forest.cons label inner rest) =
    let own : own_length marks one label ≡ own_length marks other label =
    ap (λ (its : List Declared). length (own_by_items marks label its)) (same label.slot) in
    (λ i.
    (if is_touched label.slot then own i
    else (if has_touched is_touched inner || encloses_touched is_touched before label.slot then 2 else 0))
    + (billed_alike is_touched before marks one other same inner i
    + billed_alike is_touched before marks one other same rest i))

-- and so is what is billed for an edit
pub bill_is : (plan : PlainPlan) (is_touched : ℕ → Bool) (before after : Forest) → plan.marks ≡ Marks after → ScopeTells plan.items after
    → ScopeTells (program_items after) after
    → billed is_touched before plan.marks plan.items after ≡ Bill before after is_touched
bill_is plan is_touched before after marked scope tells =
    ap (λ (m : MarkMap). billed is_touched before m plan.items after) marked
    ∙ billed_alike is_touched before (Marks after) plan.items (program_items after) (λ slot. scope slot ∙ sym (tells slot)) after
