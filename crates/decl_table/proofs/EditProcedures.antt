-- The procedure of an edit: main or the procedure in which the edit was made, before it and after it.
use Rattle.std.proofs.Common.{◌≡◌, ℕ, zero, suc, ◌≤◌, Bool, true, List, [], ◌∷◌, ◌++◌, length, Option, Some, None, refl, ap, sym, subst, ◌∙◌, arith, eq-eqb, ne_eqb, lt-ltb}
use Rattle.std.specs.Prelude.{All, cond, find, if◌then◌else◌, nat_lt, option_and_then, option_map, slice_get}
use Rattle.std.proofs.lemmas.Option.{none-some, same_Some}
use Rattle.plcs_grammar.specs.Template.{program_sections}
use Rattle.plcs_grammar.specs.declared.node_kind.Sort.{Sort}
use Rattle.template_tree.specs.declared.change.What.{What}
use Rattle.template_tree.specs.Checks.Environment.{procedure_at}
use Rattle.template_tree.specs.Edits.Edit.{changed_in, procedure_of}
use Rattle.template_tree.specs.Laws.TreeLaws.{SlotEditIsPathEdit}
use Rattle.template_tree.specs.Positions.Path.{below, node_at, slot_at}
use Rattle.template_tree.specs.Programs.PlainTree.{Forest, Label, PlainNode, PlainTree, forest, nodes, roomless, roomless_node}
use Rattle.template_tree.specs.Programs.Program.{Fill, sort_of, sorts}
use Rattle.template_tree.specs.Programs.Slots.{times}
use Rattle.template_tree.specs.Programs.Tree.{IsTree}
use Rattle.decl_table.specs.DeclEdit.{PlainNameEdit}
use Rattle.decl_table.specs.Due.{binds_names}
use Rattle.decl_table.specs.Names.{NameForest}
use Rattle.decl_table.specs.Private.ChangeBefore.{IsBeforeChange, IsEditOf}
use Rattle.decl_table.specs.Private.ItemChangeView.{procedure_left}
use Rattle.decl_table.proofs.EditedNodes.{HasGapOf, gap_add, gap_drop}
use Rattle.decl_table.proofs.EditedScopes.{counted}
use Rattle.decl_table.proofs.Gaps.{Gap, IsGapAt, filled, times_gap}
use Rattle.decl_table.proofs.PreparedNames.{same_times}
use Rattle.decl_table.proofs.SitedNodes.{live_at}

abbrev taken : PlainNode → Option PlainNode → PlainNode
taken node None = node
taken node (Some there) = there

-- ---- the items of a program bind names

-- nodes of each of the sorts bind names
abbrev pub AllBind : List Sort → Type 0
AllBind [] = Unit {0}
AllBind (sort ∷ rest) = (binds_names sort ≡ true) × AllBind rest

all_procedures : (items : List Sort) → All (λ item. item ≡ Sort.Procedure) items → AllBind items
all_procedures [] are = tt
all_procedures (sort ∷ rest) are =
    (ap binds_names (are 0 sort (omega arith)), all_procedures rest (λ k d less. are (suc k) d (omega (arith, less))))

join_bind : (one other : List Sort) → AllBind one → AllBind other → AllBind (one ++ other)
join_bind [] other first behind = behind
join_bind (sort ∷ one) other first behind = (first.0, join_bind one other first.1 behind)

program_binds : (items : Forest) → Fill program_sections (sorts items) → AllBind (sorts items)
program_binds items (main, others, all, one, (own, none, behind, procedures, last)) =
    subst AllBind (sym all)
    (join_bind main others (subst AllBind (sym one) (refl, tt))
    (subst AllBind (sym behind)
    (join_bind own none (all_procedures own procedures.1) (subst AllBind (sym last) tt))))

at_top : (items : Forest) (k : ℕ) (node : PlainNode) → AllBind (sorts items) → node_at items (k ∷ []) ≡ Some node
    → binds_names (sort_of node.label.kind) ≡ true
at_top Forest.nil k node bind there = absurd (none-some node there)
at_top (Forest.cons label inner rest) zero node bind there =
    subst (λ (n : PlainNode). binds_names (sort_of n.label.kind) ≡ true) (ap (taken node) there) bind.0
at_top (Forest.cons label inner rest) (suc k) node bind there = at_top rest k node bind.1 there

-- main and procedures bind names
pub item_binds : (tree : PlainTree) → IsTree tree → (k : ℕ) (node : PlainNode) → node_at tree.items (k ∷ []) ≡ Some node
    → binds_names (sort_of node.label.kind) ≡ true
item_binds tree is k node there = at_top tree.items k node (program_binds tree.items is.program.listed) there

-- ---- an item by its number

pub item_at : (items : Forest) (k : ℕ) → node_at items (k ∷ []) ≡ slice_get (nodes items) k
item_at items k = by (slice_get (nodes items) k)
  where
    by : (o : Option PlainNode) → option_and_then (λ (item : PlainNode). below item []) o ≡ o
    by None = refl
    by (Some node) = refl

-- the item in which a node is
pub item_of : (items : Forest) (k : ℕ) (path : List ℕ) (node : PlainNode) → node_at items (k ∷ path) ≡ Some node
    → (item : PlainNode) × (slice_get (nodes items) k ≡ Some item)
item_of items k path node there = by (slice_get (nodes items) k) refl there
  where
    by : (o : Option PlainNode) → slice_get (nodes items) k ≡ o → option_and_then (λ (item : PlainNode). below item path) o ≡ Some node
        → (item : PlainNode) × (slice_get (nodes items) k ≡ Some item)
    by None e f = absurd (none-some node f)
    by (Some item) e f = (item, e)

pub item_live : (items : Forest) (k : ℕ) (node : PlainNode) → slice_get (nodes items) k ≡ Some node → 1 ≤ times node.label.slot items
item_live Forest.nil k node there = absurd (none-some node there)
item_live (Forest.cons label inner rest) zero node there =
    let one = counted label.slot node.label.slot (ap (λ (n : PlainNode). n.label.slot) (ap (taken node) there)) in omega (arith, one)
item_live (Forest.cons label inner rest) (suc k) node there = let more = item_live rest k node there in omega (arith, more)

-- the item is the procedure in its slot
pub procedure_there : (items : Forest) (k : ℕ) (node : PlainNode) → slice_get (nodes items) k ≡ Some node → times node.label.slot items ≤ 1
    → procedure_at items node.label.slot ≡ Some node
procedure_there Forest.nil k node there once = absurd (none-some node there)
procedure_there (Forest.cons label inner rest) zero node there once =
    ap
    (λ (b : Bool). if b then Some record { label = label; inner = inner } else procedure_at rest node.label.slot)
    (eq-eqb label.slot node.label.slot (ap (λ (n : PlainNode). n.label.slot) (ap (taken node) there)))
    ∙ there
procedure_there (Forest.cons label inner rest) (suc k) node there once =
    let live = item_live rest k node there in
    ap
    (λ (b : Bool). if b then Some record { label = label; inner = inner } else procedure_at rest node.label.slot)
    (ne_eqb label.slot node.label.slot (λ same. let one = counted label.slot node.label.slot same in omega (arith, one, live, once)))
    ∙ procedure_there rest k node there (omega (arith, once))

-- a slot that doesn't stand is that of none
pub procedure_nowhere : (items : Forest) (slot : ℕ) → times slot items ≡ 0 → procedure_at items slot ≡ None
procedure_nowhere Forest.nil slot none = refl
procedure_nowhere (Forest.cons label inner rest) slot none =
    ap
    (λ (b : Bool). if b then Some record { label = label; inner = inner } else procedure_at rest slot)
    (ne_eqb label.slot slot (λ same. let one = counted label.slot slot same in omega (arith, one, none)))
    ∙ procedure_nowhere rest slot (omega (arith, none))

-- items with the same slot are the same
pub same_item : (items : Forest) (k j : ℕ) (one other : PlainNode) → slice_get (nodes items) k ≡ Some one → slice_get (nodes items) j ≡ Some other
    → one.label.slot ≡ other.label.slot → times one.label.slot items ≤ 1 → one ≡ other
same_item items k j one other there too same once =
    same_Some one other
    (sym (procedure_there items k one there once)
    ∙ ap (procedure_at items) same
    ∙ procedure_there items j other too (subst (λ (n : ℕ). times n items ≤ 1) same once))

-- ---- the item of a slot

-- the slot of the item in which a node is, found by the node's slot
pub found_by : (items : Forest) (k : ℕ) (path : List ℕ) (node item : PlainNode) → node_at items (k ∷ path) ≡ Some node
    → slice_get (nodes items) k ≡ Some item → times node.label.slot items ≤ 1 → procedure_of items node.label.slot ≡ Some item.label.slot
found_by Forest.nil k path node item there is once = absurd (none-some item is)
found_by (Forest.cons label inner rest) zero path node item there is once =
    let live = live_at node.label.slot (Forest.cons label inner Forest.nil) (zero ∷ path) node there refl in
    ap
    (λ (b : Bool).
    option_map (λ (n : PlainNode). n.label.slot)
    (cond b (Some record { label = label; inner = inner })
    (find (λ (n : PlainNode). nat_lt 0 (times node.label.slot (forest (n ∷ [])))) (nodes rest))))
    (lt-ltb 0 (times node.label.slot (Forest.cons label inner Forest.nil)) (omega (arith, live)))
    ∙ ap (λ (n : PlainNode). Some n.label.slot) (ap (taken item) is)
found_by (Forest.cons label inner rest) (suc k) path node item there is once =
    let live = live_at node.label.slot rest (k ∷ path) node there refl in
    let none : times node.label.slot (Forest.cons label inner Forest.nil) ≡ 0 = omega (arith, live, once) in
    ap
    (λ (n : ℕ).
    option_map (λ (m : PlainNode). m.label.slot)
    (cond (nat_lt 0 n) (Some record { label = label; inner = inner })
    (find (λ (m : PlainNode). nat_lt 0 (times node.label.slot (forest (m ∷ [])))) (nodes rest))))
    none
    ∙ found_by rest k path node item there is (omega (arith, once))

-- ---- items that are the same but for room

-- an item of nodes that are the same but for room
pub item_alike : (one other : Forest) (k : ℕ) (item : PlainNode) → roomless one ≡ roomless other → slice_get (nodes one) k ≡ Some item
    → (there : PlainNode) × (slice_get (nodes other) k ≡ Some there) × (roomless_node there ≡ roomless_node item)
item_alike one other k item same there = by (slice_get (nodes other) k) refl
  where
    bare : (items : Forest) (j : ℕ) → slice_get (nodes (roomless items)) j ≡ option_map roomless_node (slice_get (nodes items) j)
    bare Forest.nil j = refl
    bare (Forest.cons label inner rest) zero = refl
    bare (Forest.cons label inner rest) (suc j) = bare rest j

    alike : option_map roomless_node (slice_get (nodes other) k) ≡ Some (roomless_node item)
    alike =
        sym (bare other k) ∙ sym (ap (λ (f : Forest). slice_get (nodes f) k) same) ∙ bare one k
        ∙ ap (option_map roomless_node) there

    by : (o : Option PlainNode) → slice_get (nodes other) k ≡ o
        → (found : PlainNode) × (slice_get (nodes other) k ≡ Some found) × (roomless_node found ≡ roomless_node item)
    by None e = absurd (none-some (roomless_node item) (sym (ap (option_map roomless_node) e) ∙ alike))
    by (Some found) e =
        (found, e, same_Some (roomless_node found) (roomless_node item) (sym (ap (option_map roomless_node) e) ∙ alike))

-- ---- the item around a gap

-- the item of this number has the gap inside it
pub record IsAround (gap : Gap) (k : ℕ) : Type 0 where
  pub label : Label
  pub hole : Gap
  pub item : (items : Forest) → slice_get (nodes (filled items gap)) k ≡ Some record { label = label; inner = filled items hole }

pub around : (k j : ℕ) (path : List ℕ) (gap : Gap) → IsGapAt k (j ∷ path) gap → IsAround gap k
around zero j path (Gap.here rest) at = absurd at
around zero j path (Gap.inside label inner rest) at = record { label = label; hole = inner; item = λ items. refl }
around zero j path (Gap.behind label inner rest) at = absurd at
around (suc k) j path (Gap.here rest) at = absurd at
around (suc k) j path (Gap.inside label inner rest) at = absurd at
around (suc k) j path (Gap.behind label inner rest) at =
    let later = around k j path rest at in
    record { label = later.label; hole = later.hole; item = later.item }

-- the item in which an edit was made, before it and after it
pub record IsEditedItem (before after : Forest) (k : ℕ) : Type 0 where
  pub was : PlainNode
  pub is : PlainNode
  pub was_there : slice_get (nodes before) k ≡ Some was
  pub is_there : slice_get (nodes after) k ≡ Some is
  pub same : (record was.label { spare = 0 }) ≡ (record is.label { spare = 0 })

pub edited_item : (k j : ℕ) (path : List ℕ) (before after : Forest) (old new : List PlainNode) → HasGapOf (k ∷ (j ∷ path)) before after old new
    → IsEditedItem before after k
edited_item k j path before after old new gap =
    let item = around k j path gap.gap gap.place in
    let was = item_alike (filled (forest old) gap.gap) before k record { label = item.label; inner = filled (forest old) item.hole } (sym gap.was)
    (item.item (forest old)) in
    let is = item_alike (filled (forest new) gap.gap) after k record { label = item.label; inner = filled (forest new) item.hole } (sym gap.is)
    (item.item (forest new)) in
    record {
      was = was.0;
      is = is.0;
      was_there = was.1;
      is_there = is.1;
      same = ap (λ (n : PlainNode). n.label) was.2 ∙ sym (ap (λ (n : PlainNode). n.label) is.2);
    }

-- ---- where a slot doesn't stand

-- an item that was added stood nowhere before
pub added_fresh : SlotEditIsPathEdit → (names : NameForest) (slot : ℕ) (after : PlainTree) → IsTree after
    → (b : IsBeforeChange What.Added slot names after) → (path : List ℕ) (node : PlainNode)
    → node_at after.items path ≡ Some node → node.label.slot ≡ slot → times slot b.before.items ≡ 0
added_fresh law names slot after is b path node there in_it =
    let gap = gap_add law names slot after is b path node there in_it in
    let one = counted node.label.slot slot in_it in
    let all = times_gap slot (forest (node ∷ [])) gap.gap in
    let came = same_times slot after.items (filled (forest (node ∷ [])) gap.gap) gap.is in
    omega (arith, same_times slot b.before.items (filled (forest []) gap.gap) gap.was, one, all, came, is.once slot)

-- one that was dropped stands nowhere after
pub dropped_gone : SlotEditIsPathEdit → (names : NameForest) (slot : ℕ) (after : PlainTree) (b : IsBeforeChange What.Dropped slot names after)
    (path : List ℕ) (old : PlainNode) → node_at b.before.items path ≡ Some old → old.label.slot ≡ slot → times slot after.items ≡ 0
dropped_gone law names slot after b path old stood was_in =
    let gap = gap_drop law names slot after b path old stood was_in in
    let one = counted old.label.slot slot was_in in
    let all = times_gap slot (forest (old ∷ [])) gap.gap in
    omega (arith, same_times slot after.items (filled (forest []) gap.gap) gap.is, one, all, gap.once slot)

pub fresh_before : SlotEditIsPathEdit → (what : What) (names : NameForest) (slot : ℕ) (after : PlainTree) → IsTree after
    → (b : IsBeforeChange what slot names after) (edit : PlainNameEdit) → IsEditOf what slot b.before.items after.items edit
    → what ≡ What.Added → times slot b.before.items ≡ 0
fresh_before law What.Node names slot after is b edit of added = absurd (cc)
fresh_before law (What.Part part) names slot after is b edit of added = absurd (cc)
fresh_before law What.Added names slot after is b edit (node, room, there, in_it, mend) added =
    added_fresh law names slot after is b edit.path node there in_it
fresh_before law What.Dropped names slot after is b edit of added = absurd (cc)

pub gone_after : SlotEditIsPathEdit → (what : What) (names : NameForest) (slot : ℕ) (after : PlainTree)
    → (b : IsBeforeChange what slot names after) (edit : PlainNameEdit) → IsEditOf what slot b.before.items after.items edit
    → what ≡ What.Dropped → times slot after.items ≡ 0
gone_after law What.Node names slot after b edit of dropped = absurd (cc)
gone_after law (What.Part part) names slot after b edit of dropped = absurd (cc)
gone_after law What.Added names slot after b edit of dropped = absurd (cc)
gone_after law What.Dropped names slot after b edit (old, stood, was_in, mend) dropped =
    dropped_gone law names slot after b edit.path old stood was_in

-- ---- the procedure of an edit

-- what is found of an item is what there is; where the item itself was changed, it is in the slot of the edit
pub record IsOwnProcedure (program : Forest) (slot own : ℕ) (path : List ℕ) (left : Option PlainNode) : Type 0 where
  pub found : procedure_at program own ≡ left
  pub in_slot : (node : PlainNode) → left ≡ Some node → node.label.slot ≡ own
  pub top : (k : ℕ) → path ≡ k ∷ [] → own ≡ slot
  pub inside : (k j : ℕ) (rest : List ℕ) → path ≡ k ∷ (j ∷ rest) → slot_at program (k ∷ []) ≡ Some own

same_slot : (items : Forest) (slot own : ℕ) (item : PlainNode) → procedure_of items slot ≡ Some own → procedure_of items slot ≡ Some item.label.slot
    → item.label.slot ≡ own
same_slot items slot own item within found = same_Some item.label.slot own (sym found ∙ within)

shorter : {X : Type 0} (k i j : ℕ) (rest : List ℕ) → k ∷ [] ≡ i ∷ (j ∷ rest) → X
shorter k i j rest same = let l : length (k ∷ []) ≡ length (i ∷ (j ∷ rest)) = ap length same in absurd (omega (arith, l))

abbrev first_number : ℕ → List ℕ → ℕ
first_number none [] = none
first_number none (k ∷ path) = k

-- an item that is there
own_there : (after : PlainTree) → IsTree after → (slot own k : ℕ) (path : List ℕ) (item : PlainNode)
    → slice_get (nodes after.items) k ≡ Some item → item.label.slot ≡ own → (path ≡ [] → own ≡ slot)
    → IsOwnProcedure after.items slot own (k ∷ path) (slice_get (nodes after.items) k)
own_there after is slot own k path item there in_own top = record {
  found = ap (procedure_at after.items) (sym in_own) ∙ procedure_there after.items k item there (is.once item.label.slot) ∙ sym there;
  in_slot = λ node some. ap (λ (n : PlainNode). n.label.slot) (same_Some node item (sym some ∙ there)) ∙ in_own;
  top = λ i same. by path i same top;
  inside =
      λ i j rest same.
      ap (λ (n : ℕ). slot_at after.items (n ∷ [])) (sym (ap (first_number k) same))
      ∙ ap (option_map (λ (n : PlainNode). n.label.slot)) (item_at after.items k ∙ there)
      ∙ ap (λ (n : ℕ). Some n) in_own;
}
  where
    by : (way : List ℕ) (i : ℕ) → k ∷ way ≡ i ∷ [] → (way ≡ [] → own ≡ slot) → own ≡ slot
    by [] i same is_top = is_top refl
    by (j ∷ rest) i same is_top = shorter i k j rest (sym same)

-- where the node stands after the edit
standing : (after : PlainTree) → IsTree after → (slot own : ℕ) → procedure_of after.items slot ≡ Some own → (k : ℕ) (path : List ℕ) (node : PlainNode)
    → node_at after.items (k ∷ path) ≡ Some node → node.label.slot ≡ slot
    → IsOwnProcedure after.items slot own (k ∷ path) (slice_get (nodes after.items) k)
standing after is slot own within k path node there in_it =
    let item = item_of after.items k path node there in
    let found = found_by after.items k path node item.0 there item.1 (is.once node.label.slot) in
    let in_own = same_slot after.items slot own item.0 within (ap (procedure_of after.items) (sym in_it) ∙ found) in
    own_there after is slot own k path item.0 item.1 in_own
    (λ top.
    sym in_own
    ∙ ap (λ (n : PlainNode). n.label.slot)
    (same_Some item.0 node (sym item.1 ∙ sym (item_at after.items k) ∙ ap (λ (p : List ℕ). node_at after.items (k ∷ p)) (sym top) ∙ there))
    ∙ in_it)

pub own_procedure : SlotEditIsPathEdit → (what : What) (names : NameForest) (slot own : ℕ) (after : PlainTree) → IsTree after
    → (b : IsBeforeChange what slot names after) (edit : PlainNameEdit) → IsEditOf what slot b.before.items after.items edit
    → procedure_of (changed_in what b.before.items after.items) slot ≡ Some own → (path : List ℕ) → edit.path ≡ path
    → IsOwnProcedure after.items slot own path (procedure_left what path after.items)
own_procedure law What.Node names slot own after is b edit (old, node, stood, there, was_in, in_it, mend) within [] way =
    absurd (none-some node (sym (ap (node_at after.items) way) ∙ there))
own_procedure law What.Node names slot own after is b edit (old, node, stood, there, was_in, in_it, mend) within (k ∷ path) way =
    standing after is slot own within k path node (sym (ap (node_at after.items) way) ∙ there) in_it
own_procedure law (What.Part part) names slot own after is b edit (old, node, stood, there, was_in, in_it, mend) within [] way =
    absurd (none-some node (sym (ap (node_at after.items) way) ∙ there))
own_procedure law (What.Part part) names slot own after is b edit (old, node, stood, there, was_in, in_it, mend) within (k ∷ path) way =
    standing after is slot own within k path node (sym (ap (node_at after.items) way) ∙ there) in_it
own_procedure law What.Added names slot own after is b edit (node, room, there, in_it, mend) within [] way =
    absurd (none-some node (sym (ap (node_at after.items) way) ∙ there))
own_procedure law What.Added names slot own after is b edit (node, room, there, in_it, mend) within (k ∷ path) way =
    standing after is slot own within k path node (sym (ap (node_at after.items) way) ∙ there) in_it
own_procedure law What.Dropped names slot own after is b edit (old, stood, was_in, mend) within [] way =
    absurd (none-some old (sym (ap (node_at b.before.items) way) ∙ stood))
own_procedure law What.Dropped names slot own after is b edit (old, stood, was_in, mend) within (k ∷ []) way =
    let at : slice_get (nodes b.before.items) k ≡ Some old =
    sym (item_at b.before.items k) ∙ sym (ap (node_at b.before.items) way) ∙ stood in
    let found = found_by b.before.items k [] old old (item_at b.before.items k ∙ at) at (b.tree.once old.label.slot) in
    let same : slot ≡ own =
    sym was_in ∙ same_slot b.before.items slot own old within (ap (procedure_of b.before.items) (sym was_in) ∙ found) in
    record {
      found =
          ap (procedure_at after.items) (sym same)
          ∙ procedure_nowhere after.items slot (dropped_gone law names slot after b edit.path old stood was_in);
      in_slot = λ node some. absurd (none-some node some);
      top = λ i only. sym same;
      inside = λ i j rest longer. shorter k i j rest longer;
    }
own_procedure law What.Dropped names slot own after is b edit (old, stood, was_in, mend) within (k ∷ (j ∷ rest)) way =
    let here : node_at b.before.items (k ∷ (j ∷ rest)) ≡ Some old = sym (ap (node_at b.before.items) way) ∙ stood in
    let gap = gap_drop law names slot after b (k ∷ (j ∷ rest)) old here was_in in
    let item = edited_item k j rest b.before.items after.items (old ∷ []) [] gap in
    let found = found_by b.before.items k (j ∷ rest) old item.was here item.was_there (b.tree.once old.label.slot) in
    own_there after is slot own k (j ∷ rest) item.is item.is_there
    (sym (ap (λ (l : Label). l.slot) item.same)
    ∙ same_slot b.before.items slot own item.was within (ap (procedure_of b.before.items) (sym was_in) ∙ found))
    (λ none. let l : length (j ∷ rest) ≡ 0 = ap length none in absurd (omega (arith, l)))
