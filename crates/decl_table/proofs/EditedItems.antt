-- The effective items of all procedures after an edit: those of one procedure are taken anew, or none are, where it went, and
-- all others stay.
use Rattle.std.specs.Prelude.{◌≡◌, refl, ℕ, zero, suc, Bool, true, false, ◌||◌, cond, nat_eq, nat_lt, List, [], ◌∷◌, length, Option, Some, None, option_and_then, option_map, slice_get, unwrap_or}
use Rattle.std.specs.FinMap.{get, get-insert, get-remove, insert, remove}
use Rattle.std.proofs.Common.{ap, sym, ◌∙◌, subst, arith, eq-eqb, eqb-true, true≢false}
use Rattle.std.proofs.lemmas.Cmp.{nat_cmp_total}
use Rattle.std.proofs.lemmas.Option.{none-some}
use Rattle.plcs_base.specs.PlaceOrder.{nat_ties}
use Rattle.plcs_base.specs.Scope.{ItemMap}
use Rattle.plcs_base.specs.declared.declared.Declared.{Declared}
use Rattle.template_tree.specs.declared.change.What.{What}
use Rattle.template_tree.specs.Checks.Environment.{Items, items_inside}
use Rattle.template_tree.specs.Checks.ProgramMaps.{ScopeTells, items_in}
use Rattle.template_tree.specs.Laws.RoomLaws.{SlotsIgnoreRoom}
use Rattle.template_tree.specs.Laws.TreeLaws.{SlotEditIsPathEdit}
use Rattle.template_tree.specs.Positions.Path.{below, node_at, slot_at}
use Rattle.template_tree.specs.Programs.PlainTree.{Forest, PlainNode, PlainTree, forest, nodes}
use Rattle.template_tree.specs.Programs.Tree.{IsTree}
use Rattle.decl_table.specs.DeclEdit.{PlainNameEdit, items_changed}
use Rattle.decl_table.specs.Names.{NameForest}
use Rattle.decl_table.specs.Private.ChangeBefore.{IsBeforeChange, IsEditOf, part_of}
use Rattle.decl_table.specs.Private.ItemChangeView.{item_left, items_become, procedure_left}
use Rattle.decl_table.specs.Private.PlainNameNode.{PlainNameNode}
use Rattle.decl_table.specs.Private.ReachView.{has_items, names_bind, reach_of}
use Rattle.decl_table.proofs.EditGaps.{EditGap, items_apart, items_stay}
use Rattle.decl_table.proofs.EditedNodes.{StandsAt, gap_drop}
use Rattle.decl_table.proofs.EditedScopes.{counted, items_nowhere, items_there}
use Rattle.decl_table.proofs.Gaps.{Gap, IsGapAt, filled, times_gap}
use Rattle.decl_table.proofs.PreparedNames.{same_times}

-- ---- the map of items

-- the list under a slot, where one is put there
pub in_insert : (items : ItemMap) (own : ℕ) (list : List Declared) (q : ℕ)
    → items_in (insert items own list) q ≡ cond (nat_eq q own) list (items_in items q)
in_insert items own list q =
    ap (λ o. unwrap_or o [])
    (get-insert nat_cmp_total items own list q ∙ ap (λ b. cond b (Some list) (get items q)) (sym (nat_ties q own)))
    ∙ by (nat_eq q own)
  where
    by : (b : Bool) → unwrap_or (cond b (Some list) (get items q)) [] ≡ cond b list (unwrap_or (get items q) [])
    by true = refl
    by false = refl

pub in_remove : (items : ItemMap) (own : ℕ) (q : ℕ) → items_in (remove items own) q ≡ cond (nat_eq q own) [] (items_in items q)
in_remove items own q =
    ap (λ o. unwrap_or o [])
    (get-remove nat_cmp_total items own q ∙ ap (λ b. cond b None (get items q)) (sym (nat_ties q own)))
    ∙ by (nat_eq q own)
  where
    by : (b : Bool) → unwrap_or (cond b None (get items q)) [] ≡ cond b [] (unwrap_or (get items q) [])
    by true = refl
    by false = refl

-- the list that was put under a slot
pub found_insert : (items new : ItemMap) (own : ℕ) (list : List Declared) → new ≡ insert items own list → get new own ≡ Some list
found_insert items new own list is =
    ap (λ (m : ItemMap). get m own) is
    ∙ get-insert nat_cmp_total items own list own
    ∙ ap (λ b. cond b (Some list) (get items own)) (sym (nat_ties own own) ∙ eq-eqb own own refl)

-- the map tells of a program where it tells of the one before, and of a procedure what is put there
tells_set : (items : ItemMap) (before after : Forest) (own : ℕ) (list : List Declared) → ScopeTells items before → list ≡ Items after own
    → ((q : ℕ) → (own ≡ q → ⊥) → Items before q ≡ Items after q) → ScopeTells (insert items own list) after
tells_set items before after own list tells is others q = in_insert items own list q ∙ by (nat_eq q own) refl
  where
    by : (b : Bool) → nat_eq q own ≡ b → cond b list (items_in items q) ≡ Items after q
    by true e = is ∙ ap (Items after) (sym (eqb-true q own e))
    by false e = tells q ∙ others q (λ same. true≢false (sym (eq-eqb q own (sym same)) ∙ e))

tells_gone : (items : ItemMap) (before after : Forest) (own : ℕ) → ScopeTells items before → Items after own ≡ []
    → ((q : ℕ) → (own ≡ q → ⊥) → Items before q ≡ Items after q) → ScopeTells (remove items own) after
tells_gone items before after own tells is others q = in_remove items own q ∙ by (nat_eq q own) refl
  where
    by : (b : Bool) → nat_eq q own ≡ b → cond b [] (items_in items q) ≡ Items after q
    by true e = sym (is) ∙ ap (Items after) (sym (eqb-true q own e))
    by false e = tells q ∙ others q (λ same. true≢false (sym (eq-eqb q own (sym same)) ∙ e))

-- ---- the item in which something was changed

-- the item at a number, by the path to it alone
item_at : (items : Forest) (k : ℕ) → node_at items (k ∷ []) ≡ slice_get (nodes items) k
item_at items k = by (slice_get (nodes items) k)
  where
    by : (o : Option PlainNode) → option_and_then (λ item. below item []) o ≡ o
    by None = refl
    by (Some node) = refl

-- one is there where a node is at a longer path
item_there : (items : Forest) (k : ℕ) (path : List ℕ) (node : PlainNode) → node_at items (k ∷ path) ≡ Some node
    → (item : PlainNode) × (slice_get (nodes items) k ≡ Some item)
item_there items k path node there = by (slice_get (nodes items) k) refl there
  where
    by : (o : Option PlainNode) → slice_get (nodes items) k ≡ o → option_and_then (λ item. below item path) o ≡ Some node
        → (item : PlainNode) × (slice_get (nodes items) k ≡ Some item)
    by None e f = absurd (none-some node f)
    by (Some item) e f = (item, e)

-- and where a gap is inside it
item_around : (items : Forest) (gap : Gap) (k j : ℕ) (path : List ℕ) → IsGapAt k (j ∷ path) gap
    → (item : PlainNode) × (slice_get (nodes (filled items gap)) k ≡ Some item)
item_around items (Gap.here rest) zero j path at = absurd at
item_around items (Gap.inside label inner rest) zero j path at = (record { label = label; inner = filled items inner }, refl)
item_around items (Gap.behind label inner rest) zero j path at = absurd at
item_around items (Gap.here rest) (suc k) j path at = absurd at
item_around items (Gap.inside label inner rest) (suc k) j path at = absurd at
item_around items (Gap.behind label inner rest) (suc k) j path at = item_around items rest k j path at

-- ---- what stands there after the edit

same_some : (o : Option PlainNode) (x y : PlainNode) → o ≡ Some x → o ≡ Some y → x ≡ y
same_some None x y f g = absurd (none-some x f)
same_some (Some z) x y f g =
    let one : z ≡ x = cc in
    let other : z ≡ y = cc in
    sym one ∙ other

left_some : (w : What) (path : List ℕ) (o : Option PlainNode) (node : PlainNode) → item_left w path o ≡ Some node → o ≡ Some node
left_some What.Node path o node is = is
left_some (What.Part part) path o node is = is
left_some What.Added path o node is = is
left_some What.Dropped [] o node is = absurd (none-some node is)
left_some What.Dropped (j ∷ path) o node is = is

pub left_inside : (w : What) (j : ℕ) (path : List ℕ) (o : Option PlainNode) → item_left w (j ∷ path) o ≡ o
left_inside What.Node j path o = refl
left_inside (What.Part part) j path o = refl
left_inside What.Added j path o = refl
left_inside What.Dropped j path o = refl

module _ (law : SlotEditIsPathEdit) (slots : SlotsIgnoreRoom) (slot : ℕ) (after : PlainTree) (is : IsTree after) (path : List ℕ) where
  -- the node at a path of one number is the item there
  at_item : (k : ℕ) → path ≡ k ∷ [] → (node : PlainNode) → node_at after.items path ≡ Some node → slice_get (nodes after.items) k ≡ Some node
  at_item k way node there = sym (item_at after.items k) ∙ sym (ap (node_at after.items) way) ∙ there

  in_own : (k : ℕ) → path ≡ k ∷ [] → (other : PlainNode) → node_at after.items path ≡ Some other → other.label.slot ≡ slot
      → (node : PlainNode) → slice_get (nodes after.items) k ≡ Some node → node.label.slot ≡ slot
  in_own k way other there in_it node found =
      ap (λ (n : PlainNode). n.label.slot) (same_some (slice_get (nodes after.items) k) node other found (at_item k way other there)) ∙ in_it

-- an item that was dropped is no procedure any more
dropped_none : SlotEditIsPathEdit → (names : NameForest) (slot : ℕ) (after : PlainTree) (b : IsBeforeChange What.Dropped slot names after)
    (path : List ℕ) (old : PlainNode) → node_at b.before.items path ≡ Some old → old.label.slot ≡ slot → Items after.items slot ≡ []
dropped_none law names slot after b path old stood was_in =
    let gap = gap_drop law names slot after b path old stood was_in in
    let one = counted old.label.slot slot was_in in
    let all = times_gap slot (forest (old ∷ [])) gap.gap in
    items_nowhere after.items slot
    (omega (arith, same_times slot after.items (filled (forest []) gap.gap) gap.is, one, all, gap.once slot))

module _ (law : SlotEditIsPathEdit) (slots : SlotsIgnoreRoom) (names : NameForest) (slot : ℕ) (after : PlainTree) (is : IsTree after)
    (edit : PlainNameEdit) where
  -- where the item itself was changed, it is in the slot of the edit
  own_slot : (w : What) (b : IsBeforeChange w slot names after) → IsEditOf w slot b.before.items after.items edit → (k : ℕ)
      → edit.path ≡ k ∷ [] → (node : PlainNode) → item_left w [] (slice_get (nodes after.items) k) ≡ Some node → node.label.slot ≡ slot
  own_slot What.Node b (one, other, stood, there, was_in, in_it, mend) k way node found =
      in_own law slots slot after is edit.path k way other there in_it node found
  own_slot (What.Part part) b (one, other, stood, there, was_in, in_it, mend) k way node found =
      in_own law slots slot after is edit.path k way other there in_it node found
  own_slot What.Added b (other, room, there, in_it, mend) k way node found =
      in_own law slots slot after is edit.path k way other there in_it node found
  own_slot What.Dropped b of k way node found = absurd (none-some node found)

  -- or it has none
  gone_none : (w : What) (b : IsBeforeChange w slot names after) → IsEditOf w slot b.before.items after.items edit → (k : ℕ)
      → edit.path ≡ k ∷ [] → item_left w [] (slice_get (nodes after.items) k) ≡ None → Items after.items slot ≡ []
  gone_none What.Node b (one, other, stood, there, was_in, in_it, mend) k way found =
      absurd (none-some other (sym found ∙ at_item law slots slot after is edit.path k way other there))
  gone_none (What.Part part) b (one, other, stood, there, was_in, in_it, mend) k way found =
      absurd (none-some other (sym found ∙ at_item law slots slot after is edit.path k way other there))
  gone_none What.Added b (other, room, there, in_it, mend) k way found =
      absurd (none-some other (sym found ∙ at_item law slots slot after is edit.path k way other there))
  gone_none What.Dropped b (old, stood, was_in, mend) k way found = dropped_none law names slot after b edit.path old stood was_in

-- ---- after the edit

pub items_after_edit : SlotEditIsPathEdit → SlotsIgnoreRoom → (what : What) (names : NameForest) (slot : ℕ) (after : PlainTree) → IsTree after
    → (b : IsBeforeChange what slot names after) → (edit : PlainNameEdit) → IsEditOf what slot b.before.items after.items edit
    → (old new : Option PlainNameNode) → EditGap (part_of what) slot edit.path b.before.items after.items old new
    → (items : ItemMap) → ScopeTells items b.before.items
    → ScopeTells
    (items_changed
    (items_become (has_items (reach_of (nat_lt 1 (length edit.path)) (names_bind old || names_bind new) (part_of what))) slot
    (procedure_left what edit.path after.items))
    items)
    after.items
items_after_edit law slots what names slot after is b edit of old new e items tells =
    by (has_items (reach_of (nat_lt 1 (length edit.path)) (names_bind old || names_bind new) (part_of what))) refl edit.path refl e.gap.place
  where
    set : (k : ℕ) (way : List ℕ) → edit.path ≡ k ∷ way → (node : PlainNode) → slice_get (nodes after.items) k ≡ Some node
        → (way ≡ [] → node.label.slot ≡ slot) → ScopeTells (insert items node.label.slot (items_inside node.inner)) after.items
    set k way path_is node there own =
        tells_set items b.before.items after.items node.label.slot (items_inside node.inner) tells
        (sym (items_there after.items k node there (is.once node.label.slot)))
        (items_apart (part_of what) slot edit.path b.before.items after.items old new e slots k way path_is node.label.slot own
        (λ j rest longer. ap (option_map (λ (n : PlainNode). n.label.slot)) (item_at after.items k ∙ there)))

    here : (k : ℕ) → edit.path ≡ k ∷ [] → (found : Option PlainNode) → item_left what [] (slice_get (nodes after.items) k) ≡ found
        → ScopeTells (items_changed (items_become true slot found) items) after.items
    here k way None found =
        tells_gone items b.before.items after.items slot tells (gone_none law slots names slot after is edit what b of k way found)
        (items_apart (part_of what) slot edit.path b.before.items after.items old new e slots k [] way slot (λ none. refl)
        (λ j rest longer. absurd (differ j rest longer)))
      where
        differ : (j : ℕ) (rest : List ℕ) → (let none : List ℕ = [] in none) ≡ j ∷ rest → ⊥
        differ j rest longer = let l : 0 ≡ length (j ∷ rest) = ap length longer in omega (arith, l)
    here k way (Some node) found =
        set k [] way node (left_some what [] (slice_get (nodes after.items) k) node found)
        (λ none. own_slot law slots names slot after is edit what b of k way node found)

    within : (k j : ℕ) (rest : List ℕ) → edit.path ≡ k ∷ (j ∷ rest) → StandsAt (k ∷ (j ∷ rest)) e.gap.gap → (found : Option PlainNode)
        → slice_get (nodes after.items) k ≡ found → ScopeTells (items_changed (items_become true slot found) items) after.items
    within k j rest way at None found =
        let inside = item_around (forest e.came) e.gap.gap k j rest at in
        let at_slot : slot_at after.items (k ∷ []) ≡ Some inside.0.label.slot =
        sym (slots after.items (k ∷ [])) ∙ ap (λ f. slot_at f (k ∷ [])) e.gap.is ∙ slots (filled (forest e.came) e.gap.gap) (k ∷ [])
        ∙ ap (option_map (λ (n : PlainNode). n.label.slot)) (item_at (filled (forest e.came) e.gap.gap) k ∙ inside.1) in
        absurd
        (none-some inside.0.label.slot
        (sym (ap (option_map (λ (n : PlainNode). n.label.slot)) (item_at after.items k ∙ found)) ∙ at_slot))
    within k j rest way at (Some node) found = set k (j ∷ rest) way node found (λ none. absurd (differ none))
      where
        differ : j ∷ rest ≡ [] → ⊥
        differ none = let l : length (j ∷ rest) ≡ 0 = ap length none in omega (arith, l)

    by : (flag : Bool) → has_items (reach_of (nat_lt 1 (length edit.path)) (names_bind old || names_bind new) (part_of what)) ≡ flag
        → (path : List ℕ) → edit.path ≡ path → StandsAt path e.gap.gap
        → ScopeTells (items_changed (items_become flag slot (procedure_left what path after.items)) items) after.items
    by false out path way at =
        λ q. tells q ∙ items_stay (part_of what) slot edit.path b.before.items after.items old new e out q
    by true out [] way at = absurd at
    by true out (k ∷ []) way at = here k way (item_left what [] (slice_get (nodes after.items) k)) refl
    by true out (k ∷ (j ∷ rest)) way at =
        subst (λ found. ScopeTells (items_changed (items_become true slot found) items) after.items)
        (sym (left_inside what j rest (slice_get (nodes after.items) k)))
        (within k j rest way at (slice_get (nodes after.items) k) refl)
