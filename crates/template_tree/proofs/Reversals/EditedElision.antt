-- Comments that stand before and after an edit are elided alike.
use Rattle.std.specs.Prelude.{◌≡◌, refl, ℕ, zero, suc, ◌+◌, ◌≤◌, Bool, true, false, ◌==◌, List, [], ◌∷◌, Option, Some, None}
use Rattle.std.proofs.Common.{ap, sym, ◌∙◌, subst, arith}
use Rattle.std.proofs.lemmas.Option.{none-some, same_Some}
use Rattle.plcs_grammar.specs.PlainPhrase.{PlainPhrase}
use Rattle.template_tree.specs.declared.side.Side.{Side}
use Rattle.template_tree.specs.Edits.Edit.{edit_at}
use Rattle.template_tree.specs.Edits.Elision.{is_comment}
use Rattle.template_tree.specs.Edits.Receipt.{PlainUndoing, items_before, with_beside}
use Rattle.template_tree.specs.Edits.Reversal.{coming, comments, elision_in}
use Rattle.template_tree.specs.Positions.Path.{node_at}
use Rattle.template_tree.specs.Programs.Part.{with_part}
use Rattle.template_tree.specs.Programs.PlainTree.{Forest, PlainNode, forest, join, roomless_node}
use Rattle.template_tree.specs.Programs.Slots.{times}
use Rattle.template_tree.proofs.Edits.SameEdits.{edits_alike, taken}
use Rattle.template_tree.proofs.Reversals.ElidedComments.{ElidedAlike, found_counts, found_of, inner_found, own_found, rest_found}
use Rattle.template_tree.proofs.Room.RoomlessEdits.{stays}

-- what was found, was found in the node, in those inside it, or behind it
pub found_where : (comment same here : Bool) (inner rest : Option Bool) (b : Bool) (Goal : Type 0)
    → found_of comment same here inner rest ≡ Some b → (comment ≡ true → same ≡ true → here ≡ b → Goal) → (inner ≡ Some b → Goal)
    → (rest ≡ Some b → Goal) → Goal
found_where true true here inner rest b Goal e own inside behind = own refl refl (same_Some here b e)
found_where true false here (Some x) rest b Goal e own inside behind = inside e
found_where true false here None rest b Goal e own inside behind = behind e
found_where false same here (Some x) rest b Goal e own inside behind = inside e
found_where false same here None rest b Goal e own inside behind = behind e

-- where nothing is found in nodes, what is found is found in those behind them
record Behind (comment same here : Bool) (inner rest : Option Bool) : Type 0 where
  none : rest ≡ None
  others : (other : Option Bool) → found_of comment same here inner other ≡ other

behind_none : (comment same here : Bool) (inner rest : Option Bool) → found_of comment same here inner rest ≡ None
    → Behind comment same here inner rest
behind_none true true here inner rest e = absurd (none-some here (sym e))
behind_none true false here (Some x) rest e = absurd (none-some x (sym e))
behind_none true false here None rest e = record { none = e; others = λ other. refl }
behind_none false same here (Some x) rest e = absurd (none-some x (sym e))
behind_none false same here None rest e = record { none = e; others = λ other. refl }

joined : (slot : ℕ) (items others : Forest) → elision_in slot items ≡ None → elision_in slot (join items others) ≡ elision_in slot others
joined slot Forest.nil others e = refl
joined slot (Forest.cons label inner rest) others e =
    let behind =
    behind_none (is_comment label.kind) (label.slot == slot) label.elided (elision_in slot inner) (elision_in slot rest) e
    in
    behind.others (elision_in slot (join rest others)) ∙ joined slot rest others behind.none

-- ---- nodes in place of a node

-- what is found after it, where it isn't found in what came, was found before
pub found_before : (slot : ℕ) (b : Bool) (list : List PlainNode) (items : Forest) (path : List ℕ) → times slot items ≤ 1
    → elision_in slot (forest list) ≡ None → elision_in slot (edit_at (λ _. list) path items) ≡ Some b → elision_in slot items ≡ Some b
found_before slot b list items [] once none e = e
found_before slot b list Forest.nil (k ∷ path) once none e = absurd (none-some b e)
found_before slot b list (Forest.cons label inner rest) (zero ∷ []) once none e =
    rest_found slot label inner rest b once (sym (joined slot (forest list) rest none) ∙ e)
found_before slot b list (Forest.cons label inner rest) (zero ∷ (j ∷ path)) once none e =
    found_where (is_comment label.kind) (label.slot == slot) label.elided (elision_in slot (edit_at (λ _. list) (j ∷ path) inner))
    (elision_in slot rest) b (elision_in slot (Forest.cons label inner rest) ≡ Some b) e
    (λ c s here.
    own_found (is_comment label.kind) (label.slot == slot) label.elided (elision_in slot inner) (elision_in slot rest) c s ∙ ap Some here)
    (λ found. inner_found slot label inner rest b once (found_before slot b list inner (j ∷ path) (omega (arith, once)) none found))
    (λ found. rest_found slot label inner rest b once found)
found_before slot b list (Forest.cons label inner rest) (suc k ∷ path) once none e =
    found_where (is_comment label.kind) (label.slot == slot) label.elided (elision_in slot inner)
    (elision_in slot (edit_at (λ _. list) (k ∷ path) rest)) b (elision_in slot (Forest.cons label inner rest) ≡ Some b) e
    (λ c s here.
    own_found (is_comment label.kind) (label.slot == slot) label.elided (elision_in slot inner) (elision_in slot rest) c s ∙ ap Some here)
    (λ found. inner_found slot label inner rest b once found)
    (λ found. rest_found slot label inner rest b once (found_before slot b list rest (k ∷ path) (omega (arith, once)) none found))

-- where what comes has no comment of those that are there, what is elided stays
alike_if : (slot : ℕ) (a b : Bool) (items : Forest) (path : List ℕ) (come : PlainNode) (found : Option Bool)
    → elision_in slot (forest (come ∷ [])) ≡ found → times slot items ≤ 1
    → ((c : Bool) → found ≡ Some c → elision_in slot items ≡ Some b → ⊥)
    → elision_in slot (edit_at (λ _. come ∷ []) path items) ≡ Some a → elision_in slot items ≡ Some b → a ≡ b
alike_if slot a b items path come None is once apart after before =
    same_Some a b (sym (found_before slot a (come ∷ []) items path once is after) ∙ before)
alike_if slot a b items path come (Some c) is once apart after before = absurd (apart c refl before)

-- no comment stands in both of two
comments_apart : (slot : ℕ) (one other : Forest) (a b : Bool) → comments slot one + comments slot other ≤ 1
    → elision_in slot one ≡ Some a → elision_in slot other ≡ Some b → ⊥
comments_apart slot one other a b apart found there =
    omega (arith, apart, found_counts slot one a found, found_counts slot other b there)

put_alike : (items : Forest) (path : List ℕ) (come : PlainNode) → ((slot : ℕ) → times slot items ≤ 1)
    → ((slot : ℕ) → comments slot items + comments slot (forest (come ∷ [])) ≤ 1) → ElidedAlike (edit_at (λ _. come ∷ []) path items) items
put_alike items path come once apart =
    λ slot a b after before.
    alike_if slot a b items path come (elision_in slot (forest (come ∷ []))) refl (once slot)
    (λ c found was. comments_apart slot items (forest (come ∷ [])) b c (apart slot) was found) after before

-- ---- a part that was set

part_elision : (slot part : ℕ) (place : Option PlainPhrase) (items : Forest) (path : List ℕ) (node : PlainNode) → node_at items path ≡ Some node
    → elision_in slot (edit_at (λ _. with_part part place node ∷ []) path items) ≡ elision_in slot items
part_elision slot part place items [] node e = refl
part_elision slot part place Forest.nil (k ∷ path) node e = refl
part_elision slot part place (Forest.cons label inner rest) (zero ∷ []) node e =
    let there : PlainNode = record { label = label; inner = inner } in
    let same : there ≡ node = ap (taken node) e in
    ap (λ (n : PlainNode). elision_in slot (Forest.cons (with_part part place n).label n.inner rest)) (sym same)
part_elision slot part place (Forest.cons label inner rest) (zero ∷ (j ∷ path)) node e =
    ap (λ o. found_of (is_comment label.kind) (label.slot == slot) label.elided o (elision_in slot rest))
    (part_elision slot part place inner (j ∷ path) node e)
part_elision slot part place (Forest.cons label inner rest) (suc k ∷ path) node e =
    ap (λ o. found_of (is_comment label.kind) (label.slot == slot) label.elided (elision_in slot inner) o)
    (part_elision slot part place rest (k ∷ path) node e)

part_alike : (part : ℕ) (place : Option PlainPhrase) (items : Forest) (path : List ℕ) (node : PlainNode) → node_at items path ≡ Some node
    → ElidedAlike (edit_at (λ _. with_part part place node ∷ []) path items) items
part_alike part place items path node e =
    λ slot a b after before. same_Some a b (sym after ∙ (part_elision slot part place items path node e ∙ before))

-- ---- a list that was changed

-- an item in which no comment is found came beside another
beside_elision : (slot : ℕ) (side : Side) (item : PlainNode) (items : Forest) (path : List ℕ) → elision_in slot (forest (item ∷ [])) ≡ None
    → elision_in slot (edit_at (with_beside side item) path items) ≡ elision_in slot items
beside_elision slot side item items [] none = refl
beside_elision slot side item Forest.nil (k ∷ path) none = refl
beside_elision slot Side.Before item (Forest.cons label inner rest) (zero ∷ []) none =
    joined slot (forest (item ∷ [])) (Forest.cons label inner rest) none
beside_elision slot Side.After item (Forest.cons label inner rest) (zero ∷ []) none =
    ap (λ o. found_of (is_comment label.kind) (label.slot == slot) label.elided (elision_in slot inner) o)
    (joined slot (forest (item ∷ [])) rest none)
beside_elision slot side item (Forest.cons label inner rest) (zero ∷ (j ∷ path)) none =
    ap (λ o. found_of (is_comment label.kind) (label.slot == slot) label.elided o (elision_in slot rest))
    (beside_elision slot side item inner (j ∷ path) none)
beside_elision slot side item (Forest.cons label inner rest) (suc k ∷ path) none =
    ap (λ o. found_of (is_comment label.kind) (label.slot == slot) label.elided (elision_in slot inner) o)
    (beside_elision slot side item rest (k ∷ path) none)

-- whichever item it is, where no comment of it is there
added_if : (slot : ℕ) (a b : Bool) (side : Side) (item : PlainNode) (items : Forest) (path : List ℕ) (found : Option Bool)
    → elision_in slot (forest (item ∷ [])) ≡ found → ((c : Bool) → found ≡ Some c → elision_in slot items ≡ Some b → ⊥)
    → elision_in slot (edit_at (with_beside side item) path items) ≡ Some a → elision_in slot items ≡ Some b → a ≡ b
added_if slot a b side item items path None is apart after before =
    same_Some a b (sym after ∙ (beside_elision slot side item items path is ∙ before))
added_if slot a b side item items path (Some c) is apart after before = absurd (apart c refl before)

added_alike : (side : Side) (item : PlainNode) (items : Forest) (path : List ℕ)
    → ((slot : ℕ) → comments slot items + comments slot (forest (item ∷ [])) ≤ 1)
    → ElidedAlike (edit_at (with_beside side item) path items) items
added_alike side item items path apart =
    λ slot a b after before.
    added_if slot a b side item items path (elision_in slot (forest (item ∷ []))) refl
    (λ c found was. comments_apart slot items (forest (item ∷ [])) b c (apart slot) was found) after before

-- an item left
left_alike : (items : Forest) (path : List ℕ) → ((slot : ℕ) → times slot items ≤ 1) → ElidedAlike (edit_at (λ _. []) path items) items
left_alike items path once =
    λ slot a b after before. same_Some a b (sym (found_before slot a [] items path (once slot) refl after) ∙ before)

-- ---- what comes back

-- where no comment that comes back stands among the nodes, those that stand before and after are elided alike
pub undone_alike : (undoing : PlainUndoing) (back : Option PlainNode) (items : Forest) (path : List ℕ) (there : PlainNode)
    → node_at items path ≡ Some there → ((slot : ℕ) → times slot items ≤ 1)
    → ((slot : ℕ) → comments slot items + comments slot (coming undoing back) ≤ 1)
    → ElidedAlike (edit_at (items_before undoing back) path items) items
undone_alike (PlainUndoing.put node) back items path there e once apart = put_alike items path node once apart
undone_alike PlainUndoing.put_back None items path there e once apart =
    λ slot a b after before. same_Some a b (sym after ∙ (ap (elision_in slot) (stays path items) ∙ before))
undone_alike PlainUndoing.put_back (Some node) items path there e once apart = put_alike items path (roomless_node node) once apart
undone_alike (PlainUndoing.set_part part place) back items path there e once apart =
    subst (λ f. ElidedAlike f items)
    (edits_alike (λ _. with_part part place there ∷ []) (λ item. with_part part place item ∷ []) items path there e refl)
    (part_alike part place items path there e)
undone_alike PlainUndoing.take_out back items path there e once apart = left_alike items path once
undone_alike (PlainUndoing.put_in side node) back items path there e once apart = added_alike side node items path apart
