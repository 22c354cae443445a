-- The path of a slot in a layout, found item after item.
use Rattle.std.specs.Prelude.{◌≡◌, refl, ℕ, zero, suc, ◌+◌, ◌≤◌, ◌==◌, Bool, true, false, if◌then◌else◌, List, [], ◌∷◌, length, drop, Option, Some, None, option_map, unwrap_or, slice_get}
use Rattle.std.proofs.Common.{ap, ◌∙◌, arith}
use Rattle.std.proofs.Math.ListN.{drop_of_length-le}
use Rattle.std.proofs.lemmas.Bool.{eqb-true}
use Rattle.std.proofs.lemmas.Option.{none-some}
use Rattle.unparse_layout.specs.Bones.{PlainLayout, bone_count}
use Rattle.unparse_layout.specs.LayoutEdit.{layouts_inside}
use Rattle.unparse_layout.specs.Private.LayoutPaths.{bone_depth, bone_times, count_beside, layout_at}
use Rattle.unparse_layout.specs.Private.PlainNodeLayout.{PlainNodeLayout, bones, node_layouts}
use Rattle.unparse_layout.proofs.MendedLists.{inside_found, insides_none}
use Rattle.unparse_layout.proofs.MadeBones.{left_from}

-- how often a slot stands in those that are left
pub times_left : (slot : ℕ) (items : List PlainNodeLayout) (k : ℕ) (item : PlainNodeLayout) → slice_get items k ≡ Some item
    → bone_times slot (bones (drop k items))
    ≡ (if item.bone.slot == slot then 1 else 0) + (bone_times slot item.inner + bone_times slot (bones (drop (k + 1) items)))
times_left slot items k item there = ap (λ xs. bone_times slot (bones xs)) (left_from items k item there)

-- where none is left, it stands nowhere
pub times_none : (slot : ℕ) (items : List PlainNodeLayout) (k : ℕ) → length items ≤ k → bone_times slot (bones (drop k items)) ≡ 0
times_none slot items k past = ap (λ xs. bone_times slot (bones xs)) (drop_of_length-le items past)

unequal : (b : Bool) (a c : ℕ) → (a == c) ≡ b → (a ≡ c → ⊥) → ◌≡◌ {A = ℕ} (if b then 1 else 0) 0
unequal true a c e never = absurd (never (eqb-true a c e))
unequal false a c e never = refl

-- a node in another slot doesn't count
pub other_slot : (a c : ℕ) → (a ≡ c → ⊥) → ◌≡◌ {A = ℕ} (if a == c then 1 else 0) 0
other_slot a c never = unequal (a == c) a c refl never

-- a path through an item
pub path_through : (layout : PlainLayout) (k : ℕ) (item : PlainNodeLayout) (path : List ℕ) (slot : ℕ) → slice_get (node_layouts layout) k ≡ Some item
    → option_map (λ there. there.bone.slot) (layout_at item.inner path) ≡ Some slot
    → option_map (λ there. there.bone.slot) (layout_at layout (k ∷ path)) ≡ Some slot
path_through layout k item [] slot there at = absurd (none-some slot at)
path_through layout k item (j ∷ path) slot there at = rw there at

-- a path to an item
pub path_to_item : (layout : PlainLayout) (k : ℕ) (item : PlainNodeLayout) (slot : ℕ) → slice_get (node_layouts layout) k ≡ Some item
    → item.bone.slot ≡ slot → option_map (λ there. there.bone.slot) (layout_at layout (k ∷ [])) ≡ Some slot
path_to_item layout k item slot there same = rw there (ap Some same)

abbrev taken : PlainNodeLayout → Option PlainNodeLayout → PlainNodeLayout
taken item None = item
taken item (Some there) = there

-- an item is less deep than its list
pub item_depth : (layout : PlainLayout) (k : ℕ) (item : PlainNodeLayout) → slice_get (node_layouts layout) k ≡ Some item
    → bone_depth item.inner + 1 ≤ bone_depth layout
item_depth PlainLayout.nil k item there = absurd (none-some item there)
item_depth (PlainLayout.cons bone inner rest) zero item there =
    let same : bone_depth inner ≡ bone_depth item.inner = ap (λ (o : PlainNodeLayout). bone_depth o.inner) (ap (taken item) there) in
    omega (arith, same)
item_depth (PlainLayout.cons bone inner rest) (suc k) item there = omega (arith, item_depth rest k item there)

-- ---- how many nodes stand beside the one at a path

pub beside_inside : (k next : ℕ) (path rest : List ℕ) (layout : PlainLayout) (item : PlainNodeLayout) → path ≡ next ∷ rest
    → slice_get (node_layouts layout) k ≡ Some item → count_beside (k ∷ path) layout ≡ count_beside (next ∷ rest) item.inner
beside_inside k next path rest layout item way there =
    ap (λ p. count_beside (k ∷ p) layout) way
    ∙ ap (λ o. unwrap_or (option_map (count_beside (next ∷ rest)) o) 0) (inside_found layout k item there)

pub beside_none : (k next : ℕ) (path rest : List ℕ) (layout : PlainLayout) → path ≡ next ∷ rest → slice_get (node_layouts layout) k ≡ None
    → count_beside (k ∷ path) layout ≡ 0
beside_none k next path rest layout way none =
    ap (λ p. count_beside (k ∷ p) layout) way
    ∙ ap (λ o. unwrap_or (option_map (count_beside (next ∷ rest)) o) 0) (insides_none layout k none)

-- no more than there are
inside_few : (layout : PlainLayout) → length (layouts_inside layout) ≤ bone_count layout
inside_few PlainLayout.nil = omega arith
inside_few (PlainLayout.cons bone inner rest) = omega (arith, inside_few rest)

pub beside_few : (layout : PlainLayout) (path : List ℕ) → count_beside path layout ≤ bone_count layout
beside_few layout [] = omega arith
beside_few layout (k ∷ []) = inside_few layout
beside_few PlainLayout.nil (k ∷ (j ∷ path)) = omega arith
beside_few (PlainLayout.cons bone inner rest) (zero ∷ (j ∷ path)) =
    let within : count_beside (j ∷ path) inner ≤ bone_count inner = beside_few inner (j ∷ path) in omega arith
beside_few (PlainLayout.cons bone inner rest) (suc k ∷ (j ∷ path)) =
    let behind : count_beside (k ∷ (j ∷ path)) rest ≤ bone_count rest = beside_few rest (k ∷ (j ∷ path)) in omega arith
