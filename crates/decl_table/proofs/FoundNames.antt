-- The path of a slot among nodes whose names are kept, found item after item.
use Rattle.std.specs.Prelude.{◌≡◌, refl, ℕ, zero, suc, ◌+◌, ◌≤◌, ◌==◌, Bool, true, false, if◌then◌else◌, List, [], ◌∷◌, length, drop, Option, Some, None, option_map, unwrap_or, slice_get}
use Rattle.std.proofs.Common.{ap, ◌∙◌, arith}
use Rattle.std.proofs.Math.ListN.{drop_of_length-le}
use Rattle.plcs_base.specs.ListLeft.{left_from}
use Rattle.std.proofs.lemmas.Bool.{eqb-true}
use Rattle.std.proofs.lemmas.Option.{none-some}
use Rattle.decl_table.specs.Names.{NameForest}
use Rattle.decl_table.specs.DeclEdit.{names_inside}
use Rattle.decl_table.specs.Private.NamePaths.{name_count, name_depth, name_times, count_beside, names_at}
use Rattle.decl_table.specs.Private.PlainNameNode.{PlainNameNode, name_forest, name_nodes}
use Rattle.decl_table.proofs.MendedNameLists.{inside_found, insides_none}

-- how often a slot stands in those that are left
pub times_left : (slot : ℕ) (items : List PlainNameNode) (k : ℕ) (item : PlainNameNode) → slice_get items k ≡ Some item
    → name_times slot (name_forest (drop k items))
    ≡ (if item.label.slot == slot then 1 else 0) + (name_times slot item.inner + name_times slot (name_forest (drop (k + 1) items)))
times_left slot items k item there = ap (λ xs. name_times slot (name_forest xs)) (left_from items k item there)

-- where none is left, it stands nowhere
pub times_none : (slot : ℕ) (items : List PlainNameNode) (k : ℕ) → length items ≤ k → name_times slot (name_forest (drop k items)) ≡ 0
times_none slot items k past = ap (λ xs. name_times slot (name_forest xs)) (drop_of_length-le items past)

unequal : (b : Bool) (a c : ℕ) → (a == c) ≡ b → (a ≡ c → ⊥) → ◌≡◌ {A = ℕ} (if b then 1 else 0) 0
unequal true a c e never = absurd (never (eqb-true a c e))
unequal false a c e never = refl

-- a node in another slot doesn't count
pub other_slot : (a c : ℕ) → (a ≡ c → ⊥) → ◌≡◌ {A = ℕ} (if a == c then 1 else 0) 0
other_slot a c never = unequal (a == c) a c refl never

-- a path through an item
pub path_through : (names : NameForest) (k : ℕ) (item : PlainNameNode) (path : List ℕ) (slot : ℕ) → slice_get (name_nodes names) k ≡ Some item
    → option_map (λ there. there.label.slot) (names_at item.inner path) ≡ Some slot
    → option_map (λ there. there.label.slot) (names_at names (k ∷ path)) ≡ Some slot
path_through names k item [] slot there at = absurd (none-some slot at)
path_through names k item (j ∷ path) slot there at = rw there at

-- a path to an item
pub path_to_item : (names : NameForest) (k : ℕ) (item : PlainNameNode) (slot : ℕ) → slice_get (name_nodes names) k ≡ Some item
    → item.label.slot ≡ slot → option_map (λ there. there.label.slot) (names_at names (k ∷ [])) ≡ Some slot
path_to_item names k item slot there same = rw there (ap Some same)

abbrev taken : PlainNameNode → Option PlainNameNode → PlainNameNode
taken item None = item
taken item (Some there) = there

-- an item is less deep than its list
pub item_depth : (names : NameForest) (k : ℕ) (item : PlainNameNode) → slice_get (name_nodes names) k ≡ Some item
    → name_depth item.inner + 1 ≤ name_depth names
item_depth NameForest.nil k item there = absurd (none-some item there)
item_depth (NameForest.cons label inner rest) zero item there =
    let same : name_depth inner ≡ name_depth item.inner = ap (λ (o : PlainNameNode). name_depth o.inner) (ap (taken item) there) in
    omega (arith, same)
item_depth (NameForest.cons label inner rest) (suc k) item there = omega (arith, item_depth rest k item there)

-- ---- how many nodes stand beside the one at a path

pub beside_inside : (k next : ℕ) (path rest : List ℕ) (names : NameForest) (item : PlainNameNode) → path ≡ next ∷ rest
    → slice_get (name_nodes names) k ≡ Some item → count_beside (k ∷ path) names ≡ count_beside (next ∷ rest) item.inner
beside_inside k next path rest names item way there =
    ap (λ p. count_beside (k ∷ p) names) way
    ∙ ap (λ o. unwrap_or (option_map (count_beside (next ∷ rest)) o) 0) (inside_found names k item there)

pub beside_none : (k next : ℕ) (path rest : List ℕ) (names : NameForest) → path ≡ next ∷ rest → slice_get (name_nodes names) k ≡ None
    → count_beside (k ∷ path) names ≡ 0
beside_none k next path rest names way none =
    ap (λ p. count_beside (k ∷ p) names) way
    ∙ ap (λ o. unwrap_or (option_map (count_beside (next ∷ rest)) o) 0) (insides_none names k none)

-- no more than there are
inside_few : (names : NameForest) → length (names_inside names) ≤ name_count names
inside_few NameForest.nil = omega arith
inside_few (NameForest.cons label inner rest) = omega (arith, inside_few rest)

pub beside_few : (names : NameForest) (path : List ℕ) → count_beside path names ≤ name_count names
beside_few names [] = omega arith
beside_few names (k ∷ []) = inside_few names
beside_few NameForest.nil (k ∷ (j ∷ path)) = omega arith
beside_few (NameForest.cons label inner rest) (zero ∷ (j ∷ path)) =
    let within : count_beside (j ∷ path) inner ≤ name_count inner = beside_few inner (j ∷ path) in omega arith
beside_few (NameForest.cons label inner rest) (suc k ∷ (j ∷ path)) =
    let behind : count_beside (k ∷ (j ∷ path)) rest ≤ name_count rest = beside_few rest (k ∷ (j ∷ path)) in omega arith

-- ---- how many nodes there are

-- an item, with what stands inside it, is no more than its list
pub name_node_few : (names : NameForest) (k : ℕ) (item : PlainNameNode) → slice_get (name_nodes names) k ≡ Some item
    → name_count item.inner + 1 ≤ name_count names
name_node_few NameForest.nil k item there = absurd (none-some item there)
name_node_few (NameForest.cons label inner rest) zero item there =
    let same : name_count inner ≡ name_count item.inner = ap (λ (o : PlainNameNode). name_count o.inner) (ap (taken item) there) in
    omega (arith, same)
name_node_few (NameForest.cons label inner rest) (suc k) item there = omega (arith, name_node_few rest k item there)

-- a list has no more items than there are nodes
pub name_nodes_few : (names : NameForest) → length (name_nodes names) ≤ name_count names
name_nodes_few NameForest.nil = omega arith
name_nodes_few (NameForest.cons label inner rest) = omega (arith, name_nodes_few rest)
