-- What becomes of a node whose names are kept, in the list in which it stands.
use Rattle.std.specs.Prelude.{◌≡◌, refl, ℕ, zero, suc, ◌<◌, ◌≤◌, List, [], ◌∷◌, length, Option, Some, None, IsSomeAnd, slice_get, slice_set}
use Rattle.std.specs.List.{insert, remove}
use Rattle.std.proofs.Common.{ap, sym, ◌∙◌, subst, arith}
use Rattle.std.proofs.lemmas.Option.{none-some}
use Rattle.decl_table.specs.Names.{NameForest}
use Rattle.decl_table.specs.DeclEdit.{NameMend, MayMendNames, names_mended, name_added, name_gives_way, names_inside, with_names_inside, with_part_names}
use Rattle.decl_table.specs.Private.NameMendView.{with_mend, with_parts_of}
use Rattle.decl_table.specs.Private.PlainNameNode.{PlainNameNode, name_forest, name_forest_nodes, name_nodes, node_names}

abbrev taken : PlainNameNode → Option PlainNameNode → PlainNameNode
taken item None = item
taken item (Some there) = there

-- a path without numbers
pub empty : (path : List ℕ) → length path ≡ 0 → path ≡ []
empty [] none = refl
empty (k ∷ path) none = absurd (omega (arith, none))

-- as many nodes stand there as lists inside them
pub insides_length : (names : NameForest) → length (names_inside names) ≡ length (name_nodes names)
insides_length NameForest.nil = refl
insides_length (NameForest.cons label inner rest) = ap (λ n. suc n) (insides_length rest)

-- what stands inside a node that is found
pub inside_found : (names : NameForest) (k : ℕ) (item : PlainNameNode) → slice_get (name_nodes names) k ≡ Some item
    → slice_get (names_inside names) k ≡ Some item.inner
inside_found NameForest.nil k item there = absurd (none-some item there)
inside_found (NameForest.cons label inner rest) zero item there =
    ap (λ (o : PlainNameNode). Some o.inner) (ap (taken item) there)
inside_found (NameForest.cons label inner rest) (suc k) item there = inside_found rest k item there

-- another node comes in the place of one
pub list_set : (item : PlainNameNode) (k : ℕ) (names : NameForest)
    → name_gives_way (λ label inner. node_names item) k names ≡ name_forest (slice_set (name_nodes names) k item)
list_set item k NameForest.nil = refl
list_set item zero (NameForest.cons label inner rest) = ap (NameForest.cons item.label item.inner) (sym (name_forest_nodes rest))
list_set item (suc k) (NameForest.cons label inner rest) = ap (NameForest.cons label inner) (list_set item k rest)

-- a node comes before one, or behind all
pub list_inserted : (item : PlainNameNode) (k : ℕ) (names : NameForest) → k ≤ length (name_nodes names)
    → name_added (node_names item) k names ≡ name_forest (insert (name_nodes names) k item)
list_inserted item zero NameForest.nil within = refl
list_inserted item zero (NameForest.cons label inner rest) within =
    ap (λ others. NameForest.cons item.label item.inner (NameForest.cons label inner others)) (sym (name_forest_nodes rest))
list_inserted item (suc k) NameForest.nil within = absurd (omega (arith, within))
list_inserted item (suc k) (NameForest.cons label inner rest) within =
    ap (NameForest.cons label inner) (list_inserted item k rest (omega (arith, within)))

-- a node goes
pub list_removed : (k : ℕ) (names : NameForest)
    → name_gives_way (λ label inner. NameForest.nil) k names ≡ name_forest (remove (name_nodes names) k)
list_removed zero NameForest.nil = refl
list_removed (suc k) NameForest.nil = refl
list_removed zero (NameForest.cons label inner rest) = sym (name_forest_nodes rest)
list_removed (suc k) (NameForest.cons label inner rest) = ap (NameForest.cons label inner) (list_removed k rest)

-- something becomes of a node inside one
pub list_inside : (change : NameForest → NameForest) (k : ℕ) (names : NameForest) (item : PlainNameNode)
    → slice_get (name_nodes names) k ≡ Some item
    → name_gives_way (with_names_inside change) k names ≡ name_forest (slice_set (name_nodes names) k record item { inner = change item.inner })
list_inside change k NameForest.nil item there = absurd (none-some item there)
list_inside change zero (NameForest.cons label inner rest) item there =
    let same : record { label = label; inner = inner } ≡ item = ap (taken item) there in
    (λ i. NameForest.cons label (change inner) (sym (name_forest_nodes rest) i))
    ∙ ap (λ (o : PlainNameNode). NameForest.cons o.label (change o.inner) (name_forest (name_nodes rest))) same
list_inside change (suc k) (NameForest.cons label inner rest) item there =
    ap (NameForest.cons label inner) (list_inside change k rest item there)

-- a path of more numbers than one
pub mended_inside : (mend : NameMend) (k next : ℕ) (path rest : List ℕ) (names : NameForest) (item : PlainNameNode) → path ≡ next ∷ rest
    → slice_get (name_nodes names) k ≡ Some item
    → names_mended mend (k ∷ path) names ≡ name_forest (slice_set (name_nodes names) k (with_mend mend (next ∷ rest) item))
mended_inside mend k next path rest names item way there =
    ap (λ p. names_mended mend (k ∷ p) names) way ∙ list_inside (names_mended mend (next ∷ rest)) k names item there

abbrev taken_layout : NameForest → Option NameForest → NameForest
taken_layout names None = names
taken_layout names (Some there) = there

some_holds : (o : Option NameForest) (names : NameForest) (P : NameForest → Type 0) → IsSomeAnd o P → o ≡ Some names → P names
some_holds None names P holds there = absurd holds
some_holds (Some other) names P holds there = subst P (ap (taken_layout names) there) holds

some_there : {X : Type 0} (o : Option X) (P : X → Type 0) → IsSomeAnd o P → o ≡ None → ⊥
some_there None P holds none = holds
some_there (Some x) P holds none = none-some x (sym none)

-- what may become of the node may so inside the first one on the way
pub may_inside : (mend : NameMend) (k next : ℕ) (path rest : List ℕ) (names : NameForest) (item : PlainNameNode) → path ≡ next ∷ rest
    → slice_get (name_nodes names) k ≡ Some item → MayMendNames mend (k ∷ path) names → MayMendNames mend (next ∷ rest) item.inner
may_inside mend k next path rest names item way there may =
    some_holds (slice_get (names_inside names) k) item.inner (λ l. MayMendNames mend (next ∷ rest) l)
    (subst (λ p. MayMendNames mend (k ∷ p) names) way may) (inside_found names k item there)

pub insides_none : (names : NameForest) (k : ℕ) → slice_get (name_nodes names) k ≡ None → slice_get (names_inside names) k ≡ None
insides_none NameForest.nil k none = refl
insides_none (NameForest.cons label inner rest) zero none = absurd (none-some _ (sym none))
insides_none (NameForest.cons label inner rest) (suc k) none = insides_none rest k none

-- so that one is there
pub may_there : (mend : NameMend) (k next : ℕ) (path rest : List ℕ) (names : NameForest) → path ≡ next ∷ rest
    → slice_get (name_nodes names) k ≡ None → MayMendNames mend (k ∷ path) names → ⊥
may_there mend k next path rest names way none may =
    some_there (slice_get (names_inside names) k) (λ l. MayMendNames mend (next ∷ rest) l)
    (subst (λ p. MayMendNames mend (k ∷ p) names) way may) (insides_none names k none)

-- the parts of a node are set
pub list_parts : (other : PlainNameNode) (k : ℕ) (names : NameForest) (item : PlainNameNode) → slice_get (name_nodes names) k ≡ Some item
    → name_gives_way (with_part_names other.label.parts) k names ≡ name_forest (slice_set (name_nodes names) k (with_parts_of other item))
list_parts other k NameForest.nil item there = absurd (none-some item there)
list_parts other zero (NameForest.cons label inner rest) item there =
    (λ i. NameForest.cons (record label { parts = other.label.parts }) inner (sym (name_forest_nodes rest) i))
    ∙ ap (λ (o : PlainNameNode). NameForest.cons (record o.label { parts = other.label.parts }) o.inner (name_forest (name_nodes rest))) (ap (taken item) there)
list_parts other (suc k) (NameForest.cons label inner rest) item there =
    ap (NameForest.cons label inner) (list_parts other k rest item there)

-- ---- nodes in a list

-- a node that is there
pub item_there : (names : NameForest) (k : ℕ) → k < length (names_inside names) → (item : PlainNameNode) × (slice_get (name_nodes names) k ≡ Some item)
item_there NameForest.nil k within = absurd (omega (arith, within))
item_there (NameForest.cons label inner rest) zero within = (record { label = label; inner = inner }, refl)
item_there (NameForest.cons label inner rest) (suc k) within = item_there rest k (omega (arith, within))
