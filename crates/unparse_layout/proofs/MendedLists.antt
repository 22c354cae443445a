-- What becomes of a node of a layout, in the list in which it stands.
use Rattle.std.specs.Prelude.{◌≡◌, refl, ℕ, zero, suc, ◌+◌, ◌*◌, ◌<◌, ◌≤◌, List, [], ◌∷◌, length, map, sum, Option, Some, None, IsSomeAnd, slice_get, slice_set}
use Rattle.std.specs.List.{insert, remove}
use Rattle.std.proofs.Common.{ap, sym, ◌∙◌, subst, arith}
use Rattle.std.proofs.lemmas.List.{map-set}
use Rattle.std.proofs.lemmas.Option.{none-some}
use Rattle.unparse_layout.specs.Bones.{PlainLayout, bone_count}
use Rattle.unparse_layout.specs.LayoutEdit.{LayoutMend, MayMendAt, layout_mended_at, layout_added, layout_gives_way, layouts_inside, with_layout_inside}
use Rattle.unparse_layout.specs.Private.Height.{height}
use Rattle.unparse_layout.specs.Private.LayoutEditView.{lone_layout, with_mend}
use Rattle.unparse_layout.specs.Private.PlainNodeLayout.{PlainNodeLayout, bones, bones_node_layouts, node_layouts}
use Rattle.unparse_layout.proofs.Heights.{heights_le, heights_of_list}

abbrev taken : PlainNodeLayout → Option PlainNodeLayout → PlainNodeLayout
taken item None = item
taken item (Some there) = there

-- a path without numbers
pub empty : (path : List ℕ) → length path ≡ 0 → path ≡ []
empty [] none = refl
empty (k ∷ path) none = absurd (omega (arith, none))

-- as many nodes stand there as lists inside them
pub insides_length : (layout : PlainLayout) → length (layouts_inside layout) ≡ length (node_layouts layout)
insides_length PlainLayout.nil = refl
insides_length (PlainLayout.cons bone inner rest) = ap (λ n. suc n) (insides_length rest)

-- what stands inside a node that is found
pub inside_found : (layout : PlainLayout) (k : ℕ) (item : PlainNodeLayout) → slice_get (node_layouts layout) k ≡ Some item
    → slice_get (layouts_inside layout) k ≡ Some item.inner
inside_found PlainLayout.nil k item there = absurd (none-some item there)
inside_found (PlainLayout.cons bone inner rest) zero item there =
    ap (λ (o : PlainNodeLayout). Some o.inner) (ap (taken item) there)
inside_found (PlainLayout.cons bone inner rest) (suc k) item there = inside_found rest k item there

-- another node comes in the place of one
pub list_set : (item : PlainNodeLayout) (k : ℕ) (layout : PlainLayout)
    → layout_gives_way (λ bone inner. lone_layout item) k layout ≡ bones (slice_set (node_layouts layout) k item)
list_set item k PlainLayout.nil = refl
list_set item zero (PlainLayout.cons bone inner rest) = ap (PlainLayout.cons item.bone item.inner) (sym (bones_node_layouts rest))
list_set item (suc k) (PlainLayout.cons bone inner rest) = ap (PlainLayout.cons bone inner) (list_set item k rest)

-- a node comes before one, or behind all
pub list_inserted : (item : PlainNodeLayout) (k : ℕ) (layout : PlainLayout) → k ≤ length (node_layouts layout)
    → layout_added (lone_layout item) k layout ≡ bones (insert (node_layouts layout) k item)
list_inserted item zero PlainLayout.nil within = refl
list_inserted item zero (PlainLayout.cons bone inner rest) within =
    ap (λ others. PlainLayout.cons item.bone item.inner (PlainLayout.cons bone inner others)) (sym (bones_node_layouts rest))
list_inserted item (suc k) PlainLayout.nil within = absurd (omega (arith, within))
list_inserted item (suc k) (PlainLayout.cons bone inner rest) within =
    ap (PlainLayout.cons bone inner) (list_inserted item k rest (omega (arith, within)))

-- a node goes
pub list_removed : (k : ℕ) (layout : PlainLayout)
    → layout_gives_way (λ bone inner. PlainLayout.nil) k layout ≡ bones (remove (node_layouts layout) k)
list_removed zero PlainLayout.nil = refl
list_removed (suc k) PlainLayout.nil = refl
list_removed zero (PlainLayout.cons bone inner rest) = sym (bones_node_layouts rest)
list_removed (suc k) (PlainLayout.cons bone inner rest) = ap (PlainLayout.cons bone inner) (list_removed k rest)

-- something becomes of a node inside one
pub list_inside : (change : PlainLayout → PlainLayout) (k : ℕ) (layout : PlainLayout) (item : PlainNodeLayout)
    → slice_get (node_layouts layout) k ≡ Some item
    → layout_gives_way (with_layout_inside change) k layout ≡ bones (slice_set (node_layouts layout) k record item { inner = change item.inner })
list_inside change k PlainLayout.nil item there = absurd (none-some item there)
list_inside change zero (PlainLayout.cons bone inner rest) item there =
    let same : record { bone = bone; inner = inner } ≡ item = ap (taken item) there in
    (λ i. PlainLayout.cons bone (change inner) (sym (bones_node_layouts rest) i))
    ∙ ap (λ (o : PlainNodeLayout). PlainLayout.cons o.bone (change o.inner) (bones (node_layouts rest))) same
list_inside change (suc k) (PlainLayout.cons bone inner rest) item there =
    ap (PlainLayout.cons bone inner) (list_inside change k rest item there)

-- a path of more numbers than one
pub mended_inside : (mend : LayoutMend) (k next : ℕ) (path rest : List ℕ) (layout : PlainLayout) (item : PlainNodeLayout) → path ≡ next ∷ rest
    → slice_get (node_layouts layout) k ≡ Some item
    → layout_mended_at mend (k ∷ path) layout ≡ bones (slice_set (node_layouts layout) k (with_mend mend (next ∷ rest) item))
mended_inside mend k next path rest layout item way there =
    ap (λ p. layout_mended_at mend (k ∷ p) layout) way ∙ list_inside (layout_mended_at mend (next ∷ rest)) k layout item there

abbrev taken_layout : PlainLayout → Option PlainLayout → PlainLayout
taken_layout layout None = layout
taken_layout layout (Some there) = there

some_holds : (o : Option PlainLayout) (layout : PlainLayout) (P : PlainLayout → Type 0) → IsSomeAnd o P → o ≡ Some layout → P layout
some_holds None layout P holds there = absurd holds
some_holds (Some other) layout P holds there = subst P (ap (taken_layout layout) there) holds

some_there : {X : Type 0} (o : Option X) (P : X → Type 0) → IsSomeAnd o P → o ≡ None → ⊥
some_there None P holds none = holds
some_there (Some x) P holds none = none-some x (sym none)

-- what may become of the node may so inside the first one on the way
pub may_inside : (mend : LayoutMend) (k next : ℕ) (path rest : List ℕ) (layout : PlainLayout) (item : PlainNodeLayout) → path ≡ next ∷ rest
    → slice_get (node_layouts layout) k ≡ Some item → MayMendAt mend (k ∷ path) layout → MayMendAt mend (next ∷ rest) item.inner
may_inside mend k next path rest layout item way there may =
    some_holds (slice_get (layouts_inside layout) k) item.inner (λ l. MayMendAt mend (next ∷ rest) l)
    (subst (λ p. MayMendAt mend (k ∷ p) layout) way may) (inside_found layout k item there)

pub insides_none : (layout : PlainLayout) (k : ℕ) → slice_get (node_layouts layout) k ≡ None → slice_get (layouts_inside layout) k ≡ None
insides_none PlainLayout.nil k none = refl
insides_none (PlainLayout.cons bone inner rest) zero none = absurd (none-some _ (sym none))
insides_none (PlainLayout.cons bone inner rest) (suc k) none = insides_none rest k none

-- so that one is there
pub may_there : (mend : LayoutMend) (k next : ℕ) (path rest : List ℕ) (layout : PlainLayout) → path ≡ next ∷ rest
    → slice_get (node_layouts layout) k ≡ None → MayMendAt mend (k ∷ path) layout → ⊥
may_there mend k next path rest layout way none may =
    some_there (slice_get (layouts_inside layout) k) (λ l. MayMendAt mend (next ∷ rest) l)
    (subst (λ p. MayMendAt mend (k ∷ p) layout) way may) (insides_none layout k none)

-- a node in a list has fewer nodes inside it than the list
pub set_count : (items : List PlainNodeLayout) (k : ℕ) (item : PlainNodeLayout) → k < length items
    → bone_count item.inner + 1 ≤ bone_count (bones (slice_set items k item))
set_count [] k item within = absurd (omega (arith, within))
set_count (first ∷ items) zero item within = omega arith
set_count (first ∷ items) (suc k) item within = omega (arith, set_count items k item (omega (arith, within)))

pub insert_count : (items : List PlainNodeLayout) (k : ℕ) (item : PlainNodeLayout) → k ≤ length items
    → bone_count item.inner + 1 ≤ bone_count (bones (insert items k item))
insert_count items zero item within = omega arith
insert_count [] (suc k) item within = absurd (omega (arith, within))
insert_count (first ∷ items) (suc k) item within = omega (arith, insert_count items k item (omega (arith, within)))

-- the numbers of a list have together at most four lines for each node
pub heights_few : (items : List PlainNodeLayout) → sum (map height items) ≤ 4 * bone_count (bones items)
heights_few items = omega (arith, heights_of_list items, heights_le (bones items))

-- ---- the numbers that are kept beside a list

-- another node with its number
pub set_numbers : (numbers : List ℕ) (items : List PlainNodeLayout) (k : ℕ) (item : PlainNodeLayout) (number : ℕ) → numbers ≡ map height items
    → number ≡ height item → slice_set numbers k number ≡ map height (slice_set items k item)
set_numbers numbers items k item number are is =
    ap (λ ns. slice_set ns k number) are ∙ ap (slice_set (map height items) k) is ∙ sym (map-set height items k item)

map_inserted : (items : List PlainNodeLayout) (k : ℕ) (item : PlainNodeLayout) → map height (insert items k item) ≡ insert (map height items) k (height item)
map_inserted [] zero item = refl
map_inserted [] (suc k) item = refl
map_inserted (first ∷ items) zero item = refl
map_inserted (first ∷ items) (suc k) item = ap (λ ns. height first ∷ ns) (map_inserted items k item)

-- one more node with its number
pub insert_numbers : (numbers : List ℕ) (items : List PlainNodeLayout) (k : ℕ) (item : PlainNodeLayout) (number : ℕ) → numbers ≡ map height items
    → number ≡ height item → insert numbers k number ≡ map height (insert items k item)
insert_numbers numbers items k item number are is =
    ap (λ ns. insert ns k number) are ∙ ap (insert (map height items) k) is ∙ sym (map_inserted items k item)

map_removed : (items : List PlainNodeLayout) (k : ℕ) → map height (remove items k) ≡ remove (map height items) k
map_removed [] zero = refl
map_removed [] (suc k) = refl
map_removed (first ∷ items) zero = refl
map_removed (first ∷ items) (suc k) = ap (λ ns. height first ∷ ns) (map_removed items k)

-- one node less with its number
pub remove_numbers : (numbers : List ℕ) (items : List PlainNodeLayout) (k : ℕ) → numbers ≡ map height items
    → remove numbers k ≡ map height (remove items k)
remove_numbers numbers items k are = ap (λ ns. remove ns k) are ∙ sym (map_removed items k)

-- the numbers after all fit where there are few nodes
pub numbers_fit : (numbers : List ℕ) (items : List PlainNodeLayout) (most : ℕ) → numbers ≡ map height items → bone_count (bones items) ≤ most
    → sum numbers ≤ 4 * most
numbers_fit numbers items most are few = omega (arith, ap sum are, heights_few items, few)
