-- What is kept in a node of a layout in memory.
use Rattle.std.specs.Prelude.{slice_get, ◌≡◌, refl, ℕ, ◌+◌, false, if◌then◌else◌, List, length, map, sum}
use Rattle.std.specs.List.{insert}
use Rattle.std.proofs.Common.{ap, sym, ◌∙◌, arith}
use Rattle.std.proofs.lemmas.List.{length-map}
use Rattle.std.proofs.lemmas.List.Sums.{sum_by-insert}
use Rattle.plcs_grammar.specs.Template.{row_of}
use Rattle.unparse_layout.specs.declared.node_layout.NodeLayout.TheInside.{Inside}
use Rattle.unparse_layout.specs.Private.NodeLayoutView.{IsRight, seen}
use Rattle.unparse_layout.specs.Private.PlainNodeLayout.{PlainNodeLayout, node_layouts, bones, node_layouts_bones}
use Rattle.unparse_layout.specs.Private.Height.{line_count, one_if, height, heights}
use Rattle.unparse_layout.proofs.Heights.{heights_of_list}

-- the numbers are those of what stands inside it
pub numbers_are : (a : Inside) (node_layout : PlainNodeLayout) → seen a ≡ node_layout → IsRight a → a.heights.numbers ≡ map height (node_layouts node_layout.inner)
numbers_are a node_layout view right =
    right.heights ∙ ap (map height) (sym (node_layouts_bones a.inner.items)) ∙ ap (λ (o : PlainNodeLayout). map height (node_layouts o.inner)) view

-- as many as there are nodes inside it
pub numbers_length : (a : Inside) (node_layout : PlainNodeLayout) → seen a ≡ node_layout → IsRight a → length a.heights.numbers ≡ length (node_layouts node_layout.inner)
numbers_length a node_layout view right = ap length (numbers_are a node_layout view right) ∙ length-map (node_layouts node_layout.inner) height

-- together they are the lines of what stands inside it
pub numbers_sum : (a : Inside) (node_layout : PlainNodeLayout) → seen a ≡ node_layout → IsRight a → sum a.heights.numbers ≡ heights node_layout.inner
numbers_sum a node_layout view right =
    ap sum right.heights ∙ heights_of_list a.inner.items ∙ ap (λ (o : PlainNodeLayout). heights o.inner) view

-- how many lines the node has where nothing is hidden
pub height_shown : (a : Inside) (node_layout : PlainNodeLayout) → seen a ≡ node_layout → IsRight a → a.elided ≡ false
    → one_if a.led + 1 + line_count (row_of a.kind).last + sum a.heights.numbers ≡ height node_layout
height_shown a node_layout view right shown =
    let e : (if a.elided then 1 else heights (bones a.inner.items)) ≡ heights (bones a.inner.items) = rw shown refl in
    let f : sum a.heights.numbers ≡ heights (bones a.inner.items) = ap sum right.heights ∙ heights_of_list a.inner.items in
    let g : height (seen a) ≡ height node_layout = ap height view in
    omega (arith, e, f, g)

-- one number more at the end
pub sum_with_last : (numbers : List ℕ) (k number : ℕ) → sum (insert numbers k number) ≡ sum numbers + number
sum_with_last numbers k number = sum_by-insert (λ n. n) numbers k number

-- an item is found in what is seen as in what is kept
pub found_again : (a : Inside) (node_layout : PlainNodeLayout) (k : ℕ) → seen a ≡ node_layout → slice_get (node_layouts node_layout.inner) k ≡ slice_get a.inner.items k
found_again a node_layout k view =
    sym (ap (λ (o : PlainNodeLayout). slice_get (node_layouts o.inner) k) view) ∙ ap (λ xs. slice_get xs k) (node_layouts_bones a.inner.items)

-- the nodes inside it are those that are kept
pub items_are : (a : Inside) (node_layout : PlainNodeLayout) → seen a ≡ node_layout → node_layouts node_layout.inner ≡ a.inner.items
items_are a node_layout view =
    sym (ap (λ (o : PlainNodeLayout). node_layouts o.inner) view) ∙ node_layouts_bones a.inner.items
