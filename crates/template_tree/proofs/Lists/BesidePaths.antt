-- Paths to the items beside an item, and the lists at the end of paths.
use Rattle.std.specs.Prelude.{◌≡◌, refl, ℕ, zero, suc, ◌+◌, ◌<◌, ◌≤◌, ◌==◌, Bool, true, false, if◌then◌else◌, List, [], ◌∷◌, ◌++◌, length, drop, get_or, Some, None, slice_get}
use Rattle.std.specs.Option.{option_map_or}
use Rattle.std.proofs.Common.{ap, sym, ◌∙◌, arith}
use Rattle.std.proofs.Math.Bool.{false≢true}
use Rattle.std.proofs.lemmas.Bool.{ne_eqb}
use Rattle.std.proofs.Math.Seq.{drop-cons}
use Rattle.std.proofs.Common.{add-one}
use Rattle.plcs_grammar.specs.declared.node_kind.Sort.{Sort}
use Rattle.plcs_grammar.specs.Template.{PlainSection, row_of}
use Rattle.template_tree.specs.Programs.PlainTree.{Forest, PlainNode, forest, nodes_forest}
use Rattle.template_tree.specs.Programs.Program.{sorts, sort_of}
use Rattle.template_tree.specs.Listings.Section.{same_sort}
use Rattle.template_tree.specs.Edits.ListItem.{sections_at, siblings_at, how_many}
use Rattle.template_tree.specs.Positions.Path.{last_child_number, with_last}
use Rattle.template_tree.specs.Private.Restored.{side_of}
use Rattle.template_tree.specs.declared.side.Side.{Side}

last_front : (front : List ℕ) (k : ℕ) → last_child_number (front ++ (k ∷ [])) ≡ k
last_front [] k = refl
last_front (a ∷ []) k = refl
last_front (a ∷ (b ∷ front)) k = last_front (b ∷ front) k

-- the last number is the last
pub last_is : (front path : List ℕ) (k : ℕ) → path ≡ front ++ (k ∷ []) → last_child_number path ≡ k
last_is front path k e = ap last_child_number e ∙ last_front front k

other_front : (other : ℕ → ℕ) (front : List ℕ) (k : ℕ) → with_last other (front ++ (k ∷ [])) ≡ front ++ (other k ∷ [])
other_front other [] k = refl
other_front other (a ∷ []) k = refl
other_front other (a ∷ (b ∷ front)) k = ap (λ path. a ∷ path) (other_front other (b ∷ front) k)

-- with another one there
pub other_last : (other : ℕ → ℕ) (front path new : List ℕ) (k last : ℕ) → path ≡ front ++ (k ∷ []) → new ≡ front ++ (last ∷ []) → last ≡ other k
    → new ≡ with_last other path
other_last other front path new k last e is last_is =
    is ∙ (ap (λ n. front ++ (n ∷ [])) last_is ∙ (sym (other_front other front k) ∙ ap (with_last other) (sym e)))

-- the path ends among these nodes
pub here_sections : (sections : List PlainSection) (items : Forest) (k : ℕ) (path rest : List ℕ) → path ≡ k ∷ rest
    → true ≡ (length rest == 0) → sections ≡ sections_at sections items path
here_sections sections items k path [] way e = sym (ap (sections_at sections items) way)
here_sections sections items k path (j ∷ rest) way e = absurd (false≢true (sym (e ∙ ne_eqb (suc (length rest)) 0 (λ h. omega (arith, h)))))

pub here_siblings : (items : Forest) (k : ℕ) (path rest : List ℕ) → path ≡ k ∷ rest
    → true ≡ (length rest == 0) → items ≡ siblings_at items path
here_siblings items k path [] way e = sym (ap (siblings_at items) way)
here_siblings items k path (j ∷ rest) way e = absurd (false≢true (sym (e ∙ ne_eqb (suc (length rest)) 0 (λ h. omega (arith, h)))))

-- where no item is on the way, there are no sections, and no nodes
pub no_sections : (sections : List PlainSection) (items : List PlainNode) (k : ℕ) (path rest : List ℕ) → path ≡ k ∷ rest
    → false ≡ (length rest == 0) → slice_get items k ≡ None → [] ≡ sections_at sections (forest items) path
no_sections sections items k path [] way e none = absurd (false≢true e)
no_sections sections items k path (j ∷ rest) way e none =
    sym (ap (sections_at sections (forest items)) way
    ∙ ap (λ o. option_map_or (λ (n : PlainNode). sections_at (row_of n.label.kind).sections n.inner (j ∷ rest)) o [])
    (ap (λ xs. slice_get xs k) (nodes_forest items) ∙ none))

pub no_siblings : (items : List PlainNode) (k : ℕ) (path rest : List ℕ) → path ≡ k ∷ rest
    → false ≡ (length rest == 0) → slice_get items k ≡ None → Forest.nil ≡ siblings_at (forest items) path
no_siblings items k path [] way e none = absurd (false≢true e)
no_siblings items k path (j ∷ rest) way e none =
    sym (ap (siblings_at (forest items)) way
    ∙ ap (λ o. option_map_or (λ (n : PlainNode). siblings_at n.inner (j ∷ rest)) o Forest.nil)
    (ap (λ xs. slice_get xs k) (nodes_forest items) ∙ none))

-- else those of the item
pub item_sections : (sections : List PlainSection) (items : List PlainNode) (k : ℕ) (path rest : List ℕ) (node : PlainNode) → path ≡ k ∷ rest
    → false ≡ (length rest == 0) → slice_get items k ≡ Some node
    → sections_at (row_of node.label.kind).sections node.inner rest ≡ sections_at sections (forest items) path
item_sections sections items k path [] node way e there = absurd (false≢true e)
item_sections sections items k path (j ∷ rest) node way e there =
    sym (ap (sections_at sections (forest items)) way
    ∙ ap (λ o. option_map_or (λ (n : PlainNode). sections_at (row_of n.label.kind).sections n.inner (j ∷ rest)) o [])
    (ap (λ xs. slice_get xs k) (nodes_forest items) ∙ there))

pub item_siblings : (items : List PlainNode) (k : ℕ) (path rest : List ℕ) (node : PlainNode) → path ≡ k ∷ rest
    → false ≡ (length rest == 0) → slice_get items k ≡ Some node
    → siblings_at node.inner rest ≡ siblings_at (forest items) path
item_siblings items k path [] node way e there = absurd (false≢true e)
item_siblings items k path (j ∷ rest) node way e there =
    sym (ap (siblings_at (forest items)) way
    ∙ ap (λ o. option_map_or (λ (n : PlainNode). siblings_at n.inner (j ∷ rest)) o Forest.nil)
    (ap (λ xs. slice_get xs k) (nodes_forest items) ∙ there))

-- one more node is looked at
pub next_counts : (sort : Sort) (items : List PlainNode) (k : ℕ) (node : PlainNode) → k < length items → node ≡ get_or items k node
    → how_many sort (sorts (forest (drop k items)))
    ≡ (if same_sort sort (sort_of node.label.kind) then 1 else 0) + how_many sort (sorts (forest (drop (k + 1) items)))
next_counts sort items k node within is = rw (add-one k, drop-cons items k node within, ← is) refl

-- on which side of the item that is left a node stood
pub side_first : (front path : List ℕ) (k : ℕ) → path ≡ front ++ (k ∷ []) → k ≡ 0 → Side.Before ≡ side_of (last_child_number path)
side_first front path k e zero_is = sym (ap side_of (last_is front path k e ∙ zero_is))

side_suc : (k : ℕ) → (k ≡ 0 → ⊥) → Side.After ≡ side_of k
side_suc zero other = absurd (other refl)
side_suc (suc k) other = refl

pub side_later : (front path : List ℕ) (k : ℕ) → path ≡ front ++ (k ∷ []) → (k ≡ 0 → ⊥) → Side.After ≡ side_of (last_child_number path)
side_later front path k e other = side_suc k other ∙ sym (ap side_of (last_is front path k e))

bit_at_most : (b : Bool) → (if b then 1 else 0) ≤ 1
bit_at_most true = omega arith
bit_at_most false = omega arith

pub one_at_most : (sort : Sort) (node : PlainNode) → (if same_sort sort (sort_of node.label.kind) then 1 else 0) ≤ 1
one_at_most sort node = bit_at_most (same_sort sort (sort_of node.label.kind))
