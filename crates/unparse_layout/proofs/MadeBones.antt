-- A layout while it is made.
use Rattle.std.specs.Prelude.{◌≡◌, refl, ℕ, Bool, Option, None, option_map, zero, suc, ◌+◌, ◌*◌, ◌≤◌, List, [], ◌∷◌, ◌++◌, length, drop, Some, slice_get, is_some}
use Rattle.std.proofs.Common.{ap, sym, ◌∙◌, arith, append_assoc, add-one}
use Rattle.std.proofs.lemmas.List.{append-nil}
use Rattle.std.proofs.Math.ListN.{drop_of_length-le}
use Rattle.plcs_grammar.specs.Template.{PlainSection, row_of}
use Rattle.template_tree.specs.Programs.PlainTree.{Forest, PlainNode, nodes, forest, forest_nodes}
use Rattle.template_tree.specs.Programs.Program.{sort_of}
use Rattle.template_tree.specs.Listings.Section.{left_for, left_after, next_lead}
use Rattle.template_tree.specs.Programs.Slots.{count}
use Rattle.unparse_layout.specs.Bones.{PlainLayout, bones_of, bone_count}
use Rattle.unparse_layout.specs.Private.PlainNodeLayout.{PlainNodeLayout, node_layouts, bones, node_layouts_bones, bones_node_layouts, node_layout_of}
use Rattle.unparse_layout.specs.Private.Height.{height, heights}
use Rattle.unparse_layout.proofs.Heights.{count_bones, heights_le, height_le}

-- what is left of a list begins with the item that is found
pub left_from : {X : Type 0} (items : List X) (k : ℕ) (x : X) → slice_get items k ≡ Some x → drop k items ≡ x ∷ drop (k + 1) items
left_from [] k x there = absurd (cc)
left_from (y ∷ ys) zero x there = let same : y ≡ x = cc in ap (λ z. z ∷ ys) same
left_from (y ∷ ys) (suc k) x there = left_from ys k x there ∙ ap (λ n. x ∷ drop n ys) (add-one k) ∙ sym (ap (λ n. x ∷ drop n (y ∷ ys)) (add-one (suc k)))

-- so many nodes are kept of two lists
pub count_append : (xs ys : List PlainNodeLayout) → bone_count (bones (xs ++ ys)) ≡ bone_count (bones xs) + bone_count (bones ys)
count_append [] ys = omega arith
count_append (x ∷ xs) ys = omega (arith, count_append xs ys)

-- a layout of which some items are made already, and these nodes are left
pub record IsMade (whole : PlainLayout) (done : PlainLayout) (left : List PlainSection) (rest : List PlainNode) : Type 0 where
  pub all : node_layouts done ++ node_layouts (bones_of left (forest rest)) ≡ node_layouts whole

-- one more is made
pub made_next : (whole done : PlainLayout) (left here later : List PlainSection) (items : List PlainNode) (k : ℕ) (node : PlainNode) (item : PlainNodeLayout) (new : PlainLayout)
    → slice_get items k ≡ Some node → here ≡ left_for (sort_of node.label.kind) left → later ≡ left_after here
    → item ≡ node_layout_of (is_some (next_lead here)) node → new ≡ bones (node_layouts done ++ item ∷ [])
    → IsMade whole done left (drop k items) → IsMade whole new later (drop (k + 1) items)
made_next whole done left here later items k node item new there here_is later_is item_is new_is m = record {
  all =
      let rest = drop (k + 1) items in
      let first : node_layouts (bones_of left (forest (drop k items)))
      ≡ node_layout_of (is_some (next_lead (left_for (sort_of node.label.kind) left))) node
      ∷ node_layouts (bones_of (left_after (left_for (sort_of node.label.kind) left)) (forest rest)) =
      ap (λ xs. node_layouts (bones_of left (forest xs))) (left_from items k node there) in
      let turn : node_layouts (bones_of left (forest (drop k items))) ≡ item ∷ node_layouts (bones_of later (forest rest)) =
      first
      ∙ rw (item_is, later_is, here_is) refl in
      ap (λ b. node_layouts b ++ node_layouts (bones_of later (forest rest))) new_is
      ∙ ap (λ xs. xs ++ node_layouts (bones_of later (forest rest))) (node_layouts_bones (node_layouts done ++ item ∷ []))
      ∙ append_assoc (node_layouts done) (item ∷ []) (node_layouts (bones_of later (forest rest)))
      ∙ ap (λ xs. node_layouts done ++ xs) (sym turn)
      ∙ m.all;
}

-- nothing is made at the beginning
pub made_none : (left : List PlainSection) (items : Forest) (done : PlainLayout) (now : List PlainSection) → done ≡ PlainLayout.nil → now ≡ left
    → IsMade (bones_of left items) done now (drop 0 (nodes items))
made_none left items done now done_is now_is = record {
  all = rw (done_is, now_is, forest_nodes items) refl;
}

-- all is made at the end
pub made_all : (whole done : PlainLayout) (left : List PlainSection) (items : List PlainNode) (k : ℕ) → length items ≤ k
    → IsMade whole done left (drop k items) → done ≡ whole
made_all whole done left items k past m =
    let none : drop k items ≡ [] = drop_of_length-le items past in
    sym (bones_node_layouts done)
    ∙ ap bones (sym (append-nil (node_layouts done)) ∙ ap (λ xs. node_layouts done ++ node_layouts (bones_of left (forest xs))) (sym none) ∙ m.all)
    ∙ bones_node_layouts whole

-- what is made is no more than the whole
pub made_few : (whole done : PlainLayout) (left : List PlainSection) (rest : List PlainNode) → IsMade whole done left rest
    → bone_count done + count (forest rest) ≡ bone_count whole
made_few whole done left rest m =
    let e : bone_count (bones (node_layouts done ++ node_layouts (bones_of left (forest rest)))) ≡ bone_count (bones (node_layouts whole)) = ap (λ xs. bone_count (bones xs)) m.all in
    let f = count_append (node_layouts done) (node_layouts (bones_of left (forest rest))) in
    let g : bone_count (bones (node_layouts done)) ≡ bone_count done = ap bone_count (bones_node_layouts done) in
    let h : bone_count (bones (node_layouts (bones_of left (forest rest)))) ≡ bone_count (bones_of left (forest rest)) = ap bone_count (bones_node_layouts (bones_of left (forest rest))) in
    let i : bone_count (bones (node_layouts whole)) ≡ bone_count whole = ap bone_count (bones_node_layouts whole) in
    let j = count_bones left (forest rest) in
    omega (arith, e, f, g, h, i, j)

-- there is room for the item's lines
pub push_fits : (whole done : PlainLayout) (left : List PlainSection) (items : List PlainNode) (k : ℕ) (node : PlainNode) (item : PlainNodeLayout) (led : Bool)
    → slice_get items k ≡ Some node → item ≡ node_layout_of led node → IsMade whole done left (drop k items)
    → heights done + height item ≤ 4 * bone_count whole
push_fits whole done left items k node item led there item_is m =
    let few = made_few whole done left (drop k items) m in
    let first : count (forest (drop k items)) ≡ count node.inner + count (forest (drop (k + 1) items)) + 1 = ap (λ xs. count (forest xs)) (left_from items k node there) in
    let inner : bone_count item.inner ≡ count node.inner = ap (λ (o : PlainNodeLayout). bone_count o.inner) item_is ∙ count_bones (row_of node.label.kind).sections node.inner in
    omega (arith, few, first, inner, heights_le done, height_le item)

-- whether something is there, as it is and mapped
pub some_mapped : {A B : Type 0} (f : A → B) (o : Option A) → is_some o ≡ is_some (option_map f o)
some_mapped f None = refl
some_mapped f (Some a) = refl

-- two nodes of a layout are the same where their fields are
pub same_node_layout : (one other : PlainNodeLayout) → one.bone ≡ other.bone → one.inner ≡ other.inner → one ≡ other
same_node_layout one other bone inner = λ i. record { bone = bone i; inner = inner i }
