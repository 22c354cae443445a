-- A tree stays one where a hole comes into a list, or leaves a list of two or more.
use Rattle.std.specs.Prelude.{◌≡◌, refl, ℕ, zero, suc, ◌+◌, ◌<◌, ◌≤◌, Bool, true, false, is_some, if◌then◌else◌, ◌==◌, List, [], ◌∷◌, ◌++◌, Option, Some, None, slice_get}
use Rattle.std.specs.Option.{option_map_or}
use Rattle.std.proofs.Common.{ap, sym, ◌∙◌, subst, arith, inl, inr}
use Rattle.std.proofs.Math.Bool.{false≢true}
use Rattle.std.proofs.lemmas.Bool.{cases_lt, ne_eqb}
use Rattle.std.proofs.lemmas.Option.{none-some}
use Rattle.plcs_grammar.specs.declared.node_kind.NodeKind.{NodeKind}
use Rattle.plcs_grammar.specs.declared.node_kind.Sort.{Sort}
use Rattle.plcs_grammar.specs.Template.{PlainSection, row_of, program_sections}
use Rattle.template_tree.specs.declared.side.Side.{Side}
use Rattle.template_tree.specs.Programs.PlainTree.{Forest, Label, PlainNode, PlainTree, nodes, forest}
use Rattle.template_tree.specs.Programs.Program.{sorts, sort_of, Fill, AreNodes, IsProgram, IsSubtree}
use Rattle.template_tree.specs.Programs.Slots.{count, depth, first_slot, times, AllBelow}
use Rattle.template_tree.specs.Positions.Path.{below, last_child_number, node_at}
use Rattle.template_tree.specs.Programs.Limit.{most_slots, most_drawn_slots}
use Rattle.template_tree.specs.Programs.Tree.{IsTree}
use Rattle.template_tree.specs.Edits.Edit.{Add, Drop, edit_at, give_way, with_hole}
use Rattle.template_tree.specs.Edits.Hole.{is_hole, hole_list, hole_of, lone}
use Rattle.template_tree.specs.Edits.ListItem.{is_listed, sections_at, siblings_at, how_many}
use Rattle.template_tree.specs.Edits.EditAnswer.{IsListItem, IsSpareHole}
use Rattle.template_tree.specs.Edits.Receipt.{with_beside}
use Rattle.template_tree.specs.Private.Apart.{AreApart}
use Rattle.template_tree.proofs.Edits.SameEdits.{taken, edits_alike}
use Rattle.template_tree.proofs.Edits.SlotEdits.{slot_edit_is_path_edit}
use Rattle.template_tree.proofs.Puts.PutTrees.{below_more, none_above}
use Rattle.template_tree.proofs.Puts.Holes.{hole_empty, hole_sort, hole_subtree}
use Rattle.template_tree.proofs.Trees.LentNodes.{got}
use Rattle.template_tree.proofs.Trees.Subtrees.{subtree_at}
use Rattle.template_tree.proofs.Lists.ApartSections.{row_apart, program_apart}
use Rattle.template_tree.proofs.Lists.FilledLists.{doubled, without, listed_hole, fill_doubled, fill_without}

-- one where the two are the same
abbrev pub one_if : ℕ → ℕ → ℕ
one_if a b = if a == b then 1 else 0

-- the nodes after, where a hole in the slot came beside one of them
pub record Grown (slot : ℕ) (before after : Forest) : Type 0 where
  pub count_is : count after ≡ count before + 1
  pub depth_is : depth after ≡ depth before
  pub times_are : (other : ℕ) → times other after ≡ times other before + one_if slot other
  pub below : (number : ℕ) → AllBelow number before → slot < number → AllBelow number after

pub grown : (side : Side) (slot : ℕ) (kind : NodeKind) (items : Forest) (path : List ℕ) (node : PlainNode) → node_at items path ≡ Some node
    → Grown slot items (edit_at (with_beside side (lone slot kind)) path items)
grown side slot kind items [] node e = absurd (none-some node e)
grown side slot kind Forest.nil (k ∷ path) node e = absurd (none-some node e)
grown Side.Before slot kind (Forest.cons label inner rest) (zero ∷ []) node e =
    record {
      count_is = omega arith;
      depth_is = omega arith;
      times_are = λ other. omega arith;
      below = λ number h less. (less, tt, h);
    }
grown Side.After slot kind (Forest.cons label inner rest) (zero ∷ []) node e =
    record {
      count_is = omega arith;
      depth_is = omega arith;
      times_are = λ other. omega arith;
      below = λ number h less. (h.0, h.1, (less, tt, h.2));
    }
grown side slot kind (Forest.cons label inner rest) (zero ∷ (j ∷ path)) node e =
    let g = grown side slot kind inner (j ∷ path) node e in
    record {
      count_is = omega (arith, g.count_is);
      depth_is = omega (arith, g.depth_is);
      times_are = λ other. omega (arith, g.times_are other);
      below = λ number h less. (h.0, g.below number h.1 less, h.2);
    }
grown side slot kind (Forest.cons label inner rest) (suc k ∷ path) node e =
    let g = grown side slot kind rest (k ∷ path) node e in
    record {
      count_is = omega (arith, g.count_is);
      depth_is = omega (arith, g.depth_is);
      times_are = λ other. omega (arith, g.times_are other);
      below = λ number h less. (h.0, h.1, g.below number h.2 less);
    }

-- the nodes after, where this one of them left
pub record Shrunk (gone : PlainNode) (before after : Forest) : Type 0 where
  pub count_is : count after + count gone.inner + 1 ≡ count before
  pub depth_is : depth after ≤ depth before
  pub times_are : (other : ℕ) → times other after + times other (forest (gone ∷ [])) ≡ times other before
  pub below : (number : ℕ) → AllBelow number before → AllBelow number after

pub shrunk : (items : Forest) (path : List ℕ) (node : PlainNode) → node_at items path ≡ Some node → Shrunk node items (edit_at (λ _. []) path items)
shrunk items [] node e = absurd (none-some node e)
shrunk Forest.nil (k ∷ path) node e = absurd (none-some node e)
shrunk (Forest.cons label inner rest) (zero ∷ []) node e =
    let there : PlainNode = record { label = label; inner = inner } in
    let same : there ≡ node = ap (taken node) e in
    subst (λ n. Shrunk n (Forest.cons label inner rest) rest) same
    record {
      count_is = omega arith;
      depth_is = omega arith;
      times_are = λ other. omega arith;
      below = λ number h. h.2;
    }
shrunk (Forest.cons label inner rest) (zero ∷ (j ∷ path)) node e =
    let g = shrunk inner (j ∷ path) node e in
    record {
      count_is = omega (arith, g.count_is);
      depth_is = omega (arith, g.depth_is);
      times_are = λ other. omega (arith, g.times_are other);
      below = λ number h. (h.0, g.below number h.1, h.2);
    }
shrunk (Forest.cons label inner rest) (suc k ∷ path) node e =
    let g = shrunk rest (k ∷ path) node e in
    record {
      count_is = omega (arith, g.count_is);
      depth_is = omega (arith, g.depth_is);
      times_are = λ other. omega (arith, g.times_are other);
      below = λ number h. (h.0, h.1, g.below number h.2);
    }

-- what an edit does to the list in which its node stands
pub record KeepsList (change : PlainNode → List PlainNode) (sections : List PlainSection) (items : Forest) (k : ℕ) : Type 0 where
  pub filled : Fill sections (sorts (give_way change k items))
  pub sound : AreNodes (give_way change k items)

-- an item with what its list becomes: the sorts of the items around it stay
with_inner : (change : PlainNode → List PlainNode) (items : Forest) (k : ℕ) (path : List ℕ) (j : ℕ) → AreNodes items
    → ((node : PlainNode) → slice_get (nodes items) k ≡ Some node → AreNodes node.inner → Fill (row_of node.label.kind).sections (sorts node.inner)
    → Fill (row_of node.label.kind).sections (sorts (edit_at change (j ∷ path) node.inner)) × AreNodes (edit_at change (j ∷ path) node.inner))
    → (sorts (edit_at change (k ∷ (j ∷ path)) items) ≡ sorts items) × AreNodes (edit_at change (k ∷ (j ∷ path)) items)
with_inner change Forest.nil k path j sound law = (refl, tt)
with_inner change (Forest.cons label inner rest) zero path j sound law =
    let h = law record { label = label; inner = inner } refl sound.1 sound.0.inner in
    (refl, (record { parts = sound.0.parts; inner = h.0; elision = sound.0.elision }, h.1, sound.2))
with_inner change (Forest.cons label inner rest) (suc k) path j sound law =
    let h = with_inner change rest k path j sound.2 (λ node e. law node e) in
    (ap (λ ss. sort_of label.kind ∷ ss) h.0, (sound.0, sound.1, h.1))

-- the edit keeps the list in which the node at a path stands
abbrev pub KeepsAt : (PlainNode → List PlainNode) → List PlainSection → Forest → List ℕ → Type 0
KeepsAt change sections items path =
    AreApart (sections_at sections items path) → Fill (sections_at sections items path) (sorts (siblings_at items path))
    → AreNodes (siblings_at items path)
    → KeepsList change (sections_at sections items path) (siblings_at items path) (last_child_number path)

carried : (change : PlainNode → List PlainNode) (k : ℕ) {one other : List PlainSection} {before after : Forest} → one ≡ other → before ≡ after
    → (AreApart one → Fill one (sorts before) → AreNodes before → KeepsList change one before k)
    → AreApart other → Fill other (sorts after) → AreNodes after → KeepsList change other after k
carried change k {one} {other} {before} {after} p q law apart fill sound =
    subst (λ sections. KeepsList change sections after k) p
    (subst (λ items. KeepsList change one items k) q
    (law (subst AreApart (sym p) apart)
    (subst (λ items. Fill one (sorts items)) (sym q) (subst (λ sections. Fill sections (sorts after)) (sym p) fill))
    (subst AreNodes (sym q) sound)))

-- the same seen from the item on the way
below_item : (change : PlainNode → List PlainNode) (sections : List PlainSection) (items : Forest) (k j : ℕ) (path : List ℕ) (node : PlainNode)
    → slice_get (nodes items) k ≡ Some node → KeepsAt change sections items (k ∷ (j ∷ path))
    → KeepsAt change (row_of node.label.kind).sections node.inner (j ∷ path)
below_item change sections items k j path node there keeps =
    let sections_are : sections_at sections items (k ∷ (j ∷ path)) ≡ sections_at (row_of node.label.kind).sections node.inner (j ∷ path) =
    ap (λ o. option_map_or (λ (n : PlainNode). sections_at (row_of n.label.kind).sections n.inner (j ∷ path)) o []) there
    in
    let siblings_are : siblings_at items (k ∷ (j ∷ path)) ≡ siblings_at node.inner (j ∷ path) =
    ap (λ o. option_map_or (λ (n : PlainNode). siblings_at n.inner (j ∷ path)) o Forest.nil) there
    in
    carried change (last_child_number (j ∷ path)) sections_are siblings_are keeps

-- so it keeps the nodes
pub kept : (change : PlainNode → List PlainNode) (sections : List PlainSection) (items : Forest) (k : ℕ) (path : List ℕ)
    → AreApart sections → Fill sections (sorts items) → AreNodes items → KeepsAt change sections items (k ∷ path)
    → Fill sections (sorts (edit_at change (k ∷ path) items)) × AreNodes (edit_at change (k ∷ path) items)
kept change sections items k [] apart fill sound keeps = let h = keeps apart fill sound in (h.filled, h.sound)
kept change sections items k (j ∷ path) apart fill sound keeps =
    let h = with_inner change items k path j sound
    (λ node there inner own.
    kept change (row_of node.label.kind).sections node.inner j path (row_apart node.label.kind) own inner
    (below_item change sections items k j path node there keeps))
    in
    (subst (Fill sections) (sym h.0) fill, h.1)

-- the node at a path stands among its siblings
pub sibling_there : (items : Forest) (path : List ℕ) (node : PlainNode) → node_at items path ≡ Some node
    → slice_get (nodes (siblings_at items path)) (last_child_number path) ≡ Some node
sibling_there items [] node e = absurd (none-some node e)
sibling_there items (k ∷ []) node e =
    let g = got (slice_get (nodes items) k) [] node e in g.1 ∙ g.2
sibling_there items (k ∷ (j ∷ path)) node e =
    let g = got (slice_get (nodes items) k) (j ∷ path) node e in
    let siblings_are : siblings_at items (k ∷ (j ∷ path)) ≡ siblings_at g.0.inner (j ∷ path) =
    ap (λ o. option_map_or (λ (n : PlainNode). siblings_at n.inner (j ∷ path)) o Forest.nil) g.1
    in
    ap (λ f. slice_get (nodes f) (last_child_number (j ∷ path))) siblings_are ∙ sibling_there g.0.inner (j ∷ path) node g.2

-- the sections in which a node stands
item_apart : (o : Option PlainNode) (path : List ℕ) → ((node : PlainNode) → AreApart (sections_at (row_of node.label.kind).sections node.inner path))
    → AreApart (option_map_or (λ (n : PlainNode). sections_at (row_of n.label.kind).sections n.inner path) o [])
item_apart None path law = tt
item_apart (Some node) path law = law node

pub sections_apart : (sections : List PlainSection) (items : Forest) (path : List ℕ) → AreApart sections → AreApart (sections_at sections items path)
sections_apart sections items [] apart = tt
sections_apart sections items (k ∷ []) apart = apart
sections_apart sections items (k ∷ (j ∷ path)) apart =
    item_apart (slice_get (nodes items) k) (j ∷ path)
    (λ node. sections_apart (row_of node.label.kind).sections node.inner (j ∷ path) (row_apart node.label.kind))

-- the sort of an item
pub sort_there : (items : Forest) (k : ℕ) (node : PlainNode) → slice_get (nodes items) k ≡ Some node
    → slice_get (sorts items) k ≡ Some (sort_of node.label.kind)
sort_there Forest.nil k node e = absurd (none-some node e)
sort_there (Forest.cons label inner rest) zero node e =
    let same : record { label = label; inner = inner } ≡ node = ap (taken node) e in ap (λ (n : PlainNode). Some (sort_of n.label.kind)) same
sort_there (Forest.cons label inner rest) (suc k) node e = sort_there rest k node e

-- the sorts where a hole of the item's sort comes beside it
beside_sorts : (side : Side) (hole : PlainNode) (items : Forest) (k : ℕ) (node : PlainNode) → slice_get (nodes items) k ≡ Some node
    → sort_of hole.label.kind ≡ sort_of node.label.kind → sorts (give_way (with_beside side hole) k items) ≡ doubled k (sorts items)
beside_sorts side hole Forest.nil k node e same = absurd (none-some node e)
beside_sorts Side.Before hole (Forest.cons label inner rest) zero node e same =
    let there : record { label = label; inner = inner } ≡ node = ap (taken node) e in
    ap (λ s. s ∷ (sort_of label.kind ∷ sorts rest)) (same ∙ ap (λ (n : PlainNode). sort_of n.label.kind) (sym there))
beside_sorts Side.After hole (Forest.cons label inner rest) zero node e same =
    let there : record { label = label; inner = inner } ≡ node = ap (taken node) e in
    ap (λ s. sort_of label.kind ∷ (s ∷ sorts rest)) (same ∙ ap (λ (n : PlainNode). sort_of n.label.kind) (sym there))
beside_sorts side hole (Forest.cons label inner rest) (suc k) node e same =
    ap (λ ss. sort_of label.kind ∷ ss) (beside_sorts side hole rest k node e same)

beside_sound : (side : Side) (hole : PlainNode) (items : Forest) (k : ℕ) → IsSubtree hole → AreNodes items
    → AreNodes (give_way (with_beside side hole) k items)
beside_sound side hole Forest.nil k own sound = tt
beside_sound Side.Before hole (Forest.cons label inner rest) zero own sound = (own.0, own.1, sound)
beside_sound Side.After hole (Forest.cons label inner rest) zero own sound = (sound.0, sound.1, (own.0, own.1, sound.2))
beside_sound side hole (Forest.cons label inner rest) (suc k) own sound = (sound.0, sound.1, beside_sound side hole rest k own sound.2)

-- the sorts where an item leaves
left_sorts : (items : Forest) (k : ℕ) → sorts (give_way (λ _. []) k items) ≡ without k (sorts items)
left_sorts Forest.nil k = refl
left_sorts (Forest.cons label inner rest) zero = refl
left_sorts (Forest.cons label inner rest) (suc k) = ap (λ ss. sort_of label.kind ∷ ss) (left_sorts rest k)

left_sound : (items : Forest) (k : ℕ) → AreNodes items → AreNodes (give_way (λ _. []) k items)
left_sound Forest.nil k sound = tt
left_sound (Forest.cons label inner rest) zero sound = sound.2
left_sound (Forest.cons label inner rest) (suc k) sound = (sound.0, sound.1, left_sound rest k sound.2)

-- a hole for items of a sort that stands in a list
some_kind : (o : Option NodeKind) → is_some o ≡ true → (kind : NodeKind) × (o ≡ Some kind)
some_kind None e = absurd (false≢true e)
some_kind (Some kind) e = (kind, refl)

pub hole_kind : (items : Forest) (path : List ℕ) (node : PlainNode) → IsListItem items path node
    → (kind : NodeKind) × (hole_of (sort_of node.label.kind) ≡ Some kind)
hole_kind items path node listed =
    some_kind (hole_of (sort_of node.label.kind))
    (listed_hole (sort_of node.label.kind) (sections_at program_sections items path) (sections_apart program_sections items path program_apart) listed)

-- a hole comes beside an item of a list, and its list stays one
beside_keeps : (side : Side) (hole : PlainNode) (sections : List PlainSection) (items : Forest) (k : ℕ) (node : PlainNode)
    → slice_get (nodes items) k ≡ Some node → sort_of hole.label.kind ≡ sort_of node.label.kind → IsSubtree hole
    → is_listed (sort_of node.label.kind) sections ≡ true → AreApart sections → Fill sections (sorts items) → AreNodes items
    → KeepsList (with_beside side hole) sections items k
beside_keeps side hole sections items k node there same own listed apart fill sound =
    record {
      filled = subst (Fill sections) (sym (beside_sorts side hole items k node there same))
          (fill_doubled sections (sorts items) (sort_of node.label.kind) k apart listed (sort_there items k node there) fill);
      sound = beside_sound side hole items k own sound;
    }

-- an item leaves a list of two or more
left_keeps : (sections : List PlainSection) (items : Forest) (k : ℕ) (node : PlainNode) → slice_get (nodes items) k ≡ Some node
    → is_listed (sort_of node.label.kind) sections ≡ true → 2 ≤ how_many (sort_of node.label.kind) (sorts items) → AreApart sections
    → Fill sections (sorts items) → AreNodes items → KeepsList (λ _. []) sections items k
left_keeps sections items k node there listed two apart fill sound =
    record {
      filled = subst (Fill sections) (sym (left_sorts items k))
          (fill_without sections (sorts items) (sort_of node.label.kind) k apart listed (sort_there items k node there) two fill);
      sound = left_sound items k sound;
    }

-- what stands where a hole comes beside a node
with_hole_is : (slot : ℕ) (side : Side) (node : PlainNode) (kind : NodeKind) → hole_of (sort_of node.label.kind) ≡ Some kind
    → with_hole slot side node ≡ with_beside side (lone slot kind) node
with_hole_is slot Side.Before node kind e = ap (λ o. hole_list slot o ++ node ∷ []) e
with_hole_is slot Side.After node kind e = ap (λ o. node ∷ hole_list slot o) e

-- by path a hole comes where it comes by slot
pub add_by_path : (tree : PlainTree) (path : List ℕ) (node : PlainNode) (side : Side) (kind : NodeKind) → IsTree tree
    → node_at tree.items path ≡ Some node → hole_of (sort_of node.label.kind) ≡ Some kind
    → (Add tree node.label.slot side).items ≡ edit_at (with_beside side (lone tree.drawn kind)) path tree.items
add_by_path tree path node side kind t there hole =
    slot_edit_is_path_edit (with_hole tree.drawn side) tree.items path node (t.once node.label.slot) there
    ∙ edits_alike (with_hole tree.drawn side) (with_beside side (lone tree.drawn kind)) tree.items path node there
    (with_hole_is tree.drawn side node kind hole)

-- and leaves where it leaves
pub drop_by_path : (tree : PlainTree) (path : List ℕ) (node : PlainNode) → IsTree tree → node_at tree.items path ≡ Some node
    → (Drop tree node.label.slot).items ≡ edit_at (λ _. []) path tree.items
drop_by_path tree path node t there = slot_edit_is_path_edit (λ _. []) tree.items path node (t.once node.label.slot) there

-- the nodes with a hole more are a program
added_program : (tree : PlainTree) (path : List ℕ) (node : PlainNode) (side : Side) (kind : NodeKind) → IsTree tree
    → node_at tree.items path ≡ Some node → IsListItem tree.items path node → hole_of (sort_of node.label.kind) ≡ Some kind
    → IsProgram (edit_at (with_beside side (lone tree.drawn kind)) path tree.items)
added_program tree [] node side kind t there listed hole = absurd (none-some node there)
added_program tree (k ∷ path) node side kind t there listed hole =
    let h = kept (with_beside side (lone tree.drawn kind)) program_sections tree.items k path program_apart t.program.listed t.program.sound
    (beside_keeps side (lone tree.drawn kind) (sections_at program_sections tree.items (k ∷ path)) (siblings_at tree.items (k ∷ path))
    (last_child_number (k ∷ path)) node (sibling_there tree.items (k ∷ path) node there) (hole_sort (sort_of node.label.kind) kind hole)
    (hole_subtree tree.drawn (sort_of node.label.kind) kind hole) listed)
    in record { listed = h.0; sound = h.1 }

-- and so are those with one less
left_program : (tree : PlainTree) (path : List ℕ) (node : PlainNode) → IsTree tree → node_at tree.items path ≡ Some node
    → IsSpareHole tree.items path node → IsProgram (edit_at (λ _. []) path tree.items)
left_program tree [] node t there spare = absurd (none-some node there)
left_program tree (k ∷ path) node t there spare =
    let h = kept (λ _. []) program_sections tree.items k path program_apart t.program.listed t.program.sound
    (left_keeps (sections_at program_sections tree.items (k ∷ path)) (siblings_at tree.items (k ∷ path)) (last_child_number (k ∷ path)) node
    (sibling_there tree.items (k ∷ path) node there) spare.listed spare.others)
    in record { listed = h.0; sound = h.1 }

-- a hole's kind is that of the holes of its sort
own_hole : (kind : NodeKind) → is_hole kind ≡ true → hole_of (sort_of kind) ≡ Some kind
own_hole NodeKind.DeclarationHole e = refl
own_hole NodeKind.StatementHole e = refl
own_hole NodeKind.ProcedureHole e = refl
own_hole other e = absurd (false≢true e)

ne_one : (a b : ℕ) → (a ≡ b → ⊥) → one_if a b ≡ 0
ne_one a b other = rw (ne_eqb a b other) refl

one_at_most : (b : Bool) → (if b then 1 else 0) ≤ 1
one_at_most true = omega arith
one_at_most false = omega arith

-- a slot stands but once where the next one came
once_more : (slot drawn : ℕ) (before after : Forest) → AllBelow drawn before → times slot before ≤ 1
    → times slot after ≡ times slot before + one_if drawn slot → times slot after ≤ 1
once_more slot drawn before after below once e =
    elim (cases_lt slot drawn) [
      | inl old ↦ omega (arith, once, e, ne_one drawn slot (λ same. omega (arith, old, same)))
      | inr new ↦ omega (arith, e, none_above slot drawn before new below, one_at_most (drawn == slot))
    ]

-- the first node of a program is main
main_first : (label : Label) (inner rest : Forest) → Fill program_sections (sorts (Forest.cons label inner rest)) → sort_of label.kind ≡ Sort.Main
main_first label inner rest h =
    let e : sort_of label.kind ∷ sorts rest ≡ Sort.Main ∷ h.1 = h.2 ∙ ap (λ own. own ++ h.1) h.3 in cc

-- main has no hole
no_main_hole : (sort : Sort) (kind : NodeKind) → sort ≡ Sort.Main → hole_of sort ≡ Some kind → ⊥
no_main_hole sort kind e hole = none-some kind (sym (ap hole_of e) ∙ hole)

-- where something is done to a node that may be a hole, the first one stays
first_kept : (edit : PlainNode → List PlainNode) (items : Forest) (path : List ℕ) (node : PlainNode) (kind : NodeKind) → node_at items path ≡ Some node
    → Fill program_sections (sorts items) → hole_of (sort_of node.label.kind) ≡ Some kind → first_slot (edit_at edit path items) ≡ first_slot items
first_kept edit items [] node kind e filled hole = absurd (none-some node e)
first_kept edit Forest.nil (k ∷ path) node kind e filled hole = absurd (none-some node e)
first_kept edit (Forest.cons label inner rest) (zero ∷ []) node kind e filled hole =
    let same : record { label = label; inner = inner } ≡ node = ap (taken node) e in
    absurd (no_main_hole (sort_of node.label.kind) kind (subst (λ n. sort_of n.label.kind ≡ Sort.Main) same (main_first label inner rest filled)) hole)
first_kept edit (Forest.cons label inner rest) (zero ∷ (j ∷ path)) node kind e filled hole = refl
first_kept edit (Forest.cons label inner rest) (suc k ∷ path) node kind e filled hole = refl

-- a tree is one where a hole comes beside an item of a list, and the limits hold
pub add_keeps_tree : (tree : PlainTree) (path : List ℕ) (node : PlainNode) (side : Side) → IsTree tree → node_at tree.items path ≡ Some node
    → IsListItem tree.items path node → (Add tree node.label.slot side).live ≤ most_slots → (Add tree node.label.slot side).drawn ≤ most_drawn_slots
    → IsTree (Add tree node.label.slot side) × ((Add tree node.label.slot side).live ≡ tree.live + 1)
    × (depth (Add tree node.label.slot side).items ≡ depth tree.items)
add_keeps_tree tree path node side t there listed few drawn_few =
    let hole = hole_kind tree.items path node listed in
    let by_path = add_by_path tree path node side hole.0 t there hole.1 in
    let g : Grown tree.drawn tree.items (Add tree node.label.slot side).items =
    subst (Grown tree.drawn tree.items) (sym by_path) (grown side tree.drawn hole.0 tree.items path node there) in (
      record {
        program = subst IsProgram (sym by_path) (added_program tree path node side hole.0 t there listed hole.1);
        shallow = omega (arith, g.depth_is, t.shallow);
        few = few;
        drawn_few = drawn_few;
        drawn = g.below (tree.drawn + 1) (below_more tree.drawn (tree.drawn + 1) tree.items (omega arith) t.drawn) (omega arith);
        once = λ slot. once_more slot tree.drawn tree.items (Add tree node.label.slot side).items t.drawn (t.once slot) (g.times_are slot);
        main =
            ap first_slot by_path
            ∙ (first_kept (with_beside side (lone tree.drawn hole.0)) tree.items path node hole.0 there t.program.listed hole.1 ∙ t.main);
        live = refl;
      },
      omega (arith, g.count_is, t.live),
      g.depth_is,
    )

-- a tree is one where a hole leaves a list of two or more
pub drop_keeps_tree : (tree : PlainTree) (path : List ℕ) (node : PlainNode) → IsTree tree → node_at tree.items path ≡ Some node
    → IsSpareHole tree.items path node → IsTree (Drop tree node.label.slot) × ((Drop tree node.label.slot).live + 1 ≡ tree.live)
drop_keeps_tree tree path node t there spare =
    let by_path = drop_by_path tree path node t there in
    let g : Shrunk node tree.items (Drop tree node.label.slot).items =
    subst (Shrunk node tree.items) (sym by_path) (shrunk tree.items path node there) in
    let empty : count node.inner ≡ 0 = hole_empty (sort_of node.label.kind) node (subtree_at tree.items path node t.program.sound there) (own_hole node.label.kind spare.hole) in (
      record {
        program = subst IsProgram (sym by_path) (left_program tree path node t there spare);
        shallow = omega (arith, g.depth_is, t.shallow);
        few = omega (arith, g.count_is, t.few);
        drawn_few = t.drawn_few;
        drawn = g.below tree.drawn t.drawn;
        once = λ slot. omega (arith, g.times_are slot, t.once slot);
        main =
            ap first_slot by_path
            ∙ (first_kept (λ _. []) tree.items path node node.label.kind there t.program.listed (own_hole node.label.kind spare.hole) ∙ t.main);
        live = refl;
      },
      omega (arith, g.count_is, t.live, empty),
    )
