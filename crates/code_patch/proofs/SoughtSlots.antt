-- A slot that is sought among kept nodes, one after the other.
use Rattle.std.proofs.Common.{◌≡◌, ℕ, zero, suc, ◌+◌, ◌≤◌, Bool, true, false, cond, List, [], ◌∷◌, length, drop, Option, Some, None, refl, ap, sym, subst, ◌∙◌, arith, ne_eqb}
use Rattle.std.specs.Prelude.{◌==◌, option_and_then, option_map, slice_get}
use Rattle.plcs_base.specs.ListLeft.{left_from, none_left}
use Rattle.template_tree.specs.declared.change.What.{What}
use Rattle.template_tree.specs.Programs.PlainTree.{Forest}
use Rattle.code_patch.specs.SoundCode.{times_kept}
use Rattle.code_patch.specs.CodeEdit.{PlainCodeTree, roomless_code}
use Rattle.code_patch.specs.CodeForest.{CodeForest, PlainCodeNode, code_nodes}
use Rattle.code_patch.specs.Private.KeptPaths.{LeadsToChange, kept_below, kept_depth, slot_kept_at, root_of}
use Rattle.code_patch.specs.Private.NearCode.{is_dropped}
use Rattle.code_patch.specs.Private.PlainCodeNode.{code_forest, code_forest_nodes, count_kept, roomless_code_node}

-- a node inside is less deep, and has fewer nodes inside it
pub child_deep : (inner : CodeForest) (k : ℕ) (child : PlainCodeNode) → slice_get (code_nodes inner) k ≡ Some child
    → kept_depth child.inner + 1 ≤ kept_depth inner
child_deep CodeForest.nil zero child there = absurd (cc)
child_deep CodeForest.nil (suc k) child there = absurd (cc)
child_deep (CodeForest.cons own spare inner rest) zero child there =
    let same : record { own = own; spare = spare; inner = inner } ≡ child = cc in
    let deep : kept_depth inner ≡ kept_depth child.inner = ap (λ (c : PlainCodeNode). kept_depth c.inner) same in
    omega (arith, deep)
child_deep (CodeForest.cons own spare inner rest) (suc k) child there = omega (arith, child_deep rest k child there)

pub child_fewer : (inner : CodeForest) (k : ℕ) (child : PlainCodeNode) → slice_get (code_nodes inner) k ≡ Some child
    → count_kept child.inner + 1 ≤ count_kept inner
child_fewer CodeForest.nil zero child there = absurd (cc)
child_fewer CodeForest.nil (suc k) child there = absurd (cc)
child_fewer (CodeForest.cons own spare inner rest) zero child there =
    let same : record { own = own; spare = spare; inner = inner } ≡ child = cc in
    let many : count_kept inner ≡ count_kept child.inner = ap (λ (c : PlainCodeNode). count_kept c.inner) same in
    omega (arith, many)
child_fewer (CodeForest.cons own spare inner rest) (suc k) child there = omega (arith, child_fewer rest k child there)

-- there are no more than nodes
pub many_few : (inner : CodeForest) → length (code_nodes inner) ≤ count_kept inner
many_few CodeForest.nil = omega arith
many_few (CodeForest.cons own spare inner rest) = omega (arith, many_few rest)

-- ---- one after the other

-- how often a slot counts at a node, by whether it is the node's
abbrev one_if : Bool → ℕ
one_if here = cond here 1 0

module _ (slot : ℕ) (self : PlainCodeNode) where
  -- the slot stands as often among the nodes that are left as among all
  abbrev pub Sought : (k : ℕ) → Type 0
  Sought k = times_kept slot (code_forest (drop k (code_nodes self.inner))) ≡ times_kept slot self.inner

  pub sought_first : Sought 0
  sought_first = ap (times_kept slot) (code_forest_nodes self.inner)

  pub sought_none : (k : ℕ) → slice_get (code_nodes self.inner) k ≡ None → Sought k → times_kept slot self.inner ≡ 0
  sought_none k past sought =
      sym sought ∙ ap (λ (ns : List PlainCodeNode). times_kept slot (code_forest ns)) (none_left (code_nodes self.inner) k past)

  pub sought_next : (k : ℕ) (child : PlainCodeNode) → slice_get (code_nodes self.inner) k ≡ Some child → Sought k
      → (child.own.slot ≡ slot → ⊥) → times_kept slot child.inner ≡ 0 → Sought (k + 1)
  sought_next k child there sought other none =
      let left : times_kept slot (code_forest (drop k (code_nodes self.inner)))
      ≡ times_kept slot (code_forest (child ∷ drop (k + 1) (code_nodes self.inner))) =
      ap (λ (ns : List PlainCodeNode). times_kept slot (code_forest ns)) (left_from (code_nodes self.inner) k child there) in
      let apart : one_if (child.own.slot == slot) ≡ 0 = ap one_if (ne_eqb child.own.slot slot other) in
      omega (arith, left, apart, none, sought)

  -- a path to a node inside it
  pub sought_here : (k : ℕ) (child : PlainCodeNode) (path : List ℕ) → slice_get (code_nodes self.inner) k ≡ Some child → child.own.slot ≡ slot
      → path ≡ k ∷ [] → LeadsToChange true slot path self Forest.nil
  sought_here k child path there own is =
      subst (λ (p : List ℕ). LeadsToChange true slot p self Forest.nil) (sym is)
      (ap (λ (o : Option PlainCodeNode). option_map (λ (n : PlainCodeNode). n.own.slot) (option_and_then (λ (c : PlainCodeNode). kept_below c []) o)) there
      ∙ ap (λ (n : ℕ). Some n) own)

  pub sought_inside : (k : ℕ) (child : PlainCodeNode) (path below : List ℕ) → slice_get (code_nodes self.inner) k ≡ Some child
      → LeadsToChange true slot below child Forest.nil → path ≡ k ∷ below → LeadsToChange true slot path self Forest.nil
  sought_inside k child path [] there leads is = absurd leads
  sought_inside k child path (j ∷ below) there leads is =
      subst (λ (p : List ℕ). LeadsToChange true slot p self Forest.nil) (sym is)
      (ap (λ (o : Option PlainCodeNode). option_map (λ (n : PlainCodeNode). n.own.slot) (option_and_then (λ (c : PlainCodeNode). kept_below c (j ∷ below)) o)) there
      ∙ leads)

-- a path with a number in it leads to the slot that stands there
pub leads_at : (slot : ℕ) (path : List ℕ) (kept : PlainCodeNode) → false ≡ (length path == 0) → slot_kept_at kept path ≡ Some slot
    → LeadsToChange true slot path kept Forest.nil
leads_at slot [] kept some there = absurd (cc)
leads_at slot (k ∷ path) kept some there = there

-- what else is known of the tree plays no part
pub leads_kept : (slot : ℕ) (path : List ℕ) (kept : PlainCodeNode) (one other : Forest) → LeadsToChange true slot path kept one
    → LeadsToChange true slot path kept other
leads_kept slot [] kept one other leads = leads
leads_kept slot (k ∷ path) kept one other leads = leads

-- nor does room
nodes_roomless : (inner : CodeForest) (k : ℕ)
    → slice_get (code_nodes (roomless_code inner)) k ≡ option_map roomless_code_node (slice_get (code_nodes inner) k)
nodes_roomless CodeForest.nil zero = refl
nodes_roomless CodeForest.nil (suc k) = refl
nodes_roomless (CodeForest.cons own spare inner rest) zero = refl
nodes_roomless (CodeForest.cons own spare inner rest) (suc k) = nodes_roomless rest k

-- the slot of the kept node at a path is that without room
slot_is : (path : List ℕ) (node : PlainCodeNode) → slot_kept_at node path ≡ slot_kept_at (roomless_code_node node) path
slot_is [] node = refl
slot_is (k ∷ path) node =
    by (slice_get (code_nodes node.inner) k) (λ child. slot_is path child)
    ∙ sym
    (ap (λ (o : Option PlainCodeNode). option_map (λ (n : PlainCodeNode). n.own.slot) (option_and_then (λ (c : PlainCodeNode). kept_below c path) o))
    (nodes_roomless node.inner k))
  where
    by : (o : Option PlainCodeNode) → ((child : PlainCodeNode) → slot_kept_at child path ≡ slot_kept_at (roomless_code_node child) path)
        → option_map (λ (n : PlainCodeNode). n.own.slot) (option_and_then (λ (c : PlainCodeNode). kept_below c path) o)
        ≡ option_map (λ (n : PlainCodeNode). n.own.slot) (option_and_then (λ (c : PlainCodeNode). kept_below c path) (option_map roomless_code_node o))
    by None again = refl
    by (Some child) again = again child

slots_roomless : (path : List ℕ) (one other : PlainCodeNode) → one.own ≡ other.own → roomless_code one.inner ≡ roomless_code other.inner
    → slot_kept_at one path ≡ slot_kept_at other path
slots_roomless path one other own inner =
    slot_is path one ∙ (λ i. slot_kept_at (record { own = own i; spare = 0; inner = inner i }) path) ∙ sym (slot_is path other)

pub leads_roomless : (what : What) (slot : ℕ) (path : List ℕ) (one other : PlainCodeTree) (after : Forest)
    → roomless_code one.items ≡ roomless_code other.items → LeadsToChange (is_dropped what) slot path (root_of one) after
    → LeadsToChange (is_dropped what) slot path (root_of other) after
leads_roomless what slot path one other after same leads = by (is_dropped what) path leads
  where
    by : (b : Bool) (p : List ℕ) → LeadsToChange b slot p (root_of one) after → LeadsToChange b slot p (root_of other) after
    by true [] on = on
    by true (k ∷ p) on = sym (slots_roomless (k ∷ p) (root_of one) (root_of other) refl same) ∙ on
    by false p on = on
