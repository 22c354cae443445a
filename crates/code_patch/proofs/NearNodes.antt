-- Kept nodes that are near what is kept after an edit, one by one.
use Rattle.std.proofs.Common.{◌≡◌, ℕ, zero, suc, ◌+◌, ◌-◌, ◌<◌, ◌≤◌, Bool, false, List, [], ◌∷◌, length, Option, Some, None, refl, ap, subst, ◌∙◌, arith, ne_eqb}
use Rattle.std.specs.Prelude.{◌&&◌, ◌||◌, ◌==◌, slice_get}
use Rattle.std.specs.Option.{option_map_or}
use Rattle.template_tree.specs.Programs.PlainTree.{Forest, PlainNode, nodes}
use Rattle.plcs_code.specs.OwnCode.{own_code_by}
use Rattle.code_patch.specs.Bill.{is_of_node}
use Rattle.code_patch.specs.CodeEdit.{code_added, code_gives_way, roomless_code}
use Rattle.code_patch.specs.CodeForest.{CodeForest, kept_code, PlainCodeNode, code_nodes}
use Rattle.code_patch.specs.Private.NearCode.{Near, NodeNear, OwnNear, PlainPlan, ends_here, first_number, is_visited, item_edited, near_as, way_below}
use Rattle.code_patch.specs.Private.PlainCodeNode.{code_forest, kept_node, roomless_code_node}

module _ (plan : PlainPlan) where
  -- as many are kept as there are after the edit
  pub near_length : (way : Option (List ℕ)) (k : ℕ) (kept : CodeForest) (after : Forest) → Near plan way k kept after
      → length (code_nodes kept) ≡ length (nodes after)
  near_length way k CodeForest.nil Forest.nil near = refl
  near_length way k CodeForest.nil (Forest.cons label within others) near = absurd near
  near_length way k (CodeForest.cons own spare inner rest) Forest.nil near = absurd near
  near_length way k (CodeForest.cons own spare inner rest) (Forest.cons label within others) near =
      ap suc (near_length way (k + 1) rest others near.1)

  -- the node of a number
  pub near_at : (way : Option (List ℕ)) (k : ℕ) (kept : CodeForest) (after : Forest) (j : ℕ) (node : PlainNode) → Near plan way k kept after
      → slice_get (nodes after) j ≡ Some node
      → (child : PlainCodeNode) × (slice_get (code_nodes kept) j ≡ Some child) × NodeNear plan way (k + j) child node
  near_at way k CodeForest.nil Forest.nil j node near there = absurd (cc)
  near_at way k CodeForest.nil (Forest.cons label within others) j node near there = absurd near
  near_at way k (CodeForest.cons own spare inner rest) Forest.nil j node near there = absurd near
  near_at way k (CodeForest.cons own spare inner rest) (Forest.cons label within others) zero node near there =
      let same : record { label = label; inner = within } ≡ node = cc in
      let at : k ≡ k + zero = omega arith in
      let child : PlainCodeNode = record { own = own; spare = spare; inner = inner } in
      (child, refl, subst (λ (n : PlainNode). NodeNear plan way (k + zero) child n) same (subst (λ (m : ℕ). NodeNear plan way m child (record { label = label; inner = within })) at near.0))
  near_at way k (CodeForest.cons own spare inner rest) (Forest.cons label within others) (suc j) node near there =
      let (child, found, is) = near_at way (k + 1) rest others j node near.1 there in
      let at : k + 1 + j ≡ k + suc j = omega arith in
      (child, found, subst (λ (m : ℕ). NodeNear plan way m child node) at is)

  -- where no node is gone to but one, the others aren't
  pub not_visited : (way : Option (List ℕ)) (k : ℕ) → plan.everywhere ≡ false → (first_number way ≡ Some k → ⊥) → is_visited plan way k ≡ false
  not_visited way k one other =
      ap (λ (b : Bool). b || option_map_or (λ first. first == k) (first_number way) false) one ∙ by (first_number way) refl
    where
      by : (o : Option ℕ) → first_number way ≡ o → option_map_or (λ first. first == k) o false ≡ false
      by None e = refl
      by (Some first) e = ne_eqb first k (λ same. other (e ∙ ap (λ (n : ℕ). Some n) same))

  -- a node that isn't gone to is what is kept after the edit
  pub node_same : (way : Option (List ℕ)) (k : ℕ) (child : PlainCodeNode) (node : PlainNode) → NodeNear plan way k child node
      → is_visited plan way k ≡ false → roomless_code_node child ≡ kept_node plan.marks plan.items node
  node_same way k child node near is =
      let same =
      subst
      (λ (b : Bool).
      near_as b (ends_here (way_below plan.what way k) && is_of_node plan.what)
      ((child.own ≡ own_code_by plan.marks plan.items node.label)
      × (roomless_code child.inner ≡ kept_code plan.marks plan.items node.inner))
      (OwnNear plan (ends_here (way_below plan.what way k)) child.own node.label
      × Near plan (way_below plan.what way k) 0 (item_edited plan (way_below plan.what way k) child.inner node.inner) node.inner))
      is near in
      (λ i. record { own = same.0 i; spare = 0; inner = same.1 i })

  -- nodes of which none is gone to
  pub all_same : (way : Option (List ℕ)) (k : ℕ) (kept : CodeForest) (after : Forest) → Near plan way k kept after
      → ((j : ℕ) → is_visited plan way (k + j) ≡ false) → roomless_code kept ≡ kept_code plan.marks plan.items after
  all_same way k CodeForest.nil Forest.nil near none = refl
  all_same way k CodeForest.nil (Forest.cons label within others) near none = absurd near
  all_same way k (CodeForest.cons own spare inner rest) Forest.nil near none = absurd near
  all_same way k (CodeForest.cons own spare inner rest) (Forest.cons label within others) near none =
      let here : is_visited plan way k ≡ false = ap (λ (m : ℕ). is_visited plan way m) (omega arith) ∙ none 0 in
      let child : PlainCodeNode = record { own = own; spare = spare; inner = inner } in
      let one = node_same way k child (record { label = label; inner = within }) near.0 here in
      let behind = all_same way (k + 1) rest others near.1
      (λ j. ap (λ (m : ℕ). is_visited plan way m) (omega arith) ∙ none (suc j)) in
      (λ i. CodeForest.cons (one i).own (one i).spare (one i).inner (behind i))

-- ---- once an item came or went

-- a node before the one that came
pub added_before : (one : CodeForest) (item k : ℕ) (kept : CodeForest) → k < item → item ≤ length (code_nodes kept)
    → slice_get (code_nodes (code_added one item kept)) k ≡ slice_get (code_nodes kept) k
added_before one zero k kept before there = absurd (omega (arith, before))
added_before one (suc item) k CodeForest.nil before there = absurd (omega (arith, there))
added_before one (suc item) zero (CodeForest.cons own spare inner rest) before there = refl
added_before one (suc item) (suc k) (CodeForest.cons own spare inner rest) before there =
    added_before one item k rest (omega (arith, before)) (omega (arith, there))

-- and one behind it
pub added_behind : (node : PlainCodeNode) (item k : ℕ) (kept : CodeForest) → item < k → item ≤ length (code_nodes kept)
    → slice_get (code_nodes (code_added (code_forest (node ∷ [])) item kept)) k ≡ slice_get (code_nodes kept) (k - 1)
added_behind node zero zero kept behind there = absurd (omega (arith, behind))
added_behind node zero (suc k) kept behind there =
    let less : k ≡ suc k - 1 = omega arith in
    ap (slice_get (code_nodes kept)) less
added_behind node (suc item) k CodeForest.nil behind there = absurd (omega (arith, there))
added_behind node (suc item) zero (CodeForest.cons own spare inner rest) behind there = absurd (omega (arith, behind))
added_behind node (suc item) (suc zero) (CodeForest.cons own spare inner rest) behind there = absurd (omega (arith, behind))
added_behind node (suc item) (suc (suc k)) (CodeForest.cons own spare inner rest) behind there =
    let less : suc k - 1 ≡ k = omega arith in
    let more : suc k ≡ suc (suc k) - 1 = omega arith in
    added_behind node item (suc k) rest (omega (arith, behind)) (omega (arith, there)) ∙ ap (slice_get (code_nodes rest)) less
    ∙ ap (slice_get (code_nodes (CodeForest.cons own spare inner rest))) more

-- a node before the one that went
pub dropped_before : (item k : ℕ) (kept : CodeForest) → k < item
    → slice_get (code_nodes (code_gives_way (λ was spare within. CodeForest.nil) item kept)) k ≡ slice_get (code_nodes kept) k
dropped_before zero k kept before = absurd (omega (arith, before))
dropped_before (suc item) k CodeForest.nil before = refl
dropped_before (suc item) zero (CodeForest.cons own spare inner rest) before = refl
dropped_before (suc item) (suc k) (CodeForest.cons own spare inner rest) before = dropped_before item k rest (omega (arith, before))

-- and one behind it
pub dropped_behind : (item k : ℕ) (kept : CodeForest) → item ≤ k
    → slice_get (code_nodes (code_gives_way (λ was spare within. CodeForest.nil) item kept)) k ≡ slice_get (code_nodes kept) (suc k)
dropped_behind zero k CodeForest.nil behind = refl
dropped_behind zero k (CodeForest.cons own spare inner rest) behind = refl
dropped_behind (suc item) k CodeForest.nil behind = refl
dropped_behind (suc item) zero (CodeForest.cons own spare inner rest) behind = absurd (omega (arith, behind))
dropped_behind (suc item) (suc k) (CodeForest.cons own spare inner rest) behind = dropped_behind item k rest (omega (arith, behind))
