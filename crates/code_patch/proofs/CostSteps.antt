-- What the preparation of an edit costs, node after node.
use Rattle.std.proofs.Common.{◌≡◌, ℕ, zero, suc, ◌+◌, ◌-◌, ◌<◌, ◌≤◌, Bool, true, false, List, length, Option, Some, None, refl, ap, sym, ◌∙◌, arith, true≢false}
use Rattle.std.specs.Prelude.{◌&&◌, ◌||◌, if◌then◌else◌, IfSome, drop, is_some, option_and_then, slice_get, sum, take}
use Rattle.std.specs.Option.{option_map_or}
use Rattle.std.proofs.lemmas.Option.{none-some}
use Rattle.plcs_base.specs.ListLeft.{left_from, none_left}
use Rattle.template_tree.specs.Programs.PlainTree.{Forest, Label, PlainNode, forest, nodes}
use Rattle.plcs_base.specs.PlainCounts.{PlainCounts}
use Rattle.plcs_code.specs.CodeLaws.{OwnLengthsStay}
use Rattle.plcs_code.specs.Counts.{EmitsAtMost}
use Rattle.plcs_code.specs.Gen.{own_length}
use Rattle.plcs_code.specs.OwnCode.{PlainOwnCode, jumps_around, own_code_by}
use Rattle.code_patch.specs.CodeEdit.{roomless_code}
use Rattle.code_patch.specs.CodeForest.{CodeForest, kept_code, kept_lengths, PlainCodeNode, code_nodes}
use Rattle.code_patch.specs.Private.MadeJumps.{count_jumps}
use Rattle.code_patch.specs.Private.EditCosts.{child_cost, child_moves, gone_cost, is_put, item_cost, kept_for, list_moves, node_cost, node_moves, nodes_cost, nodes_move, own_cost, visited_cost}
use Rattle.code_patch.specs.Private.NearCode.{PlainPlan, is_added, is_visited, item_number, kept_number, way_below}
use Rattle.code_patch.specs.Private.PlainCodeNode.{jumps_length, node_length}
use Rattle.code_patch.proofs.MadeCode.{around_is, whole_length}

neither_first : (a b : Bool) → (a || b) ≡ false → a ≡ false
neither_first true b none = absurd (true≢false none)
neither_first false b none = refl

neither_second : (a b : Bool) → (a || b) ≡ false → b ≡ false
neither_second true b none = absurd (true≢false none)
neither_second false b none = none

both_first : (a b : Bool) → a ≡ true → (a && b) ≡ false → b ≡ false
both_first true b holds none = none
both_first false b holds none = absurd (true≢false (sym holds))

module _ (plan : PlainPlan) (way : Option (List ℕ)) (kept : CodeForest) where
  -- ---- nodes in turn

  -- a node that is gone to costs what it does
  pub cost_visited : (k : ℕ) (node : PlainNode) → is_visited plan way k ≡ true
      → visited_cost plan way kept k node ≡ child_cost plan way kept k node
  cost_visited k node is = ap (λ (b : Bool). if b then child_cost plan way kept k node else 0) is

  -- what is left costs what the node does, and those behind it
  pub cost_next : (all : Forest) (k : ℕ) (node : PlainNode) → slice_get (nodes all) k ≡ Some node
      → nodes_cost plan way kept k (forest (drop k (nodes all)))
      ≡ visited_cost plan way kept k node + nodes_cost plan way kept (k + 1) (forest (drop (k + 1) (nodes all)))
  cost_next all k node there =
      ap (λ (ns : List PlainNode). nodes_cost plan way kept k (forest ns)) (left_from (nodes all) k node there)

  pub cost_none : (all : Forest) (k : ℕ) → slice_get (nodes all) k ≡ None → nodes_cost plan way kept k (forest (drop k (nodes all))) ≡ 0
  cost_none all k none = ap (λ (ns : List PlainNode). nodes_cost plan way kept k (forest ns)) (none_left (nodes all) k none)

  -- a node costs no more than all
  pub cost_there : (all : Forest) (k j : ℕ) (node : PlainNode) → slice_get (nodes all) j ≡ Some node
      → visited_cost plan way kept (k + j) node ≤ nodes_cost plan way kept k all
  cost_there Forest.nil k zero node there = absurd (none-some node there)
  cost_there Forest.nil k (suc j) node there = absurd (none-some node there)
  cost_there (Forest.cons label within others) k zero node there =
      let first : PlainNode = record { label = label; inner = within } in
      let same : first ≡ node = cc in
      let at : k ≡ k + zero = omega arith in
      let is : visited_cost plan way kept k first ≡ visited_cost plan way kept (k + zero) node =
      (λ i. visited_cost plan way kept (at i) (same i)) in
      omega (arith, is)
  cost_there (Forest.cons label within others) k (suc j) node there =
      let at : k + 1 + j ≡ k + suc j = omega arith in
      let later : visited_cost plan way kept (k + 1 + j) node ≤ nodes_cost plan way kept (k + 1) others = cost_there others (k + 1) j node there in
      let is : visited_cost plan way kept (k + 1 + j) node ≡ visited_cost plan way kept (k + suc j) node =
      ap (λ (n : ℕ). visited_cost plan way kept n node) at in
      omega (arith, later, is)

  -- where something becomes of no node, nothing becomes of one that is gone to
  pub moves_there : (all : Forest) (k j : ℕ) (node : PlainNode) → slice_get (nodes all) j ≡ Some node → is_visited plan way (k + j) ≡ true
      → nodes_move plan way kept k all ≡ false → child_moves plan way kept (k + j) node ≡ false
  moves_there Forest.nil k zero node there visited none = absurd (none-some node there)
  moves_there Forest.nil k (suc j) node there visited none = absurd (none-some node there)
  moves_there (Forest.cons label within others) k zero node there visited none =
      let first : PlainNode = record { label = label; inner = within } in
      let same : first ≡ node = cc in
      let at : k ≡ k + zero = omega arith in
      let here : (is_visited plan way k && child_moves plan way kept k first) ≡ false =
      neither_first (is_visited plan way k && child_moves plan way kept k first) (nodes_move plan way kept (k + 1) others) none in
      let gone : is_visited plan way k ≡ true = ap (λ (n : ℕ). is_visited plan way n) at ∙ visited in
      (λ i. child_moves plan way kept (sym at i) (sym same i))
      ∙ both_first (is_visited plan way k) (child_moves plan way kept k first) gone here
  moves_there (Forest.cons label within others) k (suc j) node there visited none =
      let first : PlainNode = record { label = label; inner = within } in
      let at : k + suc j ≡ k + 1 + j = omega arith in
      let gone : is_visited plan way (k + 1 + j) ≡ true = ap (λ (n : ℕ). is_visited plan way n) (sym at) ∙ visited in
      ap (λ (n : ℕ). child_moves plan way kept n node) at
      ∙ moves_there others (k + 1) j node there gone
      (neither_second (is_visited plan way k && child_moves plan way kept k first) (nodes_move plan way kept (k + 1) others) none)

  -- of all nodes, the first of which has number 0
  pub cost_at : (all : Forest) (k : ℕ) (node : PlainNode) → slice_get (nodes all) k ≡ Some node → is_visited plan way k ≡ true
      → child_cost plan way kept k node ≤ nodes_cost plan way kept 0 all
  cost_at all k node there visited =
      let at : 0 + k ≡ k = omega arith in
      let is : visited_cost plan way kept (0 + k) node ≡ child_cost plan way kept k node =
      ap (λ (n : ℕ). visited_cost plan way kept n node) at ∙ cost_visited k node visited in
      omega (arith, is, cost_there all 0 k node there)

  pub moves_at : (all : Forest) (k : ℕ) (node : PlainNode) → slice_get (nodes all) k ≡ Some node → is_visited plan way k ≡ true
      → nodes_move plan way kept 0 all ≡ false → child_moves plan way kept k node ≡ false
  moves_at all k node there visited none =
      let at : k ≡ 0 + k = omega arith in
      ap (λ (n : ℕ). child_moves plan way kept n node) at
      ∙ moves_there all 0 k node there (sym (ap (λ (n : ℕ). is_visited plan way n) at) ∙ visited) none

  -- ---- a node that is gone to

  module _ (k : ℕ) (node : PlainNode) (number : ℕ) (child : PlainCodeNode) (is : kept_number plan.what way k ≡ Some number)
      (there : slice_get (code_nodes kept) number ≡ Some child) where
    found : kept_for plan.what way kept k ≡ Some child
    found = ap (λ (o : Option ℕ). option_and_then (λ (n : ℕ). slice_get (code_nodes kept) n) o) is ∙ there

    pub cost_found : child_cost plan way kept k node ≡ gone_cost plan (way_below plan.what way k) child node
    cost_found =
        ap (λ (o : Option PlainCodeNode). option_map_or (λ (c : PlainCodeNode). gone_cost plan (way_below plan.what way k) c node) o 0)
        found

    pub moves_found : child_moves plan way kept k node
        ≡ (is_put plan (way_below plan.what way k) || node_moves plan (way_below plan.what way k) child node)
    moves_found =
        ap
        (λ (o : Option PlainCodeNode).
        option_map_or
        (λ (c : PlainCodeNode).
        is_put plan (way_below plan.what way k) || node_moves plan (way_below plan.what way k) c node)
        o false)
        found

    -- another one comes in its place
    pub cost_put : is_put plan (way_below plan.what way k) ≡ true → child_cost plan way kept k node ≡ node_length plan.marks plan.items node
    cost_put put =
        cost_found
        ∙ ap
        (λ (b : Bool).
        if b then node_length plan.marks plan.items node else node_cost plan (way_below plan.what way k) child node)
        put

    pub moves_put : is_put plan (way_below plan.what way k) ≡ true → child_moves plan way kept k node ≡ true
    moves_put put = moves_found ∙ ap (λ (b : Bool). b || node_moves plan (way_below plan.what way k) child node) put

    -- or none does
    pub cost_mend : is_put plan (way_below plan.what way k) ≡ false
        → child_cost plan way kept k node ≡ node_cost plan (way_below plan.what way k) child node
    cost_mend put =
        cost_found
        ∙ ap
        (λ (b : Bool).
        if b then node_length plan.marks plan.items node else node_cost plan (way_below plan.what way k) child node)
        put

    pub moves_mend : is_put plan (way_below plan.what way k) ≡ false
        → child_moves plan way kept k node ≡ node_moves plan (way_below plan.what way k) child node
    moves_mend put = moves_found ∙ ap (λ (b : Bool). b || node_moves plan (way_below plan.what way k) child node) put

-- ---- an item

-- an item that comes costs its length
pub item_comes : (plan : PlainPlan) (way : Option (List ℕ)) (after : Forest) (k : ℕ) (node : PlainNode) → item_number plan.what way ≡ Some k
    → is_added plan.what ≡ true → slice_get (nodes after) k ≡ Some node
    → item_cost plan way after ≡ node_length plan.marks plan.items node
item_comes plan way after k node is came there =
    (λ i.
    option_map_or
    (λ (n : ℕ).
    if came i
    then option_map_or (λ (m : PlainNode). node_length plan.marks plan.items m) (slice_get (nodes after) n) 0
    else 0)
    (is i) 0)
    ∙ ap (λ (o : Option PlainNode). option_map_or (λ (m : PlainNode). node_length plan.marks plan.items m) o 0) there

-- where one comes or goes something becomes of the list
pub item_moves : (plan : PlainPlan) (way : Option (List ℕ)) (kept : CodeForest) (after : Forest) (k : ℕ) → item_number plan.what way ≡ Some k
    → list_moves plan way kept after ≡ true
item_moves plan way kept after k is = ap (λ (o : Option ℕ). is_some o || nodes_move plan way kept 0 after) is

-- where nothing becomes of it none does, and nothing becomes of a node in it
pub still_item : (plan : PlainPlan) (way : Option (List ℕ)) (kept : CodeForest) (after : Forest) → list_moves plan way kept after ≡ false
    → item_number plan.what way ≡ None
still_item plan way kept after none = by (item_number plan.what way) refl
  where
    by : (o : Option ℕ) → item_number plan.what way ≡ o → item_number plan.what way ≡ None
    by None e = e
    by (Some k) e = absurd (true≢false (sym (item_moves plan way kept after k e) ∙ none))

pub still_nodes : (plan : PlainPlan) (way : Option (List ℕ)) (kept : CodeForest) (after : Forest) → list_moves plan way kept after ≡ false
    → nodes_move plan way kept 0 after ≡ false
still_nodes plan way kept after none = neither_second (is_some (item_number plan.what way)) (nodes_move plan way kept 0 after) none

-- ---- own code

-- how many of the instructions of own code made anew are its pieces, and how many its jumps
pub own_parts : OwnLengthsStay → (plan : PlainPlan) (label : Label) (own : PlainOwnCode) (inner : CodeForest) (program : Forest)
    → own ≡ own_code_by plan.marks plan.items label → roomless_code inner ≡ kept_code plan.marks plan.items program
    → length own.pieces.before + length own.pieces.behind + jumps_length own (kept_lengths inner) ≡ own_length plan.marks plan.items label
own_parts stay plan label own inner program its is =
    let node : PlainNode = record { label = label; inner = program } in
    let whole = whole_length stay plan.marks plan.items node own inner its is in
    omega (arith, whole)

-- the pieces of own code cost no more than it, where it is made anew
pub pieces_cost : (plan : PlainPlan) (label : Label) (made moved : Bool) (pieces jumps : ℕ)
    → pieces + jumps ≡ own_length plan.marks plan.items label → (if made then pieces else 0) ≤ own_cost plan made moved label
pieces_cost plan label true moved pieces jumps are = omega (arith, are)
pieces_cost plan label false moved pieces jumps are = omega arith

-- and so do the pieces and what is emitted behind them: the jumps, unless its own code isn't new and nothing is to be
-- done
pub edit_costs : (plan : PlainPlan) (label : Label) (own : Option PlainOwnCode) (made moved : Bool) (steps pieces jumps : ℕ) (u v : PlainCounts)
    → pieces + jumps ≡ own_length plan.marks plan.items label → jumps ≤ 2 → IfSome own (λ new. made ≡ true) → (moved ≡ false → steps ≡ 0)
    → (is_some own ≡ false → steps ≡ 0 → EmitsAtMost 0 u v) → EmitsAtMost jumps u v
    → (n : ℕ) × ((if made then pieces else 0) + n ≤ own_cost plan made moved label) × EmitsAtMost n u v
edit_costs plan label own true moved steps pieces jumps u v are few is still unchanged counts = (jumps, omega (arith, are), counts)
edit_costs plan label own false true steps pieces jumps u v are few is still unchanged counts = (jumps, omega (arith, are, few), counts)
edit_costs plan label None false false steps pieces jumps u v are few is still unchanged counts = (0, omega arith, unchanged refl (still refl))
edit_costs plan label (Some new) false false steps pieces jumps u v are few is still unchanged counts = absurd (true≢false (sym is))

-- where its own code isn't new and something is to be done, something becomes of what is inside
pub moved_then : (own : Option PlainOwnCode) (made moved : Bool) (steps : ℕ) → IfSome own (λ new. made ≡ true)
    → (is_some own ≡ false → 0 < steps) → (moved ≡ false → steps ≡ 0) → made ≡ false → moved ≡ true
moved_then None made true steps is changed still none = refl
moved_then None made false steps is changed still none = absurd (omega (arith, changed refl, still refl))
moved_then (Some new) made moved steps is changed still none = absurd (true≢false (sym is ∙ none))

-- so that something becomes of the node
pub either_moves : (made moved : Bool) → (made ≡ false → moved ≡ true) → (made || moved) ≡ true
either_moves true moved other = refl
either_moves false moved other = other refl

-- the jumps that are made of own code are as many as it has beside the codes inside
pub jumps_are : (own last : PlainOwnCode) (inner : CodeForest) (first total : ℕ) → last ≡ own → first ≡ sum (take 1 (kept_lengths inner))
    → total ≡ sum (kept_lengths inner) → count_jumps (jumps_around last first (total - first)) ≡ jumps_length own (kept_lengths inner)
jumps_are own last inner first total same one all =
    ap (λ (o : PlainOwnCode). count_jumps (jumps_around o first (total - first))) same
    ∙ ap count_jumps (around_is own (kept_lengths inner) first total one all)
