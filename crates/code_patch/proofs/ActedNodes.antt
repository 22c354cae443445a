-- A step of a prepared edit that is made in a list of kept nodes, and alike in the lengths of their codes.
use Rattle.std.proofs.Common.{◌≡◌, ℕ, zero, suc, ◌<◌, ◌≤◌, List, [], ◌∷◌, length, map, sum, refl, ap, sym, subst, ◌∙◌, arith}
use Rattle.std.specs.Prelude.{slice_set}
use Rattle.std.specs.List.{insert, remove}
use Rattle.std.specs.Option.{option_to_list}
use Rattle.std.proofs.lemmas.List.{length-map, length-set, map-set}
use Rattle.plcs_code.specs.BlockLimit.{most_instrs}
use Rattle.plcs_code.specs.OwnCode.{PlainOwnCode, jumps_beside}
use Rattle.code_patch.specs.CodeEdit.{PreparedJumps, code_gives_way}
use Rattle.code_patch.specs.CodeForest.{CodeForest, count_around, kept_lengths, PlainCodeNode, code_nodes}
use Rattle.code_patch.specs.PreparedEdit.{AreJumps}
use Rattle.code_patch.specs.Private.PlainCodeNode.{PlainCodeNodes, code_forest, code_nodes_forest, kept_length, kept_lengths_forest, with_code_set}

-- ---- lengths

-- how many instructions nodes in order have together, by their list
pub sum_forest : (items : List PlainCodeNode) (made : CodeForest) → code_forest items ≡ made
    → sum (kept_lengths made) ≡ sum (map kept_length items)
sum_forest items made is =
    ap (λ (f : CodeForest). sum (kept_lengths f)) (sym is) ∙ ap sum (kept_lengths_forest items)

-- a length that is put among lengths is that of the node put among nodes
lengths_insert : (items : List PlainCodeNode) (k : ℕ) (new : PlainCodeNode)
    → insert (map kept_length items) k (kept_length new) ≡ map kept_length (insert items k new)
lengths_insert [] zero new = refl
lengths_insert [] (suc k) new = refl
lengths_insert (node ∷ rest) zero new = refl
lengths_insert (node ∷ rest) (suc k) new = ap (λ (ns : List ℕ). kept_length node ∷ ns) (lengths_insert rest k new)

-- and so is one that is taken out
lengths_remove : (items : List PlainCodeNode) (k : ℕ) → remove (map kept_length items) k ≡ map kept_length (remove items k)
lengths_remove [] zero = refl
lengths_remove [] (suc k) = refl
lengths_remove (node ∷ rest) zero = refl
lengths_remove (node ∷ rest) (suc k) = ap (λ (ns : List ℕ). kept_length node ∷ ns) (lengths_remove rest k)

module _ (items : List PlainCodeNode) (numbers : List ℕ) (k : ℕ) (are : numbers ≡ map kept_length items) where
  -- there are as many lengths as nodes
  pub numbers_many : length numbers ≡ length items
  numbers_many = ap length are ∙ length-map items kept_length

  -- the lengths after a step are those of the nodes then
  pub numbers_set : (new : PlainCodeNode) → slice_set numbers k (kept_length new) ≡ map kept_length (slice_set items k new)
  numbers_set new = ap (λ (ns : List ℕ). slice_set ns k (kept_length new)) are ∙ sym (map-set kept_length items k new)

  pub numbers_insert : (new : PlainCodeNode) → insert numbers k (kept_length new) ≡ map kept_length (insert items k new)
  numbers_insert new = ap (λ (ns : List ℕ). insert ns k (kept_length new)) are ∙ lengths_insert items k new

  pub numbers_remove : remove numbers k ≡ map kept_length (remove items k)
  numbers_remove = ap (λ (ns : List ℕ). remove ns k) are ∙ lengths_remove items k

  -- together they are no more than they may be
  pub set_short : (new : PlainCodeNode) (made : CodeForest) → code_forest (slice_set items k new) ≡ made
      → sum (kept_lengths made) ≤ most_instrs → sum (slice_set numbers k (kept_length new)) ≤ most_instrs
  set_short new made is short = omega (arith, sum_forest (slice_set items k new) made is, ap sum (numbers_set new), short)

  pub insert_short : (new : PlainCodeNode) (made : CodeForest) → code_forest (insert items k new) ≡ made
      → sum (kept_lengths made) ≤ most_instrs → sum (insert numbers k (kept_length new)) ≤ most_instrs
  insert_short new made is short = omega (arith, sum_forest (insert items k new) made is, ap sum (numbers_insert new), short)

-- ---- nodes

-- a node that another one replaces
pub forest_put : (k : ℕ) (items : List PlainCodeNode) (new : PlainCodeNode) → k < length items
    → code_forest (slice_set items k new) ≡ code_gives_way (λ was spare within. code_forest (new ∷ [])) k (code_forest items)
forest_put k [] new within = absurd (omega (arith, within))
forest_put zero (node ∷ rest) new within = refl
forest_put (suc k) (node ∷ rest) new within =
    ap (λ (f : CodeForest). CodeForest.cons node.own node.spare node.inner f) (forest_put k rest new (omega (arith, within)))

-- as many nodes are in order as in their list
pub forest_many : (items : List PlainCodeNode) → length (code_nodes (code_forest items)) ≡ length items
forest_many items = ap length (code_nodes_forest items)

-- a list of which a node was taken has as many places
pub taken_many : (k : ℕ) (old taken : PlainCodeNodes) (node : PlainCodeNode) → with_code_set taken k node ≡ with_code_set old k node
    → length taken.items ≡ length old.items
taken_many k old taken node rest =
    sym (length-set taken.items k node) ∙ ap (λ (l : PlainCodeNodes). length l.items) rest ∙ length-set old.items k node

-- ---- a node that is mended

module _ (own : PlainOwnCode) (inner : CodeForest) (jumps : PreparedJumps) (items : List PlainCodeNode)
    (is : code_forest items ≡ inner) (are : AreJumps own inner jumps) where
  lengths : kept_lengths inner ≡ map kept_length items
  lengths = sym (ap kept_lengths is) ∙ kept_lengths_forest items

  -- its jumps are those beside what is in its list then
  pub mended_ahead : jumps.ahead ≡ option_to_list (jumps_beside own (map kept_length items)).ahead
  mended_ahead = are.ahead ∙ ap (λ (ns : List ℕ). option_to_list (jumps_beside own ns).ahead) lengths

  pub mended_between : jumps.between ≡ option_to_list (jumps_beside own (map kept_length items)).between
  mended_between = are.between ∙ ap (λ (ns : List ℕ). option_to_list (jumps_beside own ns).between) lengths

  pub mended_back : jumps.back ≡ option_to_list (jumps_beside own (map kept_length items)).back
  mended_back = are.back ∙ ap (λ (ns : List ℕ). option_to_list (jumps_beside own ns).back) lengths

  -- and its code isn't too long
  pub mended_short : count_around own (map kept_length items) ≤ most_instrs
  mended_short = subst (λ (ns : List ℕ). count_around own ns ≤ most_instrs) lengths are.short
