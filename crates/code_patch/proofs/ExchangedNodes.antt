-- Kept nodes in order of which one gives way to another, comes or goes: how long they are then, and which the others
-- are.
use Rattle.std.specs.Prelude.{◌≡◌, refl, ℕ, zero, suc, ◌+◌, ◌-◌, ◌==◌, ◌<◌, ◌≤◌, if◌then◌else◌, List, [], ◌∷◌, length, sum, take, Some, slice_get}
use Rattle.std.proofs.Common.{Bool, ap, sym, ◌∙◌, arith, ne_eqb}
use Rattle.std.proofs.lemmas.List.Sums.{sum_by-cons}
use Rattle.plcs_code.specs.OwnCode.{PlainOwnCode}
use Rattle.code_patch.specs.CodeEdit.{code_added, code_gives_way, join_code}
use Rattle.code_patch.specs.CodeForest.{CodeForest, kept_lengths, PlainCodeNode, code_nodes}
use Rattle.code_patch.specs.Private.PlainCodeNode.{code_forest, kept_length}

-- a node by its fields
abbrev node_of : PlainOwnCode → ℕ → CodeForest → PlainCodeNode
node_of own spare inner = record { own = own; spare = spare; inner = inner }

-- one length and others, together
sum_more : (n : ℕ) (ns : List ℕ) → sum (n ∷ ns) ≡ n + sum ns
sum_more n ns = sum_by-cons (λ (m : ℕ). m) n ns

-- the first length alone
first_of : (n : ℕ) (ns : List ℕ) → sum (take 1 (n ∷ ns)) ≡ n
first_of n ns = omega (arith, sum_by-cons (λ (m : ℕ). m) n [])

-- of two numbers the other, where a number isn't the first
later : (k one other : ℕ) → other ≡ (if suc k == 0 then one else other)
later k one other = sym (ap (λ (b : Bool). if b then one else other) (ne_eqb (suc k) 0 (λ none. omega (arith, none))))

-- ---- one gives way to another

-- a node gives way to another one
module _ (change : PlainOwnCode → ℕ → CodeForest → CodeForest) (child new : PlainCodeNode)
    (is : change child.own child.spare child.inner ≡ code_forest (new ∷ [])) where
  -- nodes that begin with it begin with the other one then
  begun : (own : PlainOwnCode) (spare : ℕ) (inner rest : CodeForest) → node_of own spare inner ≡ child
      → join_code (change own spare inner) rest ≡ CodeForest.cons new.own new.spare new.inner rest
  begun own spare inner rest same =
      ap (λ (n : PlainCodeNode). join_code (change n.own n.spare n.inner) rest) same
      ∙ ap (λ (f : CodeForest). join_code f rest) is

  pub given_here : (made : CodeForest) (k : ℕ) → slice_get (code_nodes made) k ≡ Some child
      → slice_get (code_nodes (code_gives_way change k made)) k ≡ Some new
  given_here CodeForest.nil k there = absurd (cc)
  given_here (CodeForest.cons own spare inner rest) zero there =
      let same : node_of own spare inner ≡ child = cc in
      ap (λ (f : CodeForest). slice_get (code_nodes f) 0) (begun own spare inner rest same)
  given_here (CodeForest.cons own spare inner rest) (suc k) there = given_here rest k there

  pub given_others : (made : CodeForest) (k j : ℕ) → slice_get (code_nodes made) k ≡ Some child → (j ≡ k → ⊥)
      → slice_get (code_nodes (code_gives_way change k made)) j ≡ slice_get (code_nodes made) j
  given_others CodeForest.nil k j there differs = refl
  given_others (CodeForest.cons own spare inner rest) zero zero there differs = absurd (differs refl)
  given_others (CodeForest.cons own spare inner rest) zero (suc j) there differs =
      let same : node_of own spare inner ≡ child = cc in
      ap (λ (f : CodeForest). slice_get (code_nodes f) (suc j)) (begun own spare inner rest same)
  given_others (CodeForest.cons own spare inner rest) (suc k) zero there differs = refl
  given_others (CodeForest.cons own spare inner rest) (suc k) (suc j) there differs =
      given_others rest k j there (λ same. differs (ap suc same))

  -- they are as many
  pub given_many : (made : CodeForest) (k : ℕ) → slice_get (code_nodes made) k ≡ Some child
      → length (code_nodes (code_gives_way change k made)) ≡ length (code_nodes made)
  given_many CodeForest.nil k there = refl
  given_many (CodeForest.cons own spare inner rest) zero there =
      let same : node_of own spare inner ≡ child = cc in
      ap (λ (f : CodeForest). length (code_nodes f)) (begun own spare inner rest same)
  given_many (CodeForest.cons own spare inner rest) (suc k) there = ap suc (given_many rest k there)

  -- together they are longer by the new one and shorter by the old one
  pub given_sum : (made : CodeForest) (k : ℕ) → slice_get (code_nodes made) k ≡ Some child
      → sum (kept_lengths (code_gives_way change k made)) + kept_length child ≡ sum (kept_lengths made) + kept_length new
  given_sum CodeForest.nil k there = absurd (cc)
  given_sum (CodeForest.cons own spare inner rest) zero there =
      let same : node_of own spare inner ≡ child = cc in
      let long : kept_length (node_of own spare inner) ≡ kept_length child = ap kept_length same in
      let made : sum (kept_lengths (join_code (change own spare inner) rest)) ≡ sum (kept_length new ∷ kept_lengths rest) =
      ap (λ (f : CodeForest). sum (kept_lengths f)) (begun own spare inner rest same) in
      omega
      (arith, long, made, sum_more (kept_length new) (kept_lengths rest), sum_more (kept_length (node_of own spare inner)) (kept_lengths rest))
  given_sum (CodeForest.cons own spare inner rest) (suc k) there =
      let n = kept_length (node_of own spare inner) in
      omega
      (arith, given_sum rest k there, sum_more n (kept_lengths rest), sum_more n (kept_lengths (code_gives_way change k rest)))

  -- the first one is another one, if it gave way
  pub given_first : (made : CodeForest) (k : ℕ) → slice_get (code_nodes made) k ≡ Some child
      → sum (take 1 (kept_lengths (code_gives_way change k made)))
      ≡ (if k == 0 then kept_length new else sum (take 1 (kept_lengths made)))
  given_first CodeForest.nil k there = absurd (cc)
  given_first (CodeForest.cons own spare inner rest) zero there =
      let same : node_of own spare inner ≡ child = cc in
      ap (λ (f : CodeForest). sum (take 1 (kept_lengths f))) (begun own spare inner rest same)
      ∙ first_of (kept_length new) (kept_lengths rest)
  given_first (CodeForest.cons own spare inner rest) (suc k) there =
      later k (kept_length new) (sum (take 1 (kept_lengths (CodeForest.cons own spare inner rest))))

-- a node is no longer than all together
pub within_sum : (made : CodeForest) (k : ℕ) (child : PlainCodeNode) → slice_get (code_nodes made) k ≡ Some child
    → kept_length child ≤ sum (kept_lengths made)
within_sum CodeForest.nil k child there = absurd (cc)
within_sum (CodeForest.cons own spare inner rest) zero child there =
    let same : node_of own spare inner ≡ child = cc in
    let long : kept_length (node_of own spare inner) ≡ kept_length child = ap kept_length same in
    omega (arith, long, sum_more (kept_length (node_of own spare inner)) (kept_lengths rest))
within_sum (CodeForest.cons own spare inner rest) (suc k) child there =
    omega (arith, within_sum rest k child there, sum_more (kept_length (node_of own spare inner)) (kept_lengths rest))

-- two lengths are no less than the first of them
pub take_grows : (ns : List ℕ) → sum (take 1 ns) ≤ sum (take 2 ns)
take_grows [] = omega arith
take_grows (n ∷ ns) = omega (arith, first_of n ns, sum_more n (take 1 ns))

-- ---- one comes

module _ (new : PlainCodeNode) where
  -- together they are longer by it
  pub added_sum : (made : CodeForest) (k : ℕ)
      → sum (kept_lengths (code_added (code_forest (new ∷ [])) k made)) ≡ sum (kept_lengths made) + kept_length new
  added_sum made zero = omega (arith, sum_more (kept_length new) (kept_lengths made))
  added_sum CodeForest.nil (suc k) = omega (arith, sum_more (kept_length new) [])
  added_sum (CodeForest.cons own spare inner rest) (suc k) =
      let n = kept_length (node_of own spare inner) in
      omega
      (arith, added_sum rest k, sum_more n (kept_lengths rest), sum_more n (kept_lengths (code_added (code_forest (new ∷ [])) k rest)))

  -- it is the first one, if it came there
  pub added_first : (made : CodeForest) (k : ℕ) → k ≤ length (code_nodes made)
      → sum (take 1 (kept_lengths (code_added (code_forest (new ∷ [])) k made)))
      ≡ (if k == 0 then kept_length new else sum (take 1 (kept_lengths made)))
  added_first made zero there = first_of (kept_length new) (kept_lengths made)
  added_first CodeForest.nil (suc k) there = absurd (omega (arith, there))
  added_first (CodeForest.cons own spare inner rest) (suc k) there =
      later k (kept_length new) (sum (take 1 (kept_lengths (CodeForest.cons own spare inner rest))))

-- ---- one goes

-- together they are shorter by it
pub dropped_sum : (made : CodeForest) (k : ℕ) (child : PlainCodeNode) → slice_get (code_nodes made) k ≡ Some child
    → sum (kept_lengths (code_gives_way (λ was spare within. CodeForest.nil) k made)) + kept_length child
    ≡ sum (kept_lengths made)
dropped_sum CodeForest.nil k child there = absurd (cc)
dropped_sum (CodeForest.cons own spare inner rest) zero child there =
    let same : node_of own spare inner ≡ child = cc in
    let long : kept_length (node_of own spare inner) ≡ kept_length child = ap kept_length same in
    omega (arith, long, sum_more (kept_length (node_of own spare inner)) (kept_lengths rest))
dropped_sum (CodeForest.cons own spare inner rest) (suc k) child there =
    let n = kept_length (node_of own spare inner) in
    omega
    (arith, dropped_sum rest k child there, sum_more n (kept_lengths rest), sum_more n (kept_lengths (code_gives_way (λ was spare within. CodeForest.nil) k rest)))

-- the second one is the first one then, if that went
pub dropped_first : (made : CodeForest) (k : ℕ) → k < length (code_nodes made)
    → sum (take 1 (kept_lengths (code_gives_way (λ was spare within. CodeForest.nil) k made)))
    ≡ (if k == 0 then sum (take 2 (kept_lengths made)) - sum (take 1 (kept_lengths made))
    else sum (take 1 (kept_lengths made)))
dropped_first CodeForest.nil k there = absurd (omega (arith, there))
dropped_first (CodeForest.cons own spare inner rest) zero there =
    let n = kept_length (node_of own spare inner) in
    omega (arith, first_of n (kept_lengths rest), sum_more n (take 1 (kept_lengths rest)))
dropped_first (CodeForest.cons own spare inner rest) (suc k) there =
    let ns = kept_lengths (CodeForest.cons own spare inner rest) in
    later k (sum (take 2 ns) - sum (take 1 ns)) (sum (take 1 ns))
