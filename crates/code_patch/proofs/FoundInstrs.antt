-- The instruction of a number in joined codes.
use Rattle.std.specs.Prelude.{◌≡◌, refl, ℕ, zero, suc, ◌+◌, ◌-◌, ◌<◌, ◌≤◌, List, [], ◌∷◌, ◌++◌, length, map, sum, take, Some, slice_get, slice_index}
use Rattle.std.specs.Option.{option_to_list}
use Rattle.std.proofs.Common.{ap, sym, ◌∙◌, arith, append_assoc}
use Rattle.std.proofs.lemmas.List.{length-append}
use Rattle.std.proofs.lemmas.List.Sums.{sum_by-cons}
use Rattle.plcs_code.specs.Gen.{code_with, codes_around, codes_joined}
use Rattle.plcs_code.specs.OwnCode.{PlainOwnCode, jumps_beside}
use Rattle.plcs_code.specs.PlainInstr.{PlainInstr}
use Rattle.code_patch.specs.CodeForest.{CodeForest, count_around, kept_codes, kept_lengths, PlainCodeNode, code_nodes}
use Rattle.code_patch.specs.Private.PlainCodeNode.{kept_length, kept_node_code}
use Rattle.code_patch.specs.Private.Weight.{code_forest_weight, weight}

-- what stands in the first of two lists
pub get_left : {X : Type 0} (xs ys : List X) (i : ℕ) → i < length xs → slice_get (xs ++ ys) i ≡ slice_get xs i
get_left [] ys i within = absurd (omega (arith, within))
get_left (x ∷ xs) ys zero within = refl
get_left (x ∷ xs) ys (suc i) within = get_left xs ys i (omega (arith, within))

-- what stands in the second
pub get_right : {X : Type 0} (xs ys : List X) (i : ℕ) → length xs ≤ i → slice_get (xs ++ ys) i ≡ slice_get ys (i - length xs)
get_right [] ys i past = ap (slice_get ys) (omega arith)
get_right (x ∷ xs) ys zero past = absurd (omega (arith, past))
get_right (x ∷ xs) ys (suc i) past = get_right xs ys i (omega (arith, past)) ∙ ap (slice_get ys) (omega arith)

-- ---- lengths

-- codes one behind the other are as long as all of them
pub joined_length : (codes : List (List PlainInstr)) → length (codes_joined codes) ≡ sum (map length codes)
joined_length [] = refl
joined_length (code ∷ codes) =
    omega (arith, length-append code (codes_joined codes), joined_length codes, sum_by-cons (λ (n : ℕ). n) (length code) (map length codes))

-- codes with something between them are as long as all of them and that
pub around_length : (between : List PlainInstr) (codes : List (List PlainInstr)) → length (codes_around between codes) ≡ length between + sum (map length codes)
around_length between [] = omega arith
around_length between (code ∷ codes) =
    omega
    (arith, length-append code (between ++ codes_joined codes), length-append between (codes_joined codes), joined_length codes, sum_by-cons (λ (n : ℕ). n) (length code) (map length codes))

-- the code of a node is as long as its own code and the codes inside it
code_length : (own : PlainOwnCode) (lengths : List ℕ) (codes : List (List PlainInstr)) → map length codes ≡ lengths
    → length (code_with own.pieces (jumps_beside own lengths) codes) ≡ count_around own lengths
code_length own lengths codes same =
    let around = jumps_beside own lengths in
    let ahead = option_to_list around.ahead in
    let between = option_to_list around.between in
    let back = option_to_list around.back in
    let inside = codes_around between codes in
    let total : sum (map length codes) ≡ sum lengths = ap sum same in
    omega
    (arith, length-append own.pieces.before (ahead ++ (inside ++ (own.pieces.behind ++ back))), length-append ahead (inside ++ (own.pieces.behind ++ back)), length-append inside (own.pieces.behind ++ back), length-append own.pieces.behind back, around_length between codes, total)

-- the codes of kept nodes are as long as is kept
pub codes_length : (nodes : CodeForest) → map length (kept_codes nodes) ≡ kept_lengths nodes
codes_length CodeForest.nil = refl
codes_length (CodeForest.cons own spare inner rest) =
    λ i. code_length own (kept_lengths inner) (kept_codes inner) (codes_length inner) i ∷ codes_length rest i

-- all of them together
pub all_length : (nodes : CodeForest) → length (codes_joined (kept_codes nodes)) ≡ sum (kept_lengths nodes)
all_length nodes = joined_length (kept_codes nodes) ∙ ap sum (codes_length nodes)

-- the code of a kept node is as long as is kept
pub node_code_length : (node : PlainCodeNode) → length (kept_node_code node) ≡ kept_length node
node_code_length node = code_length node.own (kept_lengths node.inner) (kept_codes node.inner) (codes_length node.inner)

-- ---- instructions

-- the instructions of one of the kept nodes among those of all
pub found_code : (nodes : CodeForest) (rest : List PlainInstr) (i r : ℕ) (node : PlainCodeNode) → slice_get (code_nodes nodes) i ≡ Some node
    → r < kept_length node
    → slice_get (codes_joined (kept_codes nodes) ++ rest) (sum (take i (kept_lengths nodes)) + r) ≡ slice_get (kept_node_code node) r
found_code CodeForest.nil rest i r node there within = absurd (cc)
found_code (CodeForest.cons own spare inner others) rest zero r node there within =
    let first : PlainCodeNode = record { own = own; spare = spare; inner = inner } in
    let same : first ≡ node = cc in
    let long = node_code_length first in
    let is : kept_length first ≡ kept_length node = ap kept_length same in
    let at : sum (take zero (kept_lengths (CodeForest.cons own spare inner others))) + r ≡ r = omega arith in
    ap (slice_get (codes_joined (kept_codes (CodeForest.cons own spare inner others)) ++ rest)) at
    ∙ ap (λ xs. slice_get xs r) (append_assoc (kept_node_code first) (codes_joined (kept_codes others)) rest)
    ∙ get_left (kept_node_code first) (codes_joined (kept_codes others) ++ rest) r (omega (arith, long, is, within))
    ∙ ap (λ (n : PlainCodeNode). slice_get (kept_node_code n) r) same
found_code (CodeForest.cons own spare inner others) rest (suc i) r node there within =
    let first : PlainCodeNode = record { own = own; spare = spare; inner = inner } in
    let ns = kept_lengths others in
    let long = node_code_length first in
    let total : sum (take (suc i) (kept_length first ∷ ns)) ≡ kept_length first + sum (take i ns) = sum_by-cons (λ (n : ℕ). n) (kept_length first) (take i ns) in
    let at : sum (take (suc i) (kept_length first ∷ ns)) + r - length (kept_node_code first) ≡ sum (take i ns) + r = omega (arith, total, long) in
    ap (λ xs. slice_get xs (sum (take (suc i) (kept_length first ∷ ns)) + r)) (append_assoc (kept_node_code first) (codes_joined (kept_codes others)) rest)
    ∙ get_right (kept_node_code first) (codes_joined (kept_codes others) ++ rest) (sum (take (suc i) (kept_length first ∷ ns)) + r) (omega (arith, total, long))
    ∙ ap (slice_get (codes_joined (kept_codes others) ++ rest)) at
    ∙ found_code others rest i r node there within

-- a node of which a length is kept is there
pub code_there : (nodes : CodeForest) (i r : ℕ) (node : PlainCodeNode) → slice_get (code_nodes nodes) i ≡ Some node
    → r < slice_index (kept_lengths nodes) i → r < kept_length node
code_there CodeForest.nil i r node there within = absurd (cc)
code_there (CodeForest.cons own spare inner others) zero r node there within =
    let first : PlainCodeNode = record { own = own; spare = spare; inner = inner } in
    let same : first ≡ node = cc in
    let is : kept_length first ≡ kept_length node = ap kept_length same in
    omega (arith, is, within)
code_there (CodeForest.cons own spare inner others) (suc i) r node there within = code_there others i r node there within

-- ---- with something behind the first code

-- an instruction of the first code
pub before_gap : (nodes : CodeForest) (gap behind : List PlainInstr) (at : ℕ) → at < sum (take 1 (kept_lengths nodes))
    → slice_get (codes_joined (kept_codes nodes) ++ behind) at ≡ slice_get (codes_around gap (kept_codes nodes) ++ behind) at
before_gap CodeForest.nil gap behind at within = absurd (omega (arith, within))
before_gap (CodeForest.cons own spare inner rest) gap behind at within =
    let first : PlainCodeNode = record { own = own; spare = spare; inner = inner } in
    let code = kept_node_code first in
    let others = codes_joined (kept_codes rest) in
    let one : at < length code = omega (arith, within, node_code_length first, sum_by-cons (λ (n : ℕ). n) (kept_length first) []) in
    ap (λ xs. slice_get xs at) (append_assoc code others behind) ∙ get_left code (others ++ behind) at one
    ∙ sym (ap (λ xs. slice_get xs at) (append_assoc code (gap ++ others) behind) ∙ get_left code ((gap ++ others) ++ behind) at one)

-- an instruction behind it
pub in_gap : (nodes : CodeForest) (gap behind : List PlainInstr) (at : ℕ) → sum (take 1 (kept_lengths nodes)) ≤ at
    → at - sum (take 1 (kept_lengths nodes)) < length gap
    → slice_get gap (at - sum (take 1 (kept_lengths nodes))) ≡ slice_get (codes_around gap (kept_codes nodes) ++ behind) at
in_gap CodeForest.nil gap behind at past within =
    let none : at - sum (take 1 (kept_lengths CodeForest.nil)) ≡ at = omega arith in
    ap (slice_get gap) none ∙ sym (get_left gap behind at (omega (arith, within)))
in_gap (CodeForest.cons own spare inner rest) gap behind at past within =
    let first : PlainCodeNode = record { own = own; spare = spare; inner = inner } in
    let code = kept_node_code first in
    let others = codes_joined (kept_codes rest) in
    let n = sum (take 1 (kept_lengths (CodeForest.cons own spare inner rest))) in
    let one : n ≡ length code = omega (arith, node_code_length first, sum_by-cons (λ (n : ℕ). n) (kept_length first) []) in
    sym
    (ap (λ xs. slice_get xs at) (append_assoc code (gap ++ others) behind) ∙ get_right code ((gap ++ others) ++ behind) at (omega (arith, past, one))
    ∙ ap (slice_get ((gap ++ others) ++ behind)) (omega (arith, one)) ∙ ap (λ xs. slice_get xs (at - n)) (append_assoc gap others behind)
    ∙ get_left gap (others ++ behind) (at - n) within)

-- an instruction behind that
pub behind_gap : (nodes : CodeForest) (gap behind : List PlainInstr) (at : ℕ) → sum (take 1 (kept_lengths nodes)) ≤ at
    → length gap ≤ at - sum (take 1 (kept_lengths nodes))
    → slice_get (codes_joined (kept_codes nodes) ++ behind) (at - length gap) ≡ slice_get (codes_around gap (kept_codes nodes) ++ behind) at
behind_gap CodeForest.nil gap behind at past far = sym (get_right gap behind at (omega (arith, far)))
behind_gap (CodeForest.cons own spare inner rest) gap behind at past far =
    let first : PlainCodeNode = record { own = own; spare = spare; inner = inner } in
    let code = kept_node_code first in
    let others = codes_joined (kept_codes rest) in
    let n = sum (take 1 (kept_lengths (CodeForest.cons own spare inner rest))) in
    let one : n ≡ length code = omega (arith, node_code_length first, sum_by-cons (λ (n : ℕ). n) (kept_length first) []) in
    ap (λ xs. slice_get xs (at - length gap)) (append_assoc code others behind)
    ∙ get_right code (others ++ behind) (at - length gap) (omega (arith, past, far, one))
    ∙ sym
    (ap (λ xs. slice_get xs at) (append_assoc code (gap ++ others) behind) ∙ get_right code ((gap ++ others) ++ behind) at (omega (arith, past, one))
    ∙ ap (λ xs. slice_get xs (at - length code)) (append_assoc gap others behind)
    ∙ get_right gap (others ++ behind) (at - length code) (omega (arith, far, one))
    ∙ ap (slice_get (others ++ behind)) (omega arith))

-- a node inside another is smaller
pub child_weight : (nodes : CodeForest) (k : ℕ) (child : PlainCodeNode) → slice_get (code_nodes nodes) k ≡ Some child
    → weight child ≤ code_forest_weight nodes
child_weight CodeForest.nil k child there = absurd (cc)
child_weight (CodeForest.cons own spare inner rest) zero child there =
    let first : PlainCodeNode = record { own = own; spare = spare; inner = inner } in
    let same : first ≡ child = cc in
    let is : weight first ≡ weight child = ap weight same in
    omega (arith, is)
child_weight (CodeForest.cons own spare inner rest) (suc k) child there = omega (arith, child_weight rest k child there)
