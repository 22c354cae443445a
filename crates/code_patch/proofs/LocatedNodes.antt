-- Where the nodes of a list are located, one after the other.
use Rattle.std.specs.Prelude.{◌≡◌, ℕ, zero, suc, ◌+◌, ◌==◌, ◌≤◌, Bool, true, false, if◌then◌else◌, [], length, sum, take, drop, Option, Some, None, slice_get}
use Rattle.std.specs.Option.{option_or, option_to_list}
use Rattle.std.proofs.Common.{add-one, ap, sym, ◌∙◌, arith, eq-eqb, ne_eqb}
use Rattle.std.proofs.lemmas.List.Sums.{sum_by-cons, sum_by-take-le}
use Rattle.plcs_base.specs.ListLeft.{left_from, none_left}
use Rattle.plcs_code.specs.OwnCode.{jumps_beside}
use Rattle.code_patch.specs.CodeForest.{CodeForest, kept_lengths, PlainCodeNode, code_nodes}
use Rattle.code_patch.specs.Private.LocatedNode.{PlainLocated, child_start, located_among, located_inside}
use Rattle.code_patch.specs.Private.PlainCodeNode.{code_forest, code_forest_nodes, kept_length}

-- the gap behind the first of the nodes that are left
abbrev pub gap_at : (gap k : ℕ) → ℕ
gap_at gap k = if k == 0 then gap else 0

-- a gap is there behind the first node alone
later_gap : (k gap : ℕ) → (k ≡ 0 → ⊥) → (if k == 0 then 0 else gap) ≡ gap
later_gap k gap later = ap (λ (b : Bool). if b then 0 else gap) (ne_eqb k 0 later)

later_none : (k gap : ℕ) → (k ≡ 0 → ⊥) → gap_at gap k ≡ 0
later_none k gap later = ap (λ (b : Bool). if b then gap else 0) (ne_eqb k 0 later)

gap_le : (k gap : ℕ) → (if k == 0 then 0 else gap) ≤ gap
gap_le k gap = chosen (k == 0)
  where
    chosen : (b : Bool) → (if b then 0 else gap) ≤ gap
    chosen true = omega arith
    chosen false = omega arith

-- the length of a code more
sum_more : (nodes : CodeForest) (k : ℕ) (node : PlainCodeNode) → slice_get (code_nodes nodes) k ≡ Some node
    → sum (take (suc k) (kept_lengths nodes)) ≡ sum (take k (kept_lengths nodes)) + kept_length node
sum_more CodeForest.nil k node there = absurd (cc)
sum_more (CodeForest.cons own spare inner rest) zero node there =
    let first : PlainCodeNode = record { own = own; spare = spare; inner = inner } in
    let same : first ≡ node = cc in
    let is : kept_length first ≡ kept_length node = ap kept_length same in
    omega (arith, is, sum_by-cons (λ (n : ℕ). n) (kept_length first) [])
sum_more (CodeForest.cons own spare inner rest) (suc k) node there =
    let first : PlainCodeNode = record { own = own; spare = spare; inner = inner } in
    let ns = kept_lengths rest in
    omega
    (arith, sum_by-cons (λ (n : ℕ). n) (kept_length first) (take (suc k) ns), sum_by-cons (λ (n : ℕ). n) (kept_length first) (take k ns), sum_more rest k node there)

-- the nodes that are left from a number on are located behind those before them
pub located_left : (slot start gap : ℕ) (nodes : CodeForest) (k : ℕ) (node : PlainCodeNode) → slice_get (code_nodes nodes) k ≡ Some node
    → located_among slot (start + sum (take k (kept_lengths nodes)) + (if k == 0 then 0 else gap)) (gap_at gap k) (code_forest (drop k (code_nodes nodes)))
    ≡ (if node.own.slot == slot
    then Some record { start = start + sum (take k (kept_lengths nodes)) + (if k == 0 then 0 else gap); node = node }
    else
    option_or (located_inside slot (start + sum (take k (kept_lengths nodes)) + (if k == 0 then 0 else gap)) node)
    (located_among slot (start + sum (take (k + 1) (kept_lengths nodes)) + gap) 0 (code_forest (drop (k + 1) (code_nodes nodes)))))
located_left slot start gap nodes k node there =
    let at = start + sum (take k (kept_lengths nodes)) + (if k == 0 then 0 else gap) in
    let next : at + kept_length node + gap_at gap k ≡ start + sum (take (k + 1) (kept_lengths nodes)) + gap = further k there in
    ap (λ items. located_among slot at (gap_at gap k) (code_forest items)) (left_from (code_nodes nodes) k node there)
    ∙ ap
    (λ (n : ℕ).
    if node.own.slot == slot then Some record { start = at; node = node }
    else option_or (located_inside slot at node) (located_among slot n 0 (code_forest (drop (k + 1) (code_nodes nodes)))))
    next
  where
    further : (k : ℕ) → slice_get (code_nodes nodes) k ≡ Some node
        → start + sum (take k (kept_lengths nodes)) + (if k == 0 then 0 else gap) + kept_length node + gap_at gap k
        ≡ start + sum (take (k + 1) (kept_lengths nodes)) + gap
    further zero there = omega (arith, sum_more nodes zero node there)
    further (suc k) there =
        let one_more : sum (take (suc k + 1) (kept_lengths nodes)) ≡ sum (take (suc (suc k)) (kept_lengths nodes)) =
        ap (λ (n : ℕ). sum (take n (kept_lengths nodes))) (add-one (suc k)) in
        omega
        (arith, one_more, sum_more nodes (suc k) node there, later_gap (suc k) gap (λ none. omega (arith, none)), later_none (suc k) gap (λ none. omega (arith, none)))

-- ---- one after the other, inside a node

module _ (slot start : ℕ) (self : PlainCodeNode) where
  -- the nodes that are left from a number on are located as all are
  abbrev pub Left : (k : ℕ) → Type 0
  Left k =
      located_among slot (child_start start self k) (gap_at (length (option_to_list (jumps_beside self.own (kept_lengths self.inner)).between)) k)
      (code_forest (drop k (code_nodes self.inner)))
      ≡ located_inside slot start self

  pub left_first : Left 0
  left_first =
      let at : child_start start self 0 ≡ start + length self.own.pieces.before + length (option_to_list (jumps_beside self.own (kept_lengths self.inner)).ahead) = omega arith in
      (λ i. located_among slot (at i) (length (option_to_list (jumps_beside self.own (kept_lengths self.inner)).between)) (code_forest_nodes self.inner i))

  pub left_none : (k : ℕ) → slice_get (code_nodes self.inner) k ≡ None → Left k → None ≡ located_inside slot start self
  left_none k past left =
      sym (ap (λ items. located_among slot (child_start start self k) (gap_at (length (option_to_list (jumps_beside self.own (kept_lengths self.inner)).between)) k) (code_forest items)) (none_left (code_nodes self.inner) k past)) ∙ left

  module _ (k : ℕ) (node : PlainCodeNode) (there : slice_get (code_nodes self.inner) k ≡ Some node) (left : Left k) where
    step : (if node.own.slot == slot
        then Some record { start = child_start start self k; node = node }
        else
        option_or (located_inside slot (child_start start self k) node)
        (located_among slot
        (start + length self.own.pieces.before + length (option_to_list (jumps_beside self.own (kept_lengths self.inner)).ahead)
        + sum (take (k + 1) (kept_lengths self.inner)) + length (option_to_list (jumps_beside self.own (kept_lengths self.inner)).between))
        0 (code_forest (drop (k + 1) (code_nodes self.inner)))))
        ≡ located_inside slot start self
    step =
        sym (located_left slot (start + length self.own.pieces.before + length (option_to_list (jumps_beside self.own (kept_lengths self.inner)).ahead)) (length (option_to_list (jumps_beside self.own (kept_lengths self.inner)).between)) self.inner k node there)
        ∙ left

    pub left_here : node.own.slot ≡ slot → Some record { start = child_start start self k; node = node } ≡ located_inside slot start self
    left_here same =
        sym (ap
        (λ (b : Bool).
        if b
        then Some record { start = child_start start self k; node = node }
        else
        option_or (located_inside slot (child_start start self k) node)
        (located_among slot
        (start + length self.own.pieces.before + length (option_to_list (jumps_beside self.own (kept_lengths self.inner)).ahead)
        + sum (take (k + 1) (kept_lengths self.inner)) + length (option_to_list (jumps_beside self.own (kept_lengths self.inner)).between))
        0 (code_forest (drop (k + 1) (code_nodes self.inner)))))
        (eq-eqb node.own.slot slot same)) ∙ step

    other : (node.own.slot ≡ slot → ⊥)
        → option_or (located_inside slot (child_start start self k) node)
        (located_among slot
        (start + length self.own.pieces.before + length (option_to_list (jumps_beside self.own (kept_lengths self.inner)).ahead)
        + sum (take (k + 1) (kept_lengths self.inner)) + length (option_to_list (jumps_beside self.own (kept_lengths self.inner)).between))
        0 (code_forest (drop (k + 1) (code_nodes self.inner))))
        ≡ located_inside slot start self
    other differs =
        sym (ap
        (λ (b : Bool).
        if b
        then Some record { start = child_start start self k; node = node }
        else
        option_or (located_inside slot (child_start start self k) node)
        (located_among slot
        (start + length self.own.pieces.before + length (option_to_list (jumps_beside self.own (kept_lengths self.inner)).ahead)
        + sum (take (k + 1) (kept_lengths self.inner)) + length (option_to_list (jumps_beside self.own (kept_lengths self.inner)).between))
        0 (code_forest (drop (k + 1) (code_nodes self.inner)))))
        (ne_eqb node.own.slot slot differs)) ∙ step

    pub left_within : (found : PlainLocated) → (node.own.slot ≡ slot → ⊥) → Some found ≡ located_inside slot (child_start start self k) node
        → Some found ≡ located_inside slot start self
    left_within found differs inside =
        ap
        (λ (o : Option PlainLocated).
        option_or o
        (located_among slot
        (start + length self.own.pieces.before + length (option_to_list (jumps_beside self.own (kept_lengths self.inner)).ahead)
        + sum (take (k + 1) (kept_lengths self.inner)) + length (option_to_list (jumps_beside self.own (kept_lengths self.inner)).between))
        0 (code_forest (drop (k + 1) (code_nodes self.inner)))))
        inside
        ∙ other differs

    pub left_next : (node.own.slot ≡ slot → ⊥) → None ≡ located_inside slot (child_start start self k) node → Left (k + 1)
    left_next differs inside =
        let between = length (option_to_list (jumps_beside self.own (kept_lengths self.inner)).between) in
        let at : start + length self.own.pieces.before + length (option_to_list (jumps_beside self.own (kept_lengths self.inner)).ahead)
        + sum (take (k + 1) (kept_lengths self.inner)) + between
        ≡ child_start start self (k + 1) =
        omega (arith, later_gap (k + 1) between (λ none. omega (arith, none))) in
        let none = later_none (k + 1) between (λ none. omega (arith, none)) in
        sym (λ i. located_among slot (at i) (sym none i) (code_forest (drop (k + 1) (code_nodes self.inner))))
        ∙ ap
        (λ (o : Option PlainLocated).
        option_or o
        (located_among slot
        (start + length self.own.pieces.before + length (option_to_list (jumps_beside self.own (kept_lengths self.inner)).ahead)
        + sum (take (k + 1) (kept_lengths self.inner)) + length (option_to_list (jumps_beside self.own (kept_lengths self.inner)).between))
        0 (code_forest (drop (k + 1) (code_nodes self.inner)))))
        inside
        ∙ other differs

  -- a node inside ends within the node
  pub child_fits : (k : ℕ) (node : PlainCodeNode) → slice_get (code_nodes self.inner) k ≡ Some node
      → child_start start self k + kept_length node ≤ start + kept_length self
  child_fits k node there =
      omega
      (arith, gap_le k (length (option_to_list (jumps_beside self.own (kept_lengths self.inner)).between)), sum_more self.inner k node there, sum_by-take-le (λ (n : ℕ). n) (kept_lengths self.inner) (suc k))
