-- A kept node that is found in a slot where it is said to stand is the one that is located in the slot, since a slot
-- stands but once: what stands before the node, and what is inside that, has other slots.
use Rattle.std.specs.Prelude.{◌≡◌, refl, ℕ, zero, suc, ◌+◌, ◌==◌, ◌≤◌, Bool, true, false, if◌then◌else◌, length, sum, take, Option, Some, slice_get}
use Rattle.std.specs.Option.{option_or, option_to_list}
use Rattle.std.proofs.Common.{ap, sym, ◌∙◌, arith, eq-eqb, ne_eqb}
use Rattle.std.proofs.lemmas.List.Sums.{sum_by-cons}
use Rattle.std.proofs.lemmas.Option.{none-some, same_Some}
use Rattle.plcs_code.specs.OwnCode.{PlainOwnCode, jumps_beside}
use Rattle.code_patch.specs.SoundCode.{times_kept}
use Rattle.code_patch.specs.CodeForest.{CodeForest, count_around, kept_lengths, PlainCodeNode, code_nodes}
use Rattle.code_patch.specs.Private.LocatedNode.{PlainLocated, child_start, located_among, located_inside}
use Rattle.code_patch.proofs.LocatedEntries.{located_else, located_here, none_located, one_if, or_none}

-- a slot that is located stands somewhere
stands : (slot start gap : ℕ) (nodes : CodeForest) (found : PlainLocated) → Some found ≡ located_among slot start gap nodes
    → 1 ≤ times_kept slot nodes
stands slot start gap nodes found is = by (times_kept slot nodes) refl
  where
    by : (n : ℕ) → times_kept slot nodes ≡ n → 1 ≤ times_kept slot nodes
    by zero none = absurd (none-some found (sym (none_located slot start gap nodes (omega (arith, none))) ∙ sym is))
    by (suc n) some = omega (arith, some)

-- the gap before the node of a number: none before the first
abbrev gap_if : (is_first : Bool) → (gap : ℕ) → ℕ
gap_if is_first gap = if is_first then 0 else gap

-- where the node of a number begins among nodes of which the first begins at an address, with a gap behind it
abbrev start_at : (start gap : ℕ) → CodeForest → (k : ℕ) → ℕ
start_at start gap nodes k = start + sum (take k (kept_lengths nodes)) + gap_if (k == 0) gap

-- a gap is behind the first node
gap_behind : (k gap : ℕ) → gap_if (suc k == 0) gap ≡ gap
gap_behind k gap = ap (λ (b : Bool). gap_if b gap) (ne_eqb (suc k) 0 (λ none. omega (arith, none)))

no_gap : (is_first : Bool) → gap_if is_first 0 ≡ 0
no_gap true = refl
no_gap false = refl

start_next : (start gap : ℕ) (own : PlainOwnCode) (spare : ℕ) (inner rest : CodeForest) (k : ℕ)
    → start_at (start + count_around own (kept_lengths inner) + gap) 0 rest k ≡ start_at start gap (CodeForest.cons own spare inner rest) (suc k)
start_next start gap own spare inner rest k =
    omega
    (arith, no_gap (k == 0), gap_behind k gap, sum_by-cons (λ (n : ℕ). n) (count_around own (kept_lengths inner)) (take k (kept_lengths rest)))

module _ (slot : ℕ) where
  -- how often the slot stands at a node and inside it
  abbrev own_times : PlainCodeNode → ℕ
  own_times node = one_if (node.own.slot == slot) + times_kept slot node.inner

  -- it stands no more often there than in the list
  number_times : (nodes : CodeForest) (k : ℕ) (node : PlainCodeNode) → slice_get (code_nodes nodes) k ≡ Some node
      → own_times node ≤ times_kept slot nodes
  number_times CodeForest.nil k node there = absurd (none-some node there)
  number_times (CodeForest.cons own spare inner rest) zero node there =
      let first : PlainCodeNode = record { own = own; spare = spare; inner = inner } in
      let same : own_times first ≡ own_times node = ap own_times (same_Some first node there) in
      omega (arith, same)
  number_times (CodeForest.cons own spare inner rest) (suc k) node there = omega (arith, number_times rest k node there)

  -- what is located at a node or inside it
  abbrev located_at : (start : ℕ) → PlainCodeNode → Option PlainLocated
  located_at start node =
      if node.own.slot == slot then Some record { start = start; node = node } else located_inside slot start node

  -- where the slot stands at the node of a number or inside it, and stands but once, it is located there
  at_number : (start gap : ℕ) (nodes : CodeForest) (k : ℕ) (node : PlainCodeNode) → slice_get (code_nodes nodes) k ≡ Some node
      → times_kept slot nodes ≤ 1 → 1 ≤ own_times node
      → located_among slot start gap nodes ≡ located_at (start_at start gap nodes k) node
  at_number start gap CodeForest.nil k node there once some = absurd (none-some node there)
  at_number start gap (CodeForest.cons own spare inner rest) zero node there once some =
      let first : PlainCodeNode = record { own = own; spare = spare; inner = inner } in
      let same : first ≡ node = same_Some first node there in
      let times : own_times first ≡ own_times node = ap own_times same in
      let at : start ≡ start_at start gap (CodeForest.cons own spare inner rest) 0 = omega arith in
      by (own.slot == slot) refl (omega (arith, times, some)) ∙ (λ i. located_at (at i) (same i))
    where
      by : (b : Bool) → (own.slot == slot) ≡ b → 1 ≤ one_if (own.slot == slot) + times_kept slot inner
          → located_among slot start gap (CodeForest.cons own spare inner rest)
          ≡ located_at start record { own = own; spare = spare; inner = inner }
      by true it some = located_here slot start gap own spare inner rest it ∙ sym (chosen true it)
        where
          chosen : (b : Bool) → (own.slot == slot) ≡ b
              → located_at start record { own = own; spare = spare; inner = inner }
              ≡ (if b then Some record { start = start; node = record { own = own; spare = spare; inner = inner } }
              else located_inside slot start record { own = own; spare = spare; inner = inner })
          chosen b is =
              ap
              (λ (b : Bool).
              if b then Some record { start = start; node = record { own = own; spare = spare; inner = inner } }
              else located_inside slot start record { own = own; spare = spare; inner = inner })
              is
      by false other some =
          let none : one_if (own.slot == slot) ≡ 0 = ap one_if other in
          located_else slot start gap own spare inner rest other
          ∙ ap
          (λ (o : Option PlainLocated). option_or (located_inside slot start record { own = own; spare = spare; inner = inner }) o)
          (none_located slot (start + count_around own (kept_lengths inner) + gap) 0 rest (omega (arith, once, some, none)))
          ∙ or_none (located_inside slot start record { own = own; spare = spare; inner = inner })
          ∙ sym
          (ap
          (λ (b : Bool).
          if b then Some record { start = start; node = record { own = own; spare = spare; inner = inner } }
          else located_inside slot start record { own = own; spare = spare; inner = inner })
          other)
  at_number start gap (CodeForest.cons own spare inner rest) (suc k) node there once some =
      let more = number_times rest k node there in
      let further =
      at_number (start + count_around own (kept_lengths inner) + gap) 0 rest k node there (omega (arith, once)) some in
      by (own.slot == slot) refl (omega (arith, once, some, more)) further
    where
      by : (b : Bool) → (own.slot == slot) ≡ b → one_if (own.slot == slot) + times_kept slot inner ≤ 0
          → located_among slot (start + count_around own (kept_lengths inner) + gap) 0 rest
          ≡ located_at (start_at (start + count_around own (kept_lengths inner) + gap) 0 rest k) node
          → located_among slot start gap (CodeForest.cons own spare inner rest)
          ≡ located_at (start_at start gap (CodeForest.cons own spare inner rest) (suc k)) node
      by true it few further =
          let one : one_if (own.slot == slot) ≡ 1 = ap one_if it in
          absurd (omega (arith, few, one))
      by false other few further =
          located_else slot start gap own spare inner rest other
          ∙ ap
          (λ (o : Option PlainLocated). option_or o (located_among slot (start + count_around own (kept_lengths inner) + gap) 0 rest))
          (none_located slot (start + length own.pieces.before + length (option_to_list (jumps_beside own (kept_lengths inner)).ahead))
          (length (option_to_list (jumps_beside own (kept_lengths inner)).between)) inner (omega (arith, few)))
          ∙ further
          ∙ ap (λ (n : ℕ). located_at n node) (start_next start gap own spare inner rest k)

  -- ---- inside a node

  module _ (start : ℕ) (self : PlainCodeNode) (k : ℕ) (node : PlainCodeNode) (there : slice_get (code_nodes self.inner) k ≡ Some node) (once : times_kept slot self.inner ≤ 1) where
    -- the slot stands no more than once inside it
    pub child_once : times_kept slot node.inner ≤ 1
    child_once = omega (arith, once, number_times self.inner k node there)

    -- in the slot it is the node that is located
    pub child_here : node.own.slot ≡ slot
        → Some record { start = child_start start self k; node = node } ≡ located_inside slot start self
    child_here same =
        let is = eq-eqb node.own.slot slot same in
        let one : one_if (node.own.slot == slot) ≡ 1 = ap one_if is in
        sym
        (at_number (start + length self.own.pieces.before + length (option_to_list (jumps_beside self.own (kept_lengths self.inner)).ahead))
        (length (option_to_list (jumps_beside self.own (kept_lengths self.inner)).between)) self.inner k node there once (omega (arith, one))
        ∙ ap
        (λ (b : Bool).
        if b then Some record { start = child_start start self k; node = node } else located_inside slot (child_start start self k) node)
        is)

    -- what is located inside it is what is located
    pub child_within : (found : PlainLocated) → Some found ≡ located_inside slot (child_start start self k) node
        → Some found ≡ located_inside slot start self
    child_within found inside = by (node.own.slot == slot) refl
      where
        within : 1 ≤ times_kept slot node.inner
        within =
            stands slot
            (child_start start self k + length node.own.pieces.before + length (option_to_list (jumps_beside node.own (kept_lengths node.inner)).ahead))
            (length (option_to_list (jumps_beside node.own (kept_lengths node.inner)).between)) node.inner found inside

        by : (b : Bool) → (node.own.slot == slot) ≡ b → Some found ≡ located_inside slot start self
        by true it =
            let one : one_if (node.own.slot == slot) ≡ 1 = ap one_if it in
            absurd (omega (arith, one, within, once, number_times self.inner k node there))
        by false other =
            inside
            ∙ sym
            (at_number (start + length self.own.pieces.before + length (option_to_list (jumps_beside self.own (kept_lengths self.inner)).ahead))
            (length (option_to_list (jumps_beside self.own (kept_lengths self.inner)).between)) self.inner k node there once (omega (arith, within))
            ∙ ap
            (λ (b : Bool).
            if b then Some record { start = child_start start self k; node = node } else located_inside slot (child_start start self k) node)
            other)
