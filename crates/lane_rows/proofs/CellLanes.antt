-- From the mask of the cells in which two loads of rows differ to the cells before the first of them.
use Rattle.std.proofs.Common.{◌≡◌, ℕ, ◌+◌, ◌-◌, ◌%◌, ◌^◌, ◌<◌, ◌≤◌, eqb, cond, Bool, false, not, List, map, length, get_or, w16, sym, ap, ap₂, ◌∙◌, subst, arith, map-id, eqb-true, eq-eqb, true≢false}
use Rattle.std.specs.List.{prefix_len}
use Rattle.std.proofs.lemmas.Bool.{not-true, not-false}
use Rattle.std.proofs.lemmas.List.Sums.{prefix_len-le-length, prefix_len_passes, prefix_len_stops}
use Rattle.std.proofs.lemmas.Simd.{length-chunk, length-zip2, get_or-chunk, get_or-zip2, tops_compared, mask_l-mod, first_set_mask_l}
use lib.Lanes.{chunk, zip2, mask_l, top}
use Rattle.lane_rows.specs.Private.LaneRun.{first_set}

-- two cells differ
abbrev pub unequal : ℕ → ℕ → Bool
unequal x y = not (eqb x y)

module _ (a b : List ℕ) (at r : ℕ) (in_a : at + 32 ≤ length a) (in_b : at + 32 ≤ length b)
    (found : r ≡ first_set (mask_l (map (top 15) (zip2 (λ x y. cond (unequal x y) 65535 0) (chunk at 32 a) (chunk at 32 b))) % 2 ^ 64)) where
  abbrev tests : List Bool
  tests = zip2 unequal (chunk at 32 a) (chunk at 32 b)

  long_a : length (chunk at 32 a) ≡ 32
  long_a = length-chunk at 32 a in_a

  long_b : length (chunk at 32 b) ≡ 32
  long_b = length-chunk at 32 b in_b

  long : length tests ≡ 32
  long = length-zip2 unequal (chunk at 32 a) (chunk at 32 b) (long_a ∙ sym long_b) ∙ long_a

  counted : r ≡ prefix_len (λ t. not t) tests
  counted =
      let mask =
      ap (λ ts. mask_l ts % 2 ^ 64) (tops_compared w16 unequal (chunk at 32 a) (chunk at 32 b))
      ∙ mask_l-mod tests 64 (omega (arith, long)) ∙ ap mask_l (sym (map-id tests)) in
      found ∙ ap first_set mask ∙ first_set_mask_l (λ t. t) tests 32 long (omega arith)

  pub few : r ≤ 32
  few = omega (arith, counted, long, prefix_len-le-length (λ t. not t) tests)

  -- the test of a lane is that of the two cells there
  lane : (i : ℕ) → i < 32 → get_or tests i false ≡ unequal (get_or a (at + i) 0) (get_or b (at + i) 0)
  lane i lt =
      get_or-zip2 unequal (chunk at 32 a) (chunk at 32 b) i 0 0 false (omega (arith, long_a)) (omega (arith, long_b))
      ∙ ap₂ unequal (get_or-chunk at 32 a i 0 lt) (get_or-chunk at 32 b i 0 lt)

  pub equal_before : (k : ℕ) → at ≤ k → k < at + r → get_or a k 0 ≡ get_or b k 0
  equal_before k from to =
      let back : at + (k - at) ≡ k = omega arith in
      let unset = not-true _ (prefix_len_passes (λ t. not t) tests (k - at) false (omega (arith, counted))) in
      let same = sym (lane (k - at) (omega (arith, few))) ∙ unset in
      subst (λ j. get_or a j 0 ≡ get_or b j 0) back (eqb-true _ _ (not-false _ same))

  pub unequal_there : r < 32 → get_or a (at + r) 0 ≡ get_or b (at + r) 0 → ⊥
  unequal_there short same =
      let set = not-false _ (prefix_len_stops (λ t. not t) tests false (omega (arith, counted, long))) in
      let differ = sym (lane r short) ∙ ap (λ j. get_or tests j false) counted ∙ set in
      true≢false (sym (eq-eqb _ _ same) ∙ not-true _ differ)
