-- How the instructions that are fetched in steps add up.
use Rattle.std.proofs.Common.{arith, ◌≡◌, ℕ, ◌+◌, ◌≤◌, ap, ◌∙◌}
use Rattle.plcs_base.specs.Count.{raised_by}
use Rattle.plcs_base.specs.PlainCounts.{PlainCounts}
use Rattle.plcs_machine.specs.Fetched.{FetchesAtMost, FetchesBy}

module _ (m n : ℕ) (u v : PlainCounts) where
  -- those of two parts
  pub both_fetched : (w : PlainCounts) → FetchesBy m u v → FetchesBy n v w → FetchesBy (m + n) u w
  both_fetched w one other =
      let both : raised_by n (raised_by m u.fetched) ≡ raised_by (m + n) u.fetched = omega arith in
      other
      ∙ ap (λ (x : PlainCounts). let y : PlainCounts = record x { fetched = raised_by n x.fetched } in y) one
      ∙ ap (λ (count : ℕ). let y : PlainCounts = record u { fetched = count } in y) both

  -- those of two parts, of which the second is at most so much
  pub then_fetched : (w : PlainCounts) → FetchesBy m u v → FetchesAtMost n v w → FetchesAtMost (m + n) u w
  then_fetched w one most =
      let count : v.fetched ≡ raised_by m u.fetched = ap (λ (x : PlainCounts). x.fetched) one in
      let least = most.later in
      let greatest = most.most in
      record {
        most = omega (arith, count, greatest);
        later = omega (arith, count, least);
        others = most.others ∙ ap (λ (x : PlainCounts). let y : PlainCounts = record x { fetched = w.fetched } in y) one;
      }

  -- what is at most so much is at most more
  pub fewer_fetched : m ≤ n → FetchesAtMost m u v → FetchesAtMost n u v
  fewer_fetched less few =
      let most = few.most in
      record { most = omega (arith, less, most); later = few.later; others = few.others }
