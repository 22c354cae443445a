-- How fetches add up: what comes behind so many others, and the counts of them.
use Rattle.std.proofs.Common.{ℕ, ◌+◌, ◌≤◌, ◌≡◌, refl, ap, sym, ◌∙◌, subst, arith}
use Rattle.std.specs.Prelude.{Option, Some, None, option_map}
use Rattle.plcs_base.specs.Count.{raised_by}
use Rattle.plcs_base.specs.PlainCounts.{PlainCounts}
use Rattle.plcs_machine.specs.Fetched.{Fetched, FetchesAtMost, FetchesBy, behind_one}
use Rattle.plcs_machine.specs.Private.CountedSteps.{behind_many}

-- one more of them
pub behind_next : {A : Type 0} (k : ℕ) (fetched : Option (Fetched A))
    → option_map (behind_many (k + 1)) fetched ≡ option_map (behind_many k) (option_map behind_one fetched)
behind_next k None = refl
behind_next {A = A} k (Some fetched) =
    let same : fetched.fetches + (k + 1) ≡ fetched.fetches + 1 + k = omega arith in
    ap (λ (n : ℕ). let one : Fetched A = record { result = fetched.result; fetches = n } in Some one) same

-- none of them
pub behind_none : {A : Type 0} (fetched : Option (Fetched A)) → option_map (behind_many 0) fetched ≡ fetched
behind_none None = refl
behind_none {A = A} (Some fetched) =
    let same : fetched.fetches + 0 ≡ fetched.fetches = omega arith in
    ap (λ (n : ℕ). let one : Fetched A = record { result = fetched.result; fetches = n } in Some one) same

-- ---- counts

-- nothing is counted where nothing is fetched
pub fetches_nothing : (u : PlainCounts) → FetchesBy 0 u u
fetches_nothing u =
    let same : u.fetched ≡ raised_by 0 u.fetched = omega arith in
    ap (λ (n : ℕ). let v : PlainCounts = record u { fetched = n } in v) same

-- what is fetched adds up
pub fetches_both : (m n k : ℕ) (u v w : PlainCounts) → m + n ≡ k → FetchesBy m u v → FetchesBy n v w → FetchesBy k u w
fetches_both m n k u v w is one other =
    let both : raised_by n (raised_by m u.fetched) ≡ raised_by (m + n) u.fetched = omega arith in
    other
    ∙ ap (λ (x : PlainCounts). let y : PlainCounts = record x { fetched = raised_by n x.fetched } in y) one
    ∙ ap (λ (count : ℕ). let y : PlainCounts = record u { fetched = count } in y)
    (both ∙ ap (λ (number : ℕ). raised_by number u.fetched) is)

-- the same where the second part is at most so much
pub fetches_then : (m n k : ℕ) (u v w : PlainCounts) → m + n ≡ k → FetchesBy m u v → FetchesAtMost n v w → FetchesAtMost k u w
fetches_then m n k u v w is one most =
    let count : v.fetched ≡ raised_by m u.fetched = ap (λ (x : PlainCounts). x.fetched) one in
    let least = most.later in
    let greatest = most.most in
    record {
      most = omega (arith, is, count, greatest);
      later = omega (arith, count, least);
      others = most.others ∙ ap (λ (x : PlainCounts). let y : PlainCounts = record x { fetched = w.fetched } in y) one;
    }

-- nothing is at most so much
pub fetches_few : (n : ℕ) (u : PlainCounts) → FetchesAtMost n u u
fetches_few n u = record { most = omega arith; later = omega arith; others = refl }

-- what is fetched is at most so much
pub fetches_most : (m n : ℕ) (u v : PlainCounts) → m ≤ n → FetchesBy m u v → FetchesAtMost n u v
fetches_most m n u v less one =
    let P : PlainCounts → Type 0 = λ counts. FetchesAtMost n u counts in
    subst P (sym one) (record { most = omega (arith, less); later = omega arith; others = refl })
