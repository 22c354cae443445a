-- What is counted as emitted, added up.
use Rattle.std.proofs.Common.{ℕ, ◌+◌, ◌≤◌, ◌≡◌, refl, subst, ap, sym, ◌∙◌, arith}
use Rattle.plcs_base.specs.Count.{raised_by}
use Rattle.plcs_base.specs.PlainCounts.{PlainCounts}
use Rattle.plcs_code.specs.Counts.{Emits, EmitsAtMost}

-- a count that is raised by nothing stays
raised_none : (count : ℕ) → raised_by 0 count ≡ count
raised_none count = omega arith

-- a count that is raised twice is raised by both together
raised_both : (m n count : ℕ) → raised_by n (raised_by m count) ≡ raised_by (m + n) count
raised_both m n count = omega arith

-- a count that is raised is at most so much more, and no less
raised_most : (n count : ℕ) → raised_by n count ≤ count + n
raised_most n count = omega arith

raised_later : (n count : ℕ) → count ≤ raised_by n count
raised_later n count = omega arith

-- nothing is counted where nothing is done
pub emits_nothing : (u : PlainCounts) → Emits 0 u u
emits_nothing u = λ i. record u { emitted = sym (raised_none u.emitted) i }

-- what is emitted adds up
pub emits_both : (m n k : ℕ) (u v w : PlainCounts) → m + n ≡ k → Emits m u v → Emits n v w → Emits k u w
emits_both m n k u v w is one other =
    other
    ∙ ap (λ (x : PlainCounts). let y : PlainCounts = record x { emitted = raised_by n x.emitted } in y) one
    ∙ ap (λ (count : ℕ). let y : PlainCounts = record u { emitted = count } in y)
    (raised_both m n u.emitted ∙ ap (λ (number : ℕ). raised_by number u.emitted) is)

-- what is emitted is at most so much
pub emits_most : (m n : ℕ) (u v : PlainCounts) → m ≤ n → Emits m u v → EmitsAtMost n u v
emits_most m n u v less one =
    let P : PlainCounts → Type 0 = λ counts. EmitsAtMost n u counts in
    subst P (sym one) (record {
      most = omega (arith, less, raised_most m u.emitted);
      later = raised_later m u.emitted;
      others = refl;
    })

-- at most so much is counted where nothing is done
pub emits_none : (n : ℕ) (u : PlainCounts) → EmitsAtMost n u u
emits_none n u = record { most = omega arith; later = omega arith; others = refl }

-- bounds on what is emitted add up
pub emits_then : (m n k : ℕ) (u v w : PlainCounts) → m + n ≤ k → EmitsAtMost m u v → EmitsAtMost n v w → EmitsAtMost k u w
emits_then m n k u v w less one other =
    let e = one.most in
    let f = other.most in
    let g = one.later in
    let h = other.later in
    record {
      most = omega arith;
      later = omega arith;
      others = other.others ∙ ap (λ (x : PlainCounts). let y : PlainCounts = record x { emitted = w.emitted } in y) one.others;
    }

-- where so many are emitted, and then at most some more
pub emits_break : (m n k : ℕ) (u v w : PlainCounts) → m + n ≤ k → Emits m u v → EmitsAtMost n v w → EmitsAtMost k u w
emits_break m n k u v w less one other = emits_then m n k u v w less (emits_most m m u v (omega arith) one) other

-- what is counted at most is counted at most where more may be
pub emits_more : (m n : ℕ) (u v : PlainCounts) → m ≤ n → EmitsAtMost m u v → EmitsAtMost n u v
emits_more m n u v less one = emits_then m 0 n u v v (omega (arith, less)) one (emits_none 0 v)
