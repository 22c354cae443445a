-- Sums of the first numbers of a list after one was set, put in or taken out.
use Rattle.std.specs.Prelude.{◌≡◌, ℕ, zero, suc, ◌+◌, ◌<◌, ◌≤◌, List, [], ◌∷◌, length, sum, take, get_or, slice_set}
use Rattle.std.proofs.Common.{arith}
use Rattle.std.specs.List.{insert, remove}
use Rattle.std.proofs.lemmas.List.Sums.{sum_by-cons}

-- the first number, and the others
pub sum_cons : (x : ℕ) (xs : List ℕ) → sum (x ∷ xs) ≡ x + sum xs
sum_cons x xs = sum_by-cons (λ n. n) x xs

-- one of the first numbers is no more than they
pub number_le : (numbers : List ℕ) (k j : ℕ) → k < j → k < length numbers → get_or numbers k 0 ≤ sum (take j numbers)
number_le [] k j before inside = absurd (omega (arith, inside))
number_le (x ∷ xs) k zero before inside = absurd (omega (arith, before))
number_le (x ∷ xs) zero (suc j) before inside = let e : sum (take (suc j) (x ∷ xs)) ≡ x + sum (take j xs) = sum_cons x (take j xs) in rw e (omega arith)
number_le (x ∷ xs) (suc k) (suc j) before inside =
    let h : get_or xs k 0 ≤ sum (take j xs) = number_le xs k j (omega arith) (omega arith) in
    rw (sum_cons x (take j xs)) (omega (arith, h))

-- a number among the first was set
pub sum_set : (numbers : List ℕ) (k j x : ℕ) → k < j → k < length numbers
    → sum (take j (slice_set numbers k x)) + get_or numbers k 0 ≡ sum (take j numbers) + x
sum_set [] k j x before inside = absurd (omega (arith, inside))
sum_set (y ∷ ys) k zero x before inside = absurd (omega (arith, before))
sum_set (y ∷ ys) zero (suc j) x before inside = rw (sum_cons x (take j ys), sum_cons y (take j ys)) (omega arith)
sum_set (y ∷ ys) (suc k) (suc j) x before inside =
    let h : sum (take j (slice_set ys k x)) + get_or ys k 0 ≡ sum (take j ys) + x = sum_set ys k j x (omega arith) (omega arith) in
    rw (sum_cons y (take j (slice_set ys k x)), sum_cons y (take j ys)) (omega (arith, h))

-- a number was put in among the first
pub sum_insert : (numbers : List ℕ) (k j x : ℕ) → k ≤ j → k ≤ length numbers
    → sum (take (suc j) (insert numbers k x)) ≡ sum (take j numbers) + x
sum_insert numbers zero j x before inside = rw (sum_cons x (take j numbers)) (omega arith)
sum_insert [] (suc k) j x before inside = absurd (omega (arith, inside))
sum_insert (y ∷ ys) (suc k) zero x before inside = absurd (omega (arith, before))
sum_insert (y ∷ ys) (suc k) (suc j) x before inside =
    let h : sum (take (suc j) (insert ys k x)) ≡ sum (take j ys) + x = sum_insert ys k j x (omega arith) (omega arith) in
    rw (sum_cons y (take (suc j) (insert ys k x)), sum_cons y (take j ys)) (omega (arith, h))

-- one of the first numbers was taken out
pub sum_remove : (numbers : List ℕ) (k j : ℕ) → k ≤ j → k < length numbers
    → sum (take (suc j) numbers) ≡ sum (take j (remove numbers k)) + get_or numbers k 0
sum_remove [] k j before inside = absurd (omega (arith, inside))
sum_remove (y ∷ ys) zero j before inside = rw (sum_cons y (take j ys)) (omega arith)
sum_remove (y ∷ ys) (suc k) zero before inside = absurd (omega (arith, before))
sum_remove (y ∷ ys) (suc k) (suc j) before inside =
    let h : sum (take (suc j) ys) ≡ sum (take j (remove ys k)) + get_or ys k 0 = sum_remove ys k j (omega arith) (omega arith) in
    rw (sum_cons y (take (suc j) ys), sum_cons y (take j (remove ys k))) (omega (arith, h))
