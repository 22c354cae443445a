-- The first line of a text.
use Rattle.std.specs.Prelude.{◌≡◌, ℕ, zero, suc, ◌+◌, ◌<◌, List, [], ◌∷◌, ◌++◌, length, take, drop}
use Rattle.std.proofs.Common.{ap, arith, add-one, get_or}
use Rattle.file_store.specs.Loaded.{HasNoEnd}

no_end_at : (text : List ℕ) (k : ℕ) → k < length text → HasNoEnd (take k text) → (get_or text k 0 ≡ 10 → ⊥) → HasNoEnd (take (suc k) text)
no_end_at [] k inside h n = absurd (omega (arith, inside))
no_end_at (byte ∷ text) zero inside h n = (n, tt)
no_end_at (byte ∷ text) (suc k) inside h n = (h.0, no_end_at text k (omega (arith, inside)) h.1 n)

-- one byte more that ends no line
pub no_end_more : (text : List ℕ) (k : ℕ) → k < length text → HasNoEnd (take k text) → (get_or text k 0 ≡ 10 → ⊥) → HasNoEnd (take (k + 1) text)
no_end_more text k inside h n = rw (add-one k) (no_end_at text k inside h n)

parted : (text : List ℕ) (k : ℕ) → k < length text → get_or text k 0 ≡ 10 → text ≡ take k text ++ (10 ∷ drop (suc k) text)
parted [] k inside e = absurd (omega (arith, inside))
parted (byte ∷ text) zero inside e = ap (λ z. z ∷ text) e
parted (byte ∷ text) (suc k) inside e = ap (λ z. byte ∷ z) (parted text k (omega (arith, inside)) e)

-- a byte that ends a line parts the text
pub parted_at : (text : List ℕ) (k : ℕ) → k < length text → get_or text k 0 ≡ 10 → text ≡ take k text ++ (10 ∷ drop (k + 1) text)
parted_at text k inside e = rw (add-one k) (parted text k inside e)
