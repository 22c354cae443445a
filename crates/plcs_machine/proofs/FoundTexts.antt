-- Where a text is found from a byte on: what doesn't begin there is sought behind it.
use Rattle.std.proofs.Common.{ℕ, ◌+◌, ◌≡◌, ◌<◌, ◌∙◌, ◌∷◌, List, sym, ap, length, drop, get_or}
use Rattle.std.proofs.lemmas.List.{drop_more}
use Rattle.std.specs.Prelude.{Bool, false, nat_eq, if◌then◌else◌}
use Rattle.std.specs.List.{starts_with}
use Rattle.plcs_store.specs.BuiltinValue.{found_from}

-- at the first byte
not_found : (k byte : ℕ) (rest sought : List ℕ) → starts_with nat_eq (byte ∷ rest) sought ≡ false
    → found_from k (byte ∷ rest) sought ≡ found_from (k + 1) rest sought
not_found k byte rest sought differs = ap (λ (b : Bool). if b then k else found_from (k + 1) rest sought) differs

-- at the byte of a number
pub found_more : (x sought : List ℕ) (k : ℕ) → k < length x → starts_with nat_eq (drop k x) sought ≡ false
    → found_from (k + 1) (drop k x) sought ≡ found_from (k + 1 + 1) (drop (k + 1) x) sought
found_more x sought k within differs =
    let one : drop k x ≡ get_or x k 0 ∷ drop (k + 1) x = drop_more x k 0 within in
    let first : starts_with nat_eq (get_or x k 0 ∷ drop (k + 1) x) sought ≡ false =
    sym (ap (λ (l : List ℕ). starts_with nat_eq l sought) one) ∙ differs in
    ap (λ (l : List ℕ). found_from (k + 1) l sought) one ∙ not_found (k + 1) (get_or x k 0) (drop (k + 1) x) sought first
