-- Words: how long names are, and keywords by their length, which are compared with those of that length alone.
use Rattle.std.proofs.Common.{◌≡◌, ℕ, ◌≤◌, Bool, true, false, ◌&&◌, ◌||◌, not, ◌==◌, if◌then◌else◌, List, [], ◌∷◌, length, refl, sym, ap, ◌∙◌, true≢false, inl, inr}
use Rattle.std.specs.Prelude.{bytes_eq, nat_le}
use Rattle.std.specs.List.{list_all, list_any}
use Rattle.std.proofs.lemmas.Bool.{and_parts, false_from_ne_true, leb-true, or_cases, eq-eqb}
use Rattle.std.proofs.lemmas.Slice.Eq.{bytes_eq-Decides}
use Rattle.plcs_base.specs.Name.{is_keyword, is_word, keywords, longest_name, IsName}

-- a name has at most 31 bytes
pub name_short : (bytes : List ℕ) → IsName bytes → length bytes ≤ longest_name
name_short bytes name =
    leb-true (length bytes) longest_name
    (and_parts (nat_le (length bytes) longest_name) (not (is_keyword bytes)) (and_parts (is_word bytes) _ name).1).0

-- those of the words that have so many bytes
abbrev pub of_length : ℕ → List (List ℕ) → List (List ℕ)
of_length n [] = []
of_length n (word ∷ words) = if n == length word then word ∷ of_length n words else of_length n words

-- a word of another length isn't the bytes
other_length : (bytes word : List ℕ) → (length bytes == length word) ≡ false → bytes_eq bytes word ≡ false
other_length bytes word other =
    false_from_ne_true (bytes_eq bytes word)
    (λ same. true≢false (sym (eq-eqb (length bytes) (length word) (ap length ((bytes_eq-Decides bytes word).0 same))) ∙ other))

-- bytes are one of the words where they are one of those of their length
any_of_length : (bytes : List ℕ) (words : List (List ℕ))
    → list_any (bytes_eq bytes) words ≡ list_any (bytes_eq bytes) (of_length (length bytes) words)
any_of_length bytes [] = refl
any_of_length bytes (word ∷ words) = go (length bytes == length word) refl (any_of_length bytes words)
  where
    go : (b : Bool) → (length bytes == length word) ≡ b
        → list_any (bytes_eq bytes) words ≡ list_any (bytes_eq bytes) (of_length (length bytes) words)
        → (bytes_eq bytes word || list_any (bytes_eq bytes) words)
        ≡ list_any (bytes_eq bytes) (if b then word ∷ of_length (length bytes) words else of_length (length bytes) words)
    go true e h = ap (λ others. bytes_eq bytes word || others) h
    go false e h = rw (other_length bytes word e) h

-- bytes of this length are a keyword where they are one of those of this length
pub keyword_of_length : (bytes : List ℕ) (n : ℕ) → length bytes ≡ n
    → list_any (bytes_eq bytes) (of_length n keywords) ≡ is_keyword bytes
unfolding is_keyword
keyword_of_length bytes n e =
    sym (any_of_length bytes keywords ∙ ap (λ k. list_any (bytes_eq bytes) (of_length k keywords)) e)

-- whether there is a keyword of so many bytes
abbrev pub has_length : ℕ → Bool
has_length n = (n == 2) || ((n == 3) || ((n == 4) || ((n == 5) || ((n == 6) || ((n == 7) || (n == 9))))))

-- what holds of each of the words, as of all keywords, holds of bytes that are one of them
one_of : (test : List ℕ → Bool) (bytes : List ℕ) (words : List (List ℕ)) → list_all test words ≡ true
    → list_any (bytes_eq bytes) words ≡ true → test bytes ≡ true
one_of test bytes [] all found = absurd (true≢false (sym found))
one_of test bytes (word ∷ words) all found =
    let parts = and_parts (test word) (list_all test words) all in
    elim (or_cases (bytes_eq bytes word) (list_any (bytes_eq bytes) words) found) [
      | inl same ↦ ap test ((bytes_eq-Decides bytes word).0 same) ∙ parts.0
      | inr other ↦ one_of test bytes words parts.1 other
    ]

-- bytes of another length than any keyword's are none
pub no_keyword : (bytes : List ℕ) → has_length (length bytes) ≡ false → false ≡ is_keyword bytes
unfolding is_keyword
no_keyword bytes other =
    sym (false_from_ne_true (is_keyword bytes)
    (λ found. true≢false (sym (one_of (λ word. has_length (length word)) bytes keywords refl found) ∙ other)))
