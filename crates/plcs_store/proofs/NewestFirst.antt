-- `OperandValues`: a list to whose end things are put and taken off, seen from its end.
use Rattle.std.specs.Prelude.{◌≡◌, ℕ, ◌-◌, List, [], ◌∷◌, ◌++◌, drop, length, reverse, take}
use Rattle.std.proofs.Common.{ap, sym, ◌∙◌}
use Rattle.std.proofs.lemmas.List.{drop_at, length-drop, length-reverse, reverse-append, reverse-reverse, take-append-drop, take_at}

-- as many are seen as there are
pub as_many : {A : Type 0} (xs : List A) → length (reverse xs) ≡ length xs
as_many xs = length-reverse xs

-- what is put last is seen first
pub put_first : {A : Type 0} (xs : List A) (x : A) → reverse (xs ++ x ∷ []) ≡ x ∷ reverse xs
put_first xs x = reverse-append xs (x ∷ [])

module _ {A : Type 0} (xs : List A) (n : ℕ) where
  -- what was put, as what is seen without the first n of it, and these
  parts : xs ≡ reverse (drop n (reverse xs)) ++ reverse (take n (reverse xs))
  parts =
      sym (reverse-reverse xs) ∙ ap reverse (sym (take-append-drop n (reverse xs)))
      ∙ reverse-append (take n (reverse xs)) (drop n (reverse xs))

  older : length (reverse (drop n (reverse xs))) ≡ length xs - n
  older = length-reverse (drop n (reverse xs)) ∙ length-drop n (reverse xs) ∙ ap (λ (k : ℕ). k - n) (length-reverse xs)

  -- the last n, in the order in which they were put
  pub last_ones : drop (length xs - n) xs ≡ reverse (take n (reverse xs))
  last_ones =
      ap (drop (length xs - n)) parts
      ∙ drop_at (reverse (drop n (reverse xs))) (reverse (take n (reverse xs))) (length xs - n) older

  -- all but the last n
  pub other_ones : reverse (take (length xs - n) xs) ≡ drop n (reverse xs)
  other_ones =
      ap (λ (ys : List A). reverse (take (length xs - n) ys)) parts
      ∙ ap reverse (take_at (reverse (drop n (reverse xs))) (reverse (take n (reverse xs))) (length xs - n) older)
      ∙ reverse-reverse (drop n (reverse xs))
