-- `Loops::pop`, `Frames::pop`: what was taken off stood last.
use Rattle.std.specs.Prelude.{◌≡◌, refl, ℕ, ◌+◌, ◌-◌, List, [], ◌∷◌, ◌++◌, length, option_to_list, slice_get, take, Option, Some, None, MatchOption}
use Rattle.std.proofs.Common.{ap, sym, ◌∙◌, arith}
use Rattle.std.proofs.lemmas.List.{length-append}
use Rattle.std.proofs.lemmas.Option.{slice_get_past}

last_number : {A : Type 0} (xs : List A) (a : A) → length (xs ++ a ∷ []) - 1 ≡ length xs
last_number xs a = let longer = length-append xs (a ∷ []) in omega (arith, longer)

behind : {A : Type 0} (xs : List A) (a : A) → slice_get (xs ++ a ∷ []) (length xs) ≡ Some a
behind [] a = refl
behind (x ∷ xs) a = behind xs a

-- a list of n items loses its last
module _ {A : Type 0} (old new : List A) (n m : ℕ) (long : n ≡ length old) where
  pub innermost : (popped : Option A) → old ≡ new ++ option_to_list popped → MatchOption popped ((n ≡ 0) × (m ≡ 0)) (λ _. m + 1 ≡ n)
      → popped ≡ slice_get old (length old - 1)
  innermost None e cases =
      let none : n ≡ 0 = cases.0 in sym (slice_get_past old (length old - 1) (omega (arith, none, long)))
  innermost (Some a) e cases =
      sym
      (ap (λ (xs : List A). slice_get xs (length xs - 1)) e
      ∙ (ap (slice_get (new ++ a ∷ [])) (last_number new a) ∙ behind new a))

  pub left : new ≡ take (n - 1) old → new ≡ take (length old - 1) old
  left e = e ∙ ap (λ (k : ℕ). take (k - 1) old) long
