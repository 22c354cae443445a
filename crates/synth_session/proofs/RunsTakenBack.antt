-- `back` of take_back: the configurations before a run's are dropped one by one, as far as they are held.
use Rattle.std.proofs.Common.{◌≡◌, ◌≤◌, ℕ, zero, suc, ◌+◌, ◌-◌, List, [], ◌∷◌, drop, length, length-drop, min, ap, ◌∙◌, arith}
use Rattle.plcs_store.specs.declared.undo.Undo.{Undo}
use Rattle.plcs_store.specs.Configuration.{PlainConfiguration}
use Rattle.back_steps.specs.EarlierConfigurations.{GoesBack, configurations_before}
use Rattle.synth_session.specs.Private.HeldRunKept.{StepsBack}

-- one more is dropped
dropped_next : {A : Type 0} (k : ℕ) (xs : List A) (x : A) (rest : List A) → drop k xs ≡ x ∷ rest → drop (suc k) xs ≡ rest
dropped_next zero [] x rest there = absurd (cc)
dropped_next {A} zero (y ∷ ys) x rest there = ap (λ (l : List A). drop 1 l) there
dropped_next (suc k) [] x rest there = absurd (cc)
dropped_next (suc k) (y ∷ ys) x rest there = dropped_next k ys x rest there

dropped_more : {A : Type 0} (k : ℕ) (xs : List A) (x : A) (rest : List A) → drop k xs ≡ x ∷ rest → drop (k + 1) xs ≡ rest
dropped_more k xs x rest there =
    let one : k + 1 ≡ suc k = omega arith in
    ap (λ (n : ℕ). drop n xs) one ∙ dropped_next k xs x rest there

-- how many are dropped, and how many are left
left_there : {A : Type 0} (k : ℕ) (x : A) (xs : List A) (y : A) (rest : List A) → drop k (x ∷ xs) ≡ y ∷ rest → k + length rest ≡ length xs
left_there k x xs y rest there =
    let many : length (drop k (x ∷ xs)) ≡ length (x ∷ xs) - k = length-drop k (x ∷ xs) in
    let same : length (drop k (x ∷ xs)) ≡ length (y ∷ rest) = ap length there in
    omega (arith, many, same)

module _ (undos : List Undo) (c : PlainConfiguration) (taken : ℕ) (undos_now : List Undo) (now : PlainConfiguration) where
  -- a step more is taken back
  pub one_more : (undos_next : List Undo) (next : PlainConfiguration)
      → drop taken (c ∷ configurations_before undos c) ≡ now ∷ configurations_before undos_now now
      → GoesBack undos_now now undos_next next
      → drop (taken + 1) (c ∷ configurations_before undos c) ≡ next ∷ configurations_before undos_next next
  one_more undos_next next so_far goes =
      dropped_more taken (c ∷ configurations_before undos c) now (configurations_before undos_now now) so_far ∙ goes

  -- all are taken back that are asked for
  pub all_taken : (steps : ℕ) → taken ≤ steps → steps ≤ taken
      → drop taken (c ∷ configurations_before undos c) ≡ now ∷ configurations_before undos_now now
      → StepsBack steps undos c undos_now now
  all_taken steps few many so_far =
      let left = left_there taken c (configurations_before undos c) now (configurations_before undos_now now) so_far in
      let number : min steps (length (configurations_before undos c)) ≡ taken = omega (arith, left, few, many) in
      ap (λ (n : ℕ). drop n (c ∷ configurations_before undos c)) number ∙ so_far

  -- none is held any more
  pub none_held : (steps : ℕ) → taken ≤ steps → undos_now ≡ []
      → drop taken (c ∷ configurations_before undos c) ≡ now ∷ configurations_before undos_now now
      → StepsBack steps undos c undos_now now
  none_held steps few none so_far =
      let left = left_there taken c (configurations_before undos c) now (configurations_before undos_now now) so_far in
      let empty : length (configurations_before undos_now now) ≡ 0 = ap (λ (u : List Undo). length (configurations_before u now)) none in
      let number : min steps (length (configurations_before undos c)) ≡ taken = omega (arith, left, few, empty) in
      ap (λ (n : ℕ). drop n (c ∷ configurations_before undos c)) number ∙ so_far
