-- The bytes that the editor was given, as keys that were kept or taken.
use Rattle.std.proofs.Common.{◌≡◌, ℕ, ◌+◌, ◌≤◌, ◌⊎◌, inl, inr, List, [], ◌++◌, length, take, drop, sym, ap, ◌∙◌, arith, append-nil, append_assoc, length-append, length-drop}
use Rattle.std.proofs.lemmas.List.{append_cancel_right}
use Rattle.std.proofs.Math.Seq.{take-append_seam}
use Rattle.synth_kept.specs.KeptWholeRun.{AreKeys}

-- two fronts of one list that are equally long
same_front : (xs ys rest more : List ℕ) → xs ++ rest ≡ ys ++ more → length xs ≡ length ys → xs ≡ ys
same_front xs ys rest more whole many =
    sym (take-append_seam xs rest) ∙ ap (take (length xs)) whole ∙ ap (λ (n : ℕ). take n (ys ++ more)) many ∙
    take-append_seam ys more

-- nothing taken is none in front of nothing
none_both : (taken : List ℕ) → taken ≡ [] → taken ++ [] ≡ []
none_both taken none = append-nil taken ∙ none

-- after reads that were Ok: just as many as were given
pub given_all : (keys left left_after bytes taken now : List ℕ) (given : ℕ) → left ≡ taken ++ left_after →
    now ≡ keys ++ taken → given ≤ length (keys ++ taken) →
    (taken ≡ []) ⊎ (given ≡ length (keys ++ taken)) →
    keys ++ left ≡ bytes ++ (drop given now ++ left_after) →
    AreKeys keys taken [] bytes × (length bytes ≡ given)
given_all keys left left_after bytes taken now given took same within behind read =
    (are behind, many) where
      rest : List ℕ
      rest = drop given now

      whole : keys ++ taken ≡ bytes ++ drop given now
      whole = append_cancel_right (keys ++ taken) (bytes ++ drop given now) left_after
          (append_assoc keys taken left_after ∙ ap (λ (l : List ℕ). keys ++ l) (sym took) ∙ read ∙
          sym (append_assoc bytes (drop given now) left_after))

      many : length bytes ≡ given
      many =
          let lengths = ap length whole ∙ length-append bytes (drop given now) in
          let behind_many = length-drop given now in
          let same_many = ap length same in
          omega (arith, lengths, behind_many, same_many, within)

      are : (taken ≡ []) ⊎ (given ≡ length (keys ++ taken)) → AreKeys keys taken [] bytes
      are (inl none) = inr (
        none_both taken none,
        (drop given now, sym (append-nil keys) ∙ ap (λ (l : List ℕ). keys ++ l) (sym none) ∙ whole),
      )
      are (inr all) = inl (same_front bytes (keys ++ taken) (drop given now) []
          (sym whole ∙ sym (append-nil (keys ++ taken))) (many ∙ all))

-- after a read that wasn't Ok
pub given_before : (keys left left_after bytes lost taken last now : List ℕ) (given ends : ℕ) →
    left ≡ (taken ++ last) ++ left_after → (now ≡ keys ++ taken) ⊎ (now ≡ (keys ++ taken) ++ last) →
    given ≤ length (keys ++ taken) → (taken ++ last ≡ []) ⊎ (given ≡ length (keys ++ taken)) →
    keys ++ left ≡ (bytes ++ lost) ++ (drop given now ++ left_after) → length bytes ≡ given + ends →
    (ends ≡ 0) ⊎ (last ≡ []) → AreKeys keys taken last bytes
given_before keys left left_after bytes lost taken last now given ends took same within behind read many none_behind =
    are behind where
      whole : keys ++ (taken ++ last) ≡ bytes ++ (lost ++ drop given now)
      whole = append_cancel_right (keys ++ (taken ++ last)) (bytes ++ (lost ++ drop given now)) left_after
          (append_assoc keys (taken ++ last) left_after ∙ ap (λ (l : List ℕ). keys ++ l) (sym took) ∙ read ∙
          sym (append_assoc (bytes ++ lost) (drop given now) left_after) ∙
          ap (λ (l : List ℕ). l ++ left_after) (append_assoc bytes lost (drop given now)))

      just : (ends ≡ 0) ⊎ (last ≡ []) → given ≡ length (keys ++ taken) → length bytes ≡ length (keys ++ taken)
      just (inl none) all = omega (arith, none, many, all)
      just (inr none) all =
          let lengths = ap length whole ∙ length-append bytes (lost ++ drop given now) in
          let no_more : length (keys ++ (taken ++ last)) ≡ length (keys ++ taken) =
          ap (λ (l : List ℕ). length (keys ++ (taken ++ l))) none ∙ ap (λ (l : List ℕ). length (keys ++ l)) (append-nil taken) in
          omega (arith, many, all, lengths, no_more)

      are : (taken ++ last ≡ []) ⊎ (given ≡ length (keys ++ taken)) → AreKeys keys taken last bytes
      are (inl none) = inr (
        none,
        (lost ++ drop given now, sym (append-nil keys) ∙ ap (λ (l : List ℕ). keys ++ l) (sym none) ∙ whole),
      )
      are (inr all) = inl (same_front bytes (keys ++ taken) (lost ++ drop given now) last
          (sym whole ∙ sym (append_assoc keys taken last)) (just none_behind all))
