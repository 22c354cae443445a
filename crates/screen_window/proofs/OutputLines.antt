-- Lines of the output, looked for byte by byte.
use Rattle.std.proofs.Common.{◌≡◌, ◌<◌, ◌≤◌, ℕ, ◌+◌, ◌-◌, suc, Bool, true, false, cond, eqb, List, [], ◌∷◌, ◌++◌, length, take, drop, get_or, refl, ap, sym, ◌∙◌, add-one, arith}
use Rattle.std.proofs.Math.Seq.{drop-cons}
use Rattle.std.proofs.lemmas.List.{take_more, length-drop, get_or-drop}
use Rattle.template_tree.specs.Listings.Listing.{split_at_ends}

-- how many lines there are doesn't hang on what the first begins with
count_any : (front other bytes : List ℕ) → length (split_at_ends front bytes) ≡ length (split_at_ends other bytes)
count_any front other [] = refl
count_any front other (byte ∷ bytes) = by_test (eqb byte 10) (count_any (front ++ byte ∷ []) (other ++ byte ∷ []) bytes)
  where
    by_test : (b : Bool) → length (split_at_ends (front ++ byte ∷ []) bytes) ≡ length (split_at_ends (other ++ byte ∷ []) bytes)
        → length (cond b (front ∷ split_at_ends [] bytes) (split_at_ends (front ++ byte ∷ []) bytes))
        ≡ length (cond b (other ∷ split_at_ends [] bytes) (split_at_ends (other ++ byte ∷ []) bytes))
    by_test true same = refl
    by_test false same = same

-- one byte more: a line more where it is a line end
pub count_more : (bytes : List ℕ) (at : ℕ) (byte : ℕ) → at < length bytes → byte ≡ get_or bytes at 0
    → length (split_at_ends [] (drop at bytes)) ≡ cond (eqb byte 10) 1 0 + length (split_at_ends [] (drop (at + 1) bytes))
count_more bytes at byte below same =
    ap (λ l. length (split_at_ends [] l)) (drop-cons bytes at 0 below ∙ ap (λ b. b ∷ drop (suc at) bytes) (sym same) ∙ ap (λ n. byte ∷ drop n bytes) (sym (add-one at)))
    ∙ by_test (eqb byte 10)
  where
    rest : List ℕ
    rest = drop (at + 1) bytes

    by_test : (b : Bool) → length (cond b ([] ∷ split_at_ends [] rest) (split_at_ends (byte ∷ []) rest)) ≡ cond b 1 0 + length (split_at_ends [] rest)
    by_test true = omega arith
    by_test false = let any = count_any (byte ∷ []) [] rest in omega (arith, any)

-- the bytes from a line's start to a place
abbrev pub so_far : List ℕ → ℕ → ℕ → List ℕ
so_far bytes start at = take (at - start) (drop start bytes)

-- what is left from a place on
left_from : (bytes : List ℕ) (start at : ℕ) (byte : ℕ) → at < length bytes → byte ≡ get_or bytes at 0
    → split_at_ends (so_far bytes start at) (drop at bytes)
    ≡ cond (eqb byte 10) (so_far bytes start at ∷ split_at_ends [] (drop (at + 1) bytes)) (split_at_ends (so_far bytes start at ++ byte ∷ []) (drop (at + 1) bytes))
left_from bytes start at byte below same =
    ap (split_at_ends (so_far bytes start at)) (drop-cons bytes at 0 below ∙ ap (λ b. b ∷ drop (suc at) bytes) (sym same) ∙ ap (λ n. byte ∷ drop n bytes) (sym (add-one at)))

-- a byte that is no line end belongs to the line
pub line_goes_on : (bytes : List ℕ) (start at left : ℕ) (byte : ℕ) → start ≤ at → at < length bytes → byte ≡ get_or bytes at 0 → eqb byte 10 ≡ false
    → get_or (split_at_ends (so_far bytes start at) (drop at bytes)) left []
    ≡ get_or (split_at_ends (so_far bytes start (at + 1)) (drop (at + 1) bytes)) left []
line_goes_on bytes start at left byte behind below same other =
    let again : start + (at - start) ≡ at = omega (arith, behind) in
    let more : at + 1 - start ≡ at - start + 1 = omega (arith, behind) in
    let room : at - start < length (drop start bytes) = omega (arith, length-drop start bytes, below, behind) in
    let here : get_or (drop start bytes) (at - start) 0 ≡ byte = get_or-drop start bytes (at - start) 0 ∙ ap (λ n. get_or bytes n 0) again ∙ sym same in
    ap (λ l. get_or l left []) (left_from bytes start at byte below same)
    ∙ ap (λ b. get_or (cond b (so_far bytes start at ∷ split_at_ends [] (drop (at + 1) bytes)) (split_at_ends (so_far bytes start at ++ byte ∷ []) (drop (at + 1) bytes))) left []) other
    ∙ ap (λ l. get_or (split_at_ends l (drop (at + 1) bytes)) left [])
    (ap (λ b. so_far bytes start at ++ b ∷ []) (sym here) ∙ sym (take_more (drop start bytes) (at - start) 0 room) ∙ ap (λ n. take n (drop start bytes)) (sym more))

-- a line end ends the line that is looked for
pub line_ends_here : (bytes : List ℕ) (start at : ℕ) (byte : ℕ) → at < length bytes → byte ≡ get_or bytes at 0 → eqb byte 10 ≡ true
    → get_or (split_at_ends (so_far bytes start at) (drop at bytes)) 0 [] ≡ so_far bytes start at
line_ends_here bytes start at byte below same end =
    ap (λ l. get_or l 0 []) (left_from bytes start at byte below same)
    ∙ ap (λ b. get_or (cond b (so_far bytes start at ∷ split_at_ends [] (drop (at + 1) bytes)) (split_at_ends (so_far bytes start at ++ byte ∷ []) (drop (at + 1) bytes))) 0 []) end

-- a line end ends a line before
pub next_line : (bytes : List ℕ) (start at left : ℕ) (byte : ℕ) → at < length bytes → byte ≡ get_or bytes at 0 → eqb byte 10 ≡ true → 0 < left
    → get_or (split_at_ends (so_far bytes start at) (drop at bytes)) left []
    ≡ get_or (split_at_ends (so_far bytes (at + 1) (at + 1)) (drop (at + 1) bytes)) (left - 1) []
next_line bytes start at left byte below same end some =
    let one : left ≡ suc (left - 1) = omega (arith, some) in
    let none : at + 1 - (at + 1) ≡ 0 = omega arith in
    ap (λ l. get_or l left []) (left_from bytes start at byte below same)
    ∙ ap (λ b. get_or (cond b (so_far bytes start at ∷ split_at_ends [] (drop (at + 1) bytes)) (split_at_ends (so_far bytes start at ++ byte ∷ []) (drop (at + 1) bytes))) left []) end
    ∙ ap (λ n. get_or (so_far bytes start at ∷ split_at_ends [] (drop (at + 1) bytes)) n []) one
    ∙ ap (λ n. get_or (split_at_ends (take n (drop (at + 1) bytes)) (drop (at + 1) bytes)) (left - 1) []) (sym none)
