-- Turns of some keys and then of others.
use Rattle.std.proofs.Common.{◌≡◌, ◌+◌, ℕ, Bool, true, false, ◌||◌, List, [], ◌∷◌, ◌++◌, Option, None, refl, sym, ap, subst, ◌∙◌, append_assoc, arith}
use Rattle.std.proofs.lemmas.List.{map-append}
use Rattle.screen_window.specs.Paint.{Paint}
use Rattle.screen_window.specs.PlainGrid.{PlainGrid}
use Rattle.synth_top.specs.Private.Pressing.{last_shown}
use Rattle.synth_top.specs.WholeRun.{painted_over}
use Rattle.synth_top.specs.Turn.{AllCameToEnd, CameToEnd, HaveReplies, LeftAtLast, MayBeLeft, PressedKey, EditorState, Shot, bills, state_after_keys, ends, failures, grids, screens_of, shots, turn}

-- a test that fails, and then another
or_false : (a b : Bool) → a ≡ false → (a || b) ≡ b
or_false a b e = ap (λ c. c || b) e

or_parts : (a b : Bool) → (a || b) ≡ false → (a ≡ false) × (b ≡ false)
or_parts true b e = absurd (cc)
or_parts false b e = (refl, e)

-- the state after
pub after-append : (s : EditorState) (ps qs : List PressedKey) → state_after_keys s (ps ++ qs) ≡ state_after_keys (state_after_keys s ps) qs
after-append s [] qs = refl
after-append s (p ∷ ps) qs = after-append (turn s p).after ps qs

-- where the first don't end the session, the others may
pub ends-going : (s : EditorState) (ps qs : List PressedKey) → ends s ps ≡ false → ends s (ps ++ qs) ≡ ends (state_after_keys s ps) qs
ends-going s [] qs going = refl
ends-going s (p ∷ ps) qs going =
    let parts = or_parts (turn s p).ends (ends (turn s p).after ps) going in
    or_false (turn s p).ends (ends (turn s p).after (ps ++ qs)) parts.0 ∙ ends-going (turn s p).after ps qs parts.1

-- all shots
pub shots-append : (s : EditorState) (ps qs : List PressedKey) → shots s (ps ++ qs) ≡ shots s ps ++ shots (state_after_keys s ps) qs
shots-append s [] qs = refl
shots-append s (p ∷ ps) qs =
    ap (λ l. (turn s p).shots ++ l) (shots-append (turn s p).after ps qs)
    ∙ sym (append_assoc (turn s p).shots (shots (turn s p).after ps) (shots (state_after_keys s (p ∷ ps)) qs))

-- all screens
pub grids-append : (s : EditorState) (ps qs : List PressedKey) → grids s (ps ++ qs) ≡ grids s ps ++ grids (state_after_keys s ps) qs
grids-append s ps qs =
    ap screens_of (shots-append s ps qs) ∙ map-append (λ (shot : Shot). shot.screen) (shots s ps) (shots (state_after_keys s ps) qs)

-- what was replied
pub HaveReplies-append : (s : EditorState) (ps qs : List PressedKey) → HaveReplies s ps → HaveReplies (state_after_keys s ps) qs → HaveReplies s (ps ++ qs)
HaveReplies-append s [] qs first second = second
HaveReplies-append s (p ∷ ps) qs first second = (first.0, HaveReplies-append (turn s p).after ps qs first.1 second)

pub failures-append : (ps qs : List PressedKey) → failures (ps ++ qs) ≡ failures ps + failures qs
failures-append [] qs = omega arith
failures-append (p ∷ ps) qs = let rest = failures-append ps qs in omega (arith, rest)

pub checks-append : (s : EditorState) (ps qs : List PressedKey)
    → (bills s (ps ++ qs)).checks ≡ (bills s ps).checks + (bills (state_after_keys s ps) qs).checks
checks-append s [] qs = omega arith
checks-append s (p ∷ ps) qs = let rest = checks-append (turn s p).after ps qs in omega (arith, rest)

pub emits-append : (s : EditorState) (ps qs : List PressedKey)
    → (bills s (ps ++ qs)).emits ≡ (bills s ps).emits + (bills (state_after_keys s ps) qs).emits
emits-append s [] qs = omega arith
emits-append s (p ∷ ps) qs = let rest = emits-append (turn s p).after ps qs in omega (arith, rest)

-- that none was left before its end, or the last alone
pub AllCameToEnd-append : (ps qs : List PressedKey) → AllCameToEnd ps → AllCameToEnd qs → AllCameToEnd (ps ++ qs)
AllCameToEnd-append [] qs first second = second
AllCameToEnd-append (p ∷ ps) qs first second = (first.0, AllCameToEnd-append ps qs first.1 second)

ended_may : (s : EditorState) (p : PressedKey) (left : Option ℕ) → left ≡ None → MayBeLeft s p left
ended_may s p left ended = subst (MayBeLeft s p) (sym ended) tt

pub ended_left : (s : EditorState) (ps : List PressedKey) → AllCameToEnd ps → LeftAtLast s ps
ended_left s [] ended = tt
ended_left s (p ∷ []) ended = ended_may s p p.left_after ended.0
ended_left s (p ∷ q ∷ ps) ended = (ended.0, ended_left (turn s p).after (q ∷ ps) ended.1)

left_before : (s : EditorState) (p : PressedKey) (qs : List PressedKey) → CameToEnd p → LeftAtLast (turn s p).after qs → LeftAtLast s (p ∷ qs)
left_before s p [] ended left = ended_may s p p.left_after ended
left_before s p (q ∷ qs) ended left = (ended, left)

pub LeftAtLast-append : (s : EditorState) (ps qs : List PressedKey) → AllCameToEnd ps → LeftAtLast (state_after_keys s ps) qs → LeftAtLast s (ps ++ qs)
LeftAtLast-append s [] qs ended left = left
LeftAtLast-append s (p ∷ ps) qs ended left =
    left_before s p (ps ++ qs) ended.0 (LeftAtLast-append (turn s p).after ps qs ended.1 left)

-- some screens, and then others over the last of them
pub painted_over-append : (g : PlainGrid) (xs ys : List PlainGrid) → painted_over g (xs ++ ys) ≡ painted_over g xs ++ painted_over (last_shown g xs) ys
painted_over-append g [] ys = refl
painted_over-append g (x ∷ xs) ys =
    ap (λ l. Paint g x ++ l) (painted_over-append x xs ys) ∙ sym (append_assoc (Paint g x) (painted_over x xs) (painted_over (last_shown x xs) ys))

pub last_shown-append : (g : PlainGrid) (xs ys : List PlainGrid) → last_shown g (xs ++ ys) ≡ last_shown (last_shown g xs) ys
last_shown-append g [] ys = refl
last_shown-append g (x ∷ xs) ys = last_shown-append x xs ys
