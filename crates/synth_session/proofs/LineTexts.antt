-- Bytes put one by one into a typed line.
use Rattle.std.proofs.Common.{◌≡◌, ℕ, zero, suc, ◌≤◌, ◌<◌, List, [], ◌∷◌, ◌++◌, length, take, refl, sym, ap, ◌∙◌, arith}
use Rattle.std.proofs.lemmas.List.{append_assoc, append-nil, length-append, take_all}
use Rattle.plcs_base.specs.Put.{PutsAll, puts_nothing, puts_next}
use Rattle.synth_session.specs.declared.typed_line.LineText.{LineText}
use Rattle.synth_session.specs.declared.typed_line.TheConstants.{LINE_LIMIT}
use Rattle.synth_session.specs.Private.LineText.{PutsInLine}

-- a front with bytes behind it has the front that the whole has
pub take_again : (n : ℕ) (xs ys : List ℕ) → take n (take n xs ++ ys) ≡ take n (xs ++ ys)
take_again zero xs ys = refl
take_again (suc n) [] ys = refl
take_again (suc n) (x ∷ xs) ys = ap (λ l. x ∷ l) (take_again n xs ys)

-- a front is no longer than it may be
pub front_short : (n : ℕ) (xs : List ℕ) → length (take n xs) ≤ n
front_short zero xs = omega arith
front_short (suc n) [] = omega arith
front_short (suc n) (x ∷ xs) = let short = front_short n xs in omega (arith, short)

-- bytes put one after the other come behind the text, as far as the line has room
pub puts_text : {before after : LineText} {bytes : List ℕ} → length before.bytes.items ≤ LINE_LIMIT
    → PutsAll PutsInLine before bytes after → after.bytes.items ≡ take LINE_LIMIT (before.bytes.items ++ bytes)
puts_text {before = before} fits puts_nothing =
    sym (ap (take LINE_LIMIT) (append-nil before.bytes.items) ∙ take_all LINE_LIMIT before.bytes.items fits)
puts_text {before = before} {bytes = byte ∷ bytes} fits (puts_next {between = between} put rest) =
    puts_text (rw put (front_short LINE_LIMIT (before.bytes.items ++ byte ∷ []))) rest
    ∙ ap (λ front. take LINE_LIMIT (front ++ bytes)) put
    ∙ take_again LINE_LIMIT (before.bytes.items ++ byte ∷ []) bytes
    ∙ ap (take LINE_LIMIT) (append_assoc before.bytes.items (byte ∷ []) bytes)

-- a byte that the line has room for
pub put_within : (xs : List ℕ) (byte : ℕ) → length xs < LINE_LIMIT → xs ++ byte ∷ [] ≡ take LINE_LIMIT (xs ++ byte ∷ [])
put_within xs byte room = sym (take_all LINE_LIMIT (xs ++ byte ∷ []) (let one = length-append xs (byte ∷ []) in omega (arith, one)))

-- a byte that it has no room for
pub put_beyond : (n : ℕ) (xs ys : List ℕ) → length xs ≡ n → xs ≡ take n (xs ++ ys)
put_beyond zero [] ys full = refl
put_beyond zero (x ∷ xs) ys full = absurd (cc)
put_beyond (suc n) [] ys full = absurd (cc)
put_beyond (suc n) (x ∷ xs) ys full = ap (λ l. x ∷ l) (put_beyond n xs ys (let e = full in omega (arith, e)))

-- a text that fits, put into an empty line
pub whole_text : {before after : LineText} (bytes : List ℕ) → before.bytes.items ≡ [] → PutsAll PutsInLine before bytes after
    → length bytes ≤ LINE_LIMIT → after.bytes.items ≡ bytes
whole_text {before = before} bytes empty puts short =
    puts_text (let none = ap length empty in omega (arith, none)) puts
    ∙ ap (λ front. take LINE_LIMIT (front ++ bytes)) empty
    ∙ take_all LINE_LIMIT bytes short
