-- Bytes that wait at the front of others: what waits once a piece was written behind them, of which so many bytes count.
use Rattle.std.proofs.Common.{ℕ, ◌≡◌, ◌+◌, ◌-◌, ◌*◌, ◌≤◌, List, ◌++◌, length, take, drop, sym, ap, ◌∙◌, arith, append_assoc, length-drop, length-take-le, take-append-drop, take-take}
use Rattle.std.proofs.Math.Seq.{take-append-add}

-- where a piece was written, the front of it that counts waits
pub taken_more : (old new piece : List ℕ) (count size more : ℕ) → count ≤ length old → more ≤ size
    → take (count + size) new ≡ take count old ++ piece → take (count + more) new ≡ take count old ++ take more piece
taken_more old new piece count size more there within written =
    let front = take count old in
    let same : count ≡ length front = sym (length-take-le count old there) in
    sym (take-take (count + more) (count + size) new (omega (arith, within)))
    ∙ ap (take (count + more)) written
    ∙ ap (λ n. take (n + more) (front ++ piece)) same
    ∙ take-append-add front piece more

-- where the two ends of a piece were written that leave nothing between them, the whole piece waits
pub taken_by_ends : (old once new piece first last : List ℕ) (start ends : ℕ)
    → start ≤ length old → ends ≤ length piece → length piece ≤ 2 * ends
    → first ≡ take ends piece → last ≡ drop (length piece - ends) piece
    → take (start + length first) once ≡ take start old ++ first
    → take (start + length piece - ends + length last) new ≡ take (start + length piece - ends) once ++ last
    → take (start + length piece) new ≡ take start old ++ piece
taken_by_ends old once new piece first last start ends there some all first_is last_is one two =
    let more = length piece - ends in
    let front = take start old in
    let within : more ≤ ends = omega (arith, all) in
    let first_long : length first ≡ ends = ap length first_is ∙ length-take-le ends piece some in
    let last_long : length last ≡ length piece - more = ap length last_is ∙ length-drop more piece in
    let whole : start + length piece ≡ start + length piece - ends + length last = omega (arith, some, last_long) in
    let place : start + length piece - ends ≡ start + more = omega (arith, some) in
    let there_is : take (start + ends) once ≡ front ++ first = ap (λ n. take (start + n) once) (sym first_long) ∙ one in
    ap (λ n. take n new) whole ∙ two
    ∙ ap (λ n. take n once ++ last) place
    ∙ ap (λ z. z ++ last) (taken_more old once first start ends more there within there_is)
    ∙ ap (λ z. (front ++ take more z) ++ last) first_is
    ∙ ap (λ z. (front ++ z) ++ last) (take-take more ends piece within)
    ∙ ap (λ z. (front ++ take more piece) ++ z) last_is
    ∙ append_assoc front (take more piece) (drop more piece)
    ∙ ap (λ z. front ++ z) (take-append-drop more piece)
