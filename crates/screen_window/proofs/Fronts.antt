-- Bytes of which a sink took a front.
use Rattle.std.proofs.Common.{◌≡◌, ℕ, ◌+◌, ◌-◌, min, List, ◌++◌, Option, length, take, drop, sym, ◌∙◌, subst, arith}
use Rattle.std.proofs.lemmas.List.{take_min, take_all, take-append-le, length-drop}
use Rattle.std.proofs.Math.Seq.{take-add, take-append-add}
use Rattle.std.proofs.KnownBytes.{Appends-trans}
use Rattle.std.specs.Io.KnownBytes.{Appends}
use Rattle.synth_outside.specs.Sink.{AppendsFront}

-- the bytes before `at`, and then some of those behind
pub Appends-more : (a b c : Option (List ℕ)) (piece : List ℕ) (at count : ℕ) → Appends a b (take at piece) → Appends b c (take count (drop at piece))
    → Appends a c (take (at + count) piece)
Appends-more a b c piece at count first second =
    subst (Appends a c) (sym (take-add at count piece)) (Appends-trans a b c (take at piece) (take count (drop at piece)) first second)

-- the bytes before `at`, and then a front of those behind
pub AppendsFront-more : (a b c : Option (List ℕ)) (piece : List ℕ) (at : ℕ) → Appends a b (take at piece) → AppendsFront b c (drop at piece)
    → AppendsFront a c piece
AppendsFront-more a b c piece at first front = (at + front.0, Appends-more a b c piece at front.0 first front.1)

-- all of xs, and then a front of ys
pub AppendsFront-append : (a b c : Option (List ℕ)) (xs ys : List ℕ) → Appends a b xs → AppendsFront b c ys → AppendsFront a c (xs ++ ys)
AppendsFront-append a b c xs ys all front =
    (length xs + front.0, subst (Appends a c) (sym (take-append-add xs ys front.0)) (Appends-trans a b c xs (take front.0 ys) all front.1))

-- a front of xs is one of xs and ys
pub AppendsFront-first : (a b : Option (List ℕ)) (xs ys : List ℕ) → AppendsFront a b xs → AppendsFront a b (xs ++ ys)
AppendsFront-first a b xs ys front =
    let count = min front.0 (length xs) in
    (count, subst (Appends a b) (sym (take-append-le count xs ys (omega arith) ∙ take_min front.0 xs)) front.1)

-- what lies behind a place, as a slice from there on
pub take-rest : (piece : List ℕ) (at : ℕ) → take (length piece - at) (drop at piece) ≡ drop at piece
take-rest piece at = take_all (length piece - at) (drop at piece) (omega (arith, length-drop at piece))
