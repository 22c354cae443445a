-- Bytes of which a sink took a front.
use Rattle.std.proofs.Common.{ℕ, ◌+◌, min, List, [], ◌++◌, Option, length, take, sym, ◌∙◌, subst, append-nil, arith}
use Rattle.std.proofs.lemmas.List.{take_min, take-append-le}
use Rattle.std.proofs.Math.Seq.{take-append-add}
use Rattle.std.proofs.KnownBytes.{Appends-nil, Appends-trans}
use Rattle.std.specs.Io.KnownBytes.{Appends}
use Rattle.synth_outside.specs.Sink.{AppendsFront}

-- a front of xs is one of xs and ys
pub front_first : (a b : Option (List ℕ)) (xs ys : List ℕ) → AppendsFront a b xs → AppendsFront a b (xs ++ ys)
front_first a b xs ys front =
    let count = min front.0 (length xs) in
    (count, subst (Appends a b) (sym (take-append-le count xs ys (omega arith) ∙ take_min front.0 xs)) front.1)

-- all of xs is a front of xs and ys
pub front_all : (a b : Option (List ℕ)) (xs ys : List ℕ) → Appends a b xs → AppendsFront a b (xs ++ ys)
front_all a b xs ys all =
    (length xs + 0, subst (Appends a b) (sym (take-append-add xs ys 0 ∙ append-nil xs)) all)

-- all of xs is a front of xs
pub front_whole : (a b : Option (List ℕ)) (xs : List ℕ) → Appends a b xs → AppendsFront a b xs
front_whole a b xs all = subst (AppendsFront a b) (append-nil xs) (front_all a b xs [] all)

-- nothing is a front of xs
pub front_none : (a : Option (List ℕ)) (xs : List ℕ) → AppendsFront a a xs
front_none a xs = (0, Appends-nil a)

-- all of xs, and then a front of ys
pub front_behind : (a b c : Option (List ℕ)) (xs ys : List ℕ) → Appends a b xs → AppendsFront b c ys → AppendsFront a c (xs ++ ys)
front_behind a b c xs ys all front =
    (length xs + front.0, subst (Appends a c) (sym (take-append-add xs ys front.0)) (Appends-trans a b c xs (take front.0 ys) all front.1))

-- all of xs, and then a front of ys, is one of xs, ys and zs
pub front_more : (a b c : Option (List ℕ)) (xs ys zs : List ℕ) → Appends a b xs → AppendsFront b c ys → AppendsFront a c (xs ++ (ys ++ zs))
front_more a b c xs ys zs all front = front_behind a b c xs (ys ++ zs) all (front_first b c ys zs front)
