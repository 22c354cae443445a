-- Lists of which each element and each later one are related.
use Rattle.std.specs.Prelude.{zero, suc, List, [], ◌∷◌, ◌++◌, map, All, AllPairs, slice_index_or}
use Rattle.std.proofs.Common.{arith}
use Rattle.std.proofs.lemmas.List.Elements.{All-append, All-head, All-map, All-tail, All-weaker}

-- each element and each later one are related
abbrev pub Apart : {X : Type 0} → (X → X → Type 0) → List X → Type 0
Apart R [] = Unit {0}
Apart R (x ∷ xs) = All (R x) xs × Apart R xs

-- which is so by their numbers
pub pairs_apart : {X : Type 0} (R : X → X → Type 0) (xs : List X) → Apart R xs → AllPairs R xs
pairs_apart R [] h i j d before within = absurd (omega (arith, within))
pairs_apart R (x ∷ xs) h zero zero d before within = absurd (omega (arith, before))
pairs_apart R (x ∷ xs) h zero (suc j) d before within = h.0 j d (omega (arith, within))
pairs_apart R (x ∷ xs) h (suc i) zero d before within = absurd (omega (arith, before))
pairs_apart R (x ∷ xs) h (suc i) (suc j) d before within = pairs_apart R xs h.1 i j d (omega (arith, before)) (omega (arith, within))

-- the ones and then the others
pub apart_append : {X : Type 0} (R : X → X → Type 0) (xs ys : List X) → Apart R xs → Apart R ys → All (λ x. All (R x) ys) xs → Apart R (xs ++ ys)
apart_append R [] ys h g between = g
apart_append R (x ∷ xs) ys h g between = (
  All-append (R x) xs ys h.0 (All-head (λ other. All (R other) ys) x xs between),
  apart_append R xs ys h.1 g (All-tail (λ other. All (R other) ys) x xs between),
)

-- what is made of each
pub apart_map : {X Y : Type 0} (f : X → Y) (R : Y → Y → Type 0) (xs : List X) → Apart (λ x y. R (f x) (f y)) xs → Apart R (map f xs)
apart_map f R [] h = tt
apart_map f R (x ∷ xs) h = (All-map (R (f x)) f xs h.0, apart_map f R xs h.1)

-- a relation that follows
pub apart_weaker : {X : Type 0} (Q R : X → X → Type 0) → ((x y : X) → Q x y → R x y) → (xs : List X) → Apart Q xs → Apart R xs
apart_weaker Q R law [] h = tt
apart_weaker Q R law (x ∷ xs) h = (All-weaker (Q x) (R x) (λ y g. law x y g) xs h.0, apart_weaker Q R law xs h.1)

-- a relation that always holds
pub apart_any : {X : Type 0} (R : X → X → Type 0) → ((x y : X) → R x y) → (xs : List X) → Apart R xs
apart_any R law [] = tt
apart_any R law (x ∷ xs) = ((λ k d h. law x (slice_index_or xs k d)), apart_any R law xs)
