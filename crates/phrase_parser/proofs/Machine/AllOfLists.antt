-- What holds of each element of two lists holds of each of both together, and the other way round.
use Rattle.std.proofs.Common.{List, [], ◌∷◌, ◌++◌}
use Rattle.std.specs.List.{AllByRecursion}

module _ {X : Type 0} (P : X → Type 0) where
  -- what holds of each element of two lists holds of each of both together
  pub all_append : (xs ys : List X) → AllByRecursion P xs → AllByRecursion P ys → AllByRecursion P (xs ++ ys)
  all_append [] ys h k = k
  all_append (x ∷ xs) ys h k = (h.0, all_append xs ys h.1 k)

  -- what holds of each element of two lists together holds of each of the two
  pub append_all : (xs ys : List X) → AllByRecursion P (xs ++ ys) → AllByRecursion P xs × AllByRecursion P ys
  append_all [] ys h = (tt, h)
  append_all (x ∷ xs) ys h = let r = append_all xs ys h.1 in ((h.0, r.0), r.1)
