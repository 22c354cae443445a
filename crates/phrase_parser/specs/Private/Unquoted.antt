-- What stands between the quotes of a character constant, each doubled quote once.
use Rattle.std.specs.Prelude.{ℕ, if◌then◌else◌, List, [], ◌∷◌}
use Rattle.plcs_grammar.specs.Token.{is_quote}

abbrev mutual
  -- what stands between the quotes of a character constant, with one quote for each two
  pub undoubled : List ℕ → List ℕ
  undoubled [] = []
  undoubled (byte ∷ rest) = byte ∷ (if is_quote byte then undoubled_behind rest else undoubled rest)

  -- what stands between the quotes of a character constant, with one quote for each two, behind the first quote of two
  pub undoubled_behind : List ℕ → List ℕ
  undoubled_behind [] = []
  undoubled_behind (byte ∷ rest) = undoubled rest
