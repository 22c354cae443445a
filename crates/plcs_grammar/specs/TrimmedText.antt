-- Texts without the blanks at their ends.
use Rattle.std.specs.Prelude.{ℕ, List, reverse}
use Rattle.plcs_grammar.specs.Cuts.{unblanked}

-- a whole text that isn't cut into tokens, without the blanks at both its ends, as a comment's is read
abbrev pub trimmed : List ℕ → List ℕ
trimmed x = reverse (unblanked (reverse (unblanked x)))
