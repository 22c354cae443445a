-- What stands between the elements of a list that is shown.
use Rattle.std.specs.Prelude.{ℕ, zero, suc, List, []}
use Rattle.plcs_grammar.specs.Canon.{comma}

-- what stands before the element of this number, counted from 0
abbrev pub separator : ℕ → List ℕ
separator zero = []
separator (suc number) = comma
