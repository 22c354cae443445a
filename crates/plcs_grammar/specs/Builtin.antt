-- The names of the built-in functions, which are reserved.
use Rattle.std.specs.Prelude.{ℕ, Bool, List, [], ◌∷◌, codes, bytes_eq, find, Option, is_some}
use Rattle.plcs_grammar.specs.declared.builtin.Builtin.{Builtin}
use Rattle.plcs_grammar.specs.declared.builtin.Builtin.TheVariants.{Abs, Mod, Min, Max, Length, Substr, Index}

-- how a built-in function is written
abbrev pub builtin_name : Builtin → List ℕ
builtin_name Abs = codes "ABS"
builtin_name Mod = codes "MOD"
builtin_name Min = codes "MIN"
builtin_name Max = codes "MAX"
builtin_name Length = codes "LENGTH"
builtin_name Substr = codes "SUBSTR"
builtin_name Index = codes "INDEX"

-- all built-in functions
abbrev pub builtins : List Builtin
builtins = Abs ∷ Mod ∷ Min ∷ Max ∷ Length ∷ Substr ∷ Index ∷ []

-- the built-in function of the name, if it has one
abbrev pub builtin_of : List ℕ → Option Builtin
builtin_of name = find (λ function. bytes_eq name (builtin_name function)) builtins

-- whether the name is a built-in function's
unfoldable pub is_builtin_name : List ℕ → Bool
is_builtin_name name = is_some (builtin_of name)
