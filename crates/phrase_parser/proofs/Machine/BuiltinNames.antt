-- The built-in function of a name.
use Rattle.std.proofs.Common.{◌≡◌, refl, true, true≢false, not, ℕ, List, Option, Some, None, ap, sym, bytes_eq, is_some, IsTrue}
use Rattle.std.proofs.lemmas.Slice.Eq.{bytes_eq-Decides}
use Rattle.plcs_grammar.specs.declared.builtin.Builtin.{Builtin}
use Rattle.plcs_grammar.specs.declared.builtin.Builtin.TheVariants.{Abs, Mod, Min, Max, Length, Substr, Index}
use Rattle.plcs_grammar.specs.Builtin.{builtin_name, builtins, builtin_of, is_builtin_name}
use Rattle.phrase_parser.proofs.FoundElements.{found_passes}

-- each built-in function is found by its name
pub builtin_of_name : (function : Builtin) → builtin_of (builtin_name function) ≡ Some function
builtin_of_name Abs = refl
builtin_of_name Mod = refl
builtin_of_name Min = refl
builtin_of_name Max = refl
builtin_of_name Length = refl
builtin_of_name Substr = refl
builtin_of_name Index = refl

none_if : {X : Type 0} (found : Option X) → not (is_some found) ≡ true → found ≡ None
none_if None h = refl
none_if (Some x) h = absurd (true≢false (sym h))

-- a name that is no built-in function's finds none
pub no_builtin : (name : List ℕ) → IsTrue (not (is_builtin_name name)) → builtin_of name ≡ None
unfolding is_builtin_name
no_builtin name h = none_if (builtin_of name) h

-- a name that finds no built-in function is none's
pub builtin_missing : (name : List ℕ) → builtin_of name ≡ None → IsTrue (not (is_builtin_name name))
unfolding is_builtin_name
builtin_missing name h = ap (λ (found : Option Builtin). not (is_some found)) h

-- a name that finds a built-in function is a built-in function's
pub builtin_known : (name : List ℕ) (function : Builtin) → builtin_of name ≡ Some function → is_builtin_name name ≡ true
unfolding is_builtin_name
builtin_known name function h = ap (λ (found : Option Builtin). is_some found) h

-- a name that finds a built-in function is its name
pub builtin_found : (name : List ℕ) (function : Builtin) → builtin_of name ≡ Some function → name ≡ builtin_name function
builtin_found name function h =
    (bytes_eq-Decides name (builtin_name function)).0 (found_passes (λ f. bytes_eq name (builtin_name f)) builtins function h)
