-- The names of the built-in functions by their length: a name is compared with those of its length alone.
use Rattle.std.proofs.Common.{◌≡◌, ℕ, Bool, true, false, true≢false, ◌||◌, ◌==◌, if◌then◌else◌, List, [], ◌∷◌, length, Option, Some, None, refl, sym, ap, ◌∙◌}
use Rattle.std.specs.Prelude.{bytes_eq, find}
use Rattle.std.proofs.lemmas.Bool.{false_from_ne_true, or_parts, eq-eqb}
use Rattle.std.proofs.lemmas.Slice.Eq.{bytes_eq-Decides}
use Rattle.plcs_grammar.specs.declared.builtin.Builtin.{Builtin}
use Rattle.plcs_grammar.specs.Builtin.{builtin_name, builtin_of, builtins}

-- the first of the functions that has the name
abbrev pub first_named : List ℕ → List Builtin → Option Builtin
first_named name functions = find (λ function. bytes_eq name (builtin_name function)) functions

-- those of the functions whose names have so many letters
abbrev pub of_length : ℕ → List Builtin → List Builtin
of_length n [] = []
of_length n (function ∷ functions) =
    if n == length (builtin_name function) then function ∷ of_length n functions else of_length n functions

-- a name of another length isn't the function's
other_length : (name own : List ℕ) → (length name == length own) ≡ false → bytes_eq name own ≡ false
other_length name own other =
    false_from_ne_true (bytes_eq name own)
    (λ same. true≢false (sym (eq-eqb (length name) (length own) (ap length ((bytes_eq-Decides name own).0 same))) ∙ other))

-- the first that has the name is the first of those whose names have its length
first_of_length : (name : List ℕ) (functions : List Builtin)
    → first_named name functions ≡ first_named name (of_length (length name) functions)
first_of_length name [] = refl
first_of_length name (function ∷ functions) =
    go (length name == length (builtin_name function)) refl (first_of_length name functions)
  where
    go : (b : Bool) → (length name == length (builtin_name function)) ≡ b
        → first_named name functions ≡ first_named name (of_length (length name) functions)
        → (if bytes_eq name (builtin_name function) then Some function else first_named name functions)
        ≡ first_named name
        (if b then function ∷ of_length (length name) functions else of_length (length name) functions)
    go true e h =
        ap (λ (others : Option Builtin). if bytes_eq name (builtin_name function) then Some function else others) h
    go false e h = rw (other_length name (builtin_name function) e) h

-- the built-in function of a name of this length is the first of those whose names have this length
pub builtin_of_length : (name : List ℕ) (n : ℕ) → length name ≡ n
    → first_named name (of_length n builtins) ≡ builtin_of name
builtin_of_length name n e =
    sym (first_of_length name builtins ∙ ap (λ k. first_named name (of_length k builtins)) e)

-- whether a built-in function's name has so many letters
abbrev pub has_length : ℕ → Bool
has_length n = (n == 3) || ((n == 5) || (n == 6))

-- no function's name has another length
none_of_length : (n : ℕ) → has_length n ≡ false → of_length n builtins ≡ []
none_of_length n other =
    let three = or_parts (n == 3) ((n == 5) || (n == 6)) other in
    let more = or_parts (n == 5) (n == 6) three.1 in
    rw (three.0, more.0, more.1) refl

-- a name of another length than theirs is no built-in function's
pub no_builtin : (name : List ℕ) → has_length (length name) ≡ false → None ≡ builtin_of name
no_builtin name other =
    sym (first_of_length name builtins ∙ ap (first_named name) (none_of_length (length name) other))
