-- The parts of a line, and the fixed texts that divide them.
use Rattle.std.specs.Prelude.{◌≡◌, ◌⊎◌, ℕ, Bool, false, ◌&&◌, not, nat_eq, if◌then◌else◌, List, [], ◌∷◌, ◌++◌, drop, length, codes, Option, Some, None, IsTrue}
use Rattle.std.specs.List.{starts_with}
use Rattle.plcs_grammar.specs.declared.category.Category.{Category}
use Rattle.plcs_grammar.specs.declared.category.Category.TheVariants.{Expression, Variable, DeclaredList, ProcedureName, Length}
use Rattle.plcs_base.specs.Name.{is_keyword}
use Rattle.plcs_grammar.specs.Token.{is_quote, EndsWord}
use Rattle.plcs_grammar.specs.PlainPhrase.{PlainPhrase}
use Rattle.plcs_grammar.specs.Canon.{Canon, IsWellFormed}
use Rattle.plcs_grammar.specs.Placeholder.{placeholder}

-- what stands before and behind a divider, if there is one, with more in front of the first
abbrev pub with_front : List ℕ → Option (List ℕ × List ℕ) → Option (List ℕ × List ℕ)
with_front front None = None
with_front front (Some parts) = Some (front ++ parts.0, parts.1)

-- whether what follows a byte of a line is inside of quotes; each quote changes it, so two that stand for one leave it
abbrev pub is_quoted_behind : Bool → ℕ → Bool
is_quoted_behind inside byte = if is_quote byte then not inside else inside

-- what stands before and behind the first divider outside of quotes, in a line that begins inside of quotes or outside
abbrev pub cut_from : Bool → List ℕ → List ℕ → Option (List ℕ × List ℕ)
cut_from inside divider [] = None
cut_from inside divider (byte ∷ rest) =
    if not inside && starts_with nat_eq (byte ∷ rest) divider then Some ([], drop (length divider) (byte ∷ rest))
    else with_front (byte ∷ []) (cut_from (is_quoted_behind inside byte) divider rest)

-- what stands before and behind the first divider outside of quotes, in a line that begins outside of quotes
abbrev pub cut_at : List ℕ → List ℕ → Option (List ℕ × List ℕ)
cut_at divider text = cut_from false divider text

-- the fixed texts that divide the parts of a line of a listing: those that stand behind a part of a category
pub data Divides : Category → List ℕ → Type 0 where
  -- `DO {variable} = {expression} TO {expression} BY {expression};`
  first_value : Divides Variable (codes " = ")
  limit : Divides Expression (codes " TO ")
  step : Divides Expression (codes " BY ")
  -- `DECLARE ( {names} ) FIXED;`, `.. BIT;` and `DECLARE ( {names} ) CHARACTER ( {length} ) VARYING;`
  declared : Divides DeclaredList (codes " ) ")
  character : Divides DeclaredList (codes " ) CHARACTER ( ")
  varying : Divides Length (codes " ) VARYING;")
  -- `{name}: PROCEDURE;` and `{name}: PROCEDURE ( {parameters} );`
  procedure : Divides ProcedureName (codes ": PROCEDURE")
  parameters : Divides ProcedureName (codes ": PROCEDURE ( ")

-- the text of a part of a line: the canonical text of a well-formed phrase of the category, or its placeholder
abbrev pub IsPartOfLine : Category → List ℕ → Type 0
IsPartOfLine category x =
    ((phrase : PlainPhrase) × IsWellFormed category phrase × (x ≡ Canon phrase)) ⊎ (x ≡ placeholder category)

-- the line begins with a keyword, behind which a word ends, as no part begins but a comment's
pub record BeginsWithKeyword (x : List ℕ) : Type 0 where
  pub word : List ℕ
  pub behind : List ℕ
  pub whole : x ≡ word ++ behind
  pub keyword : IsTrue (is_keyword word)
  pub ends : EndsWord behind
