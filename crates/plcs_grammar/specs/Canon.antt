-- The canonical text of a phrase.
use Rattle.std.specs.Prelude.{ℕ, List, [], ◌∷◌, ◌++◌, codes, decimal, Option, Some, None}
use Rattle.std.specs.Fmt.{signed_decimal}
use Rattle.plcs_grammar.specs.declared.item.Item.{Item}
use Rattle.plcs_grammar.specs.declared.sign.Sign.{Sign}
use Rattle.plcs_grammar.specs.declared.category.Category.{Category}
use Rattle.plcs_grammar.specs.Builtin.{builtin_name}
use Rattle.plcs_grammar.specs.Sign.{sign_bytes, prefix_sign, infix_sign}
use Rattle.plcs_grammar.specs.Token.{quoted, bit_bytes}
use Rattle.plcs_grammar.specs.PlainPhrase.{PlainExpr, PlainExprs, PlainVarRef, PlainPhrase}
use Rattle.plcs_grammar.specs.Reads.{Reads}

-- a canonical text in parentheses, with no blank inside
abbrev pub parenthesized_bytes : List ℕ → List ℕ
parenthesized_bytes bytes = codes "(" ++ (bytes ++ codes ")")

-- a canonical text behind a sign that has a blank on each side
abbrev pub behind_sign : Sign → List ℕ → List ℕ
behind_sign sign bytes = codes " " ++ (sign_bytes sign ++ (codes " " ++ bytes))

-- what stands in a canonical text between the elements of a list: a comma and a blank
abbrev pub comma : List ℕ
comma = codes ", "

abbrev mutual
  -- the canonical text of an expression
  pub canon : PlainExpr → List ℕ
  canon (PlainExpr.number z) = signed_decimal z
  canon (PlainExpr.text value) = quoted value
  canon (PlainExpr.bit value) = bit_bytes value
  canon (PlainExpr.variable reference) = canon_reference reference
  canon (PlainExpr.unary op a) = sign_bytes (prefix_sign op) ++ canon a
  canon (PlainExpr.binary op a b) = canon a ++ behind_sign (infix_sign op) (canon b)
  canon (PlainExpr.builtin function arguments) = builtin_name function ++ parenthesized_bytes (canon_list arguments)
  canon (PlainExpr.parenthesized a) = codes "( " ++ (canon a ++ codes " )")

  -- the canonical text of a variable
  pub canon_reference : PlainVarRef → List ℕ
  canon_reference (PlainVarRef.simple name) = name
  canon_reference (PlainVarRef.subscripted name index) = name ++ parenthesized_bytes (canon index)

  -- the canonical texts of expressions, joined by a comma and a blank
  pub canon_list : PlainExprs → List ℕ
  canon_list PlainExprs.nil = []
  canon_list (PlainExprs.cons a rest) = canon a ++ canon_behind rest

  -- the canonical texts of the expressions behind the first one of a list, each behind its comma
  pub canon_behind : PlainExprs → List ℕ
  canon_behind PlainExprs.nil = []
  canon_behind (PlainExprs.cons a rest) = comma ++ (canon a ++ canon_behind rest)

module _ {X : Type 0} (bytes_of : X → List ℕ) where
  -- in the canonical text of a list of whatever kind, the texts of the elements behind the first one, each behind a
  -- comma and a blank
  abbrev pub more_joined : List X → List ℕ
  more_joined [] = []
  more_joined (x ∷ xs) = comma ++ (bytes_of x ++ more_joined xs)

  -- the canonical texts of a list's elements, of whatever kind, joined by a comma and a blank
  abbrev pub joined : List X → List ℕ
  joined [] = []
  joined (x ∷ xs) = bytes_of x ++ more_joined xs

-- the canonical text of a declared name, with the size of an array or without one
abbrev pub canon_sized : List ℕ → Option ℕ → List ℕ
canon_sized name None = name
canon_sized name (Some size) = name ++ parenthesized_bytes (decimal size)

-- the canonical text of a declared item
abbrev pub canon_item : Item → List ℕ
canon_item item = canon_sized item.name item.size

-- the canonical text of a call of a procedure; without arguments it has no parentheses
abbrev pub canon_call : List ℕ → PlainExprs → List ℕ
canon_call name PlainExprs.nil = name
canon_call name (PlainExprs.cons a rest) = name ++ parenthesized_bytes (canon_list (PlainExprs.cons a rest))

-- the canonical text of a phrase
abbrev pub Canon : PlainPhrase → List ℕ
Canon (PlainPhrase.assignment target value) = canon_reference target ++ behind_sign Sign.Equal (canon value)
Canon (PlainPhrase.condition e) = canon e
Canon (PlainPhrase.expression e) = canon e
Canon (PlainPhrase.expression_list es) = canon_list es
Canon (PlainPhrase.variable_list targets) = joined canon_reference targets
Canon (PlainPhrase.variable_name name) = name
Canon (PlainPhrase.call name arguments) = canon_call name arguments
Canon (PlainPhrase.declared_list items) = joined canon_item items
Canon (PlainPhrase.procedure_name name) = name
Canon (PlainPhrase.name_list names) = joined (λ name. name) names
Canon (PlainPhrase.greatest_length n) = decimal n
Canon (PlainPhrase.comment bytes) = bytes

-- the greatest length that the canonical text of a phrase is told to have; a longer one is told to have it too
abbrev pub longest_shown : ℕ
longest_shown = 4294967295

-- the canonical text of a phrase gives it back, so that the phrase is well formed: the text reads as that same phrase
abbrev pub IsWellFormed : Category → PlainPhrase → Type 0
IsWellFormed category phrase = Reads category (Canon phrase) phrase
