-- Which tokens are which phrase, category by category, and which tokens begin one. (Which bytes are a token: `Token`.
-- Which text is a phrase: `Reads`.)
use Rattle.std.specs.Prelude.{◌≡◌, ℕ, ◌≤◌, List, [], ◌∷◌, ◌++◌, Option, Some, None}
use Rattle.plcs_base.specs.Text.{longest_text}
use Rattle.plcs_grammar.specs.declared.category.Category.{Category}
use Rattle.plcs_grammar.specs.declared.item.Item.{Item}
use Rattle.plcs_grammar.specs.declared.sign.Sign.{Sign}
use Rattle.plcs_grammar.specs.Token.{Token}
use Rattle.plcs_grammar.specs.ListForm.{IsListOf}
use Rattle.plcs_grammar.specs.PlainPhrase.{PlainExprs, PlainPhrase, category_of}
use Rattle.plcs_grammar.specs.Level.{Level, IsNameToken, IsReference, IsExprList, in_parentheses}

-- the tokens are a name of a declared list, with the size of an array, which is at least 1, or without one
abbrev pub IsSizedName : List ℕ → Option ℕ → List Token → Type 0
IsSizedName name None tokens = IsNameToken name tokens
IsSizedName name (Some size) tokens = (1 ≤ size) × (tokens ≡ Token.name name ∷ in_parentheses (Token.number size ∷ []))

-- the tokens are a declared item, an element of the phrase that is a declared list
abbrev pub IsItem : Item → List Token → Type 0
IsItem item tokens = IsSizedName item.name item.size tokens

-- the tokens are the phrase that is a call of a procedure: a name, or a name and arguments in parentheses
abbrev pub IsCall : List ℕ → PlainExprs → List Token → Type 0
IsCall name PlainExprs.nil tokens = IsNameToken name tokens
IsCall name (PlainExprs.cons a rest) tokens =
    (inner : List Token) × (tokens ≡ Token.name name ∷ in_parentheses inner) × IsExprList (PlainExprs.cons a rest) inner

-- the tokens are the phrase, of whatever category it is
abbrev pub IsPhrase : PlainPhrase → List Token → Type 0
IsPhrase (PlainPhrase.assignment target value) tokens =
    (left right : List Token) × (tokens ≡ left ++ (Token.sign Sign.Equal ∷ right)) × IsReference target left
    × Level value 1 right
IsPhrase (PlainPhrase.condition e) tokens = Level e 1 tokens
IsPhrase (PlainPhrase.expression e) tokens = Level e 1 tokens
IsPhrase (PlainPhrase.expression_list es) tokens = IsExprList es tokens
IsPhrase (PlainPhrase.variable_list targets) tokens = IsListOf IsReference targets tokens
IsPhrase (PlainPhrase.variable_name name) tokens = IsNameToken name tokens
IsPhrase (PlainPhrase.call name arguments) tokens = IsCall name arguments tokens
IsPhrase (PlainPhrase.declared_list items) tokens = IsListOf IsItem items tokens
IsPhrase (PlainPhrase.procedure_name name) tokens = IsNameToken name tokens
IsPhrase (PlainPhrase.name_list names) tokens = IsListOf IsNameToken names tokens
IsPhrase (PlainPhrase.greatest_length n) tokens = (1 ≤ n) × (n ≤ longest_text) × (tokens ≡ Token.number n ∷ [])
IsPhrase (PlainPhrase.comment bytes) tokens = ⊥

-- the tokens are the phrase, which is of the category
abbrev pub Form : Category → List Token → PlainPhrase → Type 0
Form category tokens phrase = (category_of phrase ≡ category) × IsPhrase phrase tokens

-- the tokens, followed by some further ones, are a phrase of the category; the further names and texts may be of any
-- bytes, since wherever such a one can stand a real one can
abbrev pub Begins : Category → List Token → Type 0
Begins category tokens = (more : List Token) × (phrase : PlainPhrase) × Form category (tokens ++ more) phrase
