-- The recognizer, the machine without trees: which tokens can stand where, may be a phrase, and open which levels.
use Rattle.std.specs.Prelude.{ℕ, ◌+◌, min, Bool, true, false, ◌&&◌, nat_le, if◌then◌else◌, List, [], ◌∷◌, Option, Some, None}
use Rattle.phrase_parser.specs.Private.PlacedToken.{greatest_kept}
use Rattle.plcs_base.specs.Text.{longest_text}
use Rattle.plcs_grammar.specs.declared.operator.PrefixOp.{PrefixOp}
use Rattle.plcs_grammar.specs.declared.operator.InfixOp.{InfixOp}
use Rattle.plcs_grammar.specs.declared.category.Category.{Category}
use Rattle.plcs_grammar.specs.declared.category.Category.TheVariants.{Assignment, Condition, Expression, ExpressionList, VariableList, Variable, CallRef, DeclaredList, ProcedureName, NameList, Length, CommentText}
use Rattle.plcs_grammar.specs.declared.sign.Sign.{Sign}
use Rattle.plcs_grammar.specs.Token.{Token}
use Rattle.plcs_grammar.specs.Builtin.{is_builtin_name}
use Rattle.phrase_parser.specs.Private.Machine.{prefix_of, infix_of}
use Rattle.phrase_parser.specs.declared.check.token_class.TokenClass.{TokenClass}
use Rattle.phrase_parser.specs.declared.check.ground.Ground.{Ground}
use Rattle.phrase_parser.specs.declared.check.nesting.Bracket.{Bracket}
use Rattle.phrase_parser.specs.declared.check.last.Last.{Last}
use Rattle.phrase_parser.specs.declared.check.purpose.Purpose.{Purpose}

-- the class of a token: what the recognizer looks at of it
abbrev pub class_of : Token → TokenClass
class_of (Token.name n) = TokenClass.Name (is_builtin_name n)
class_of (Token.keyword word) = TokenClass.Keyword
class_of (Token.number n) = TokenClass.Number (min n greatest_kept)
class_of (Token.text value) = TokenClass.Constant
class_of (Token.bit value) = TokenClass.Constant
class_of (Token.sign s) = TokenClass.Sign s

-- how many levels are open on a ground, where the recognizer begins an expression that stands in no other
abbrev pub ground_level : Ground → ℕ
ground_level Ground.Whole = 0
ground_level Ground.Listed = 0
ground_level Ground.TargetIndex = 1
ground_level Ground.VariableIndex = 1
ground_level Ground.CallList = 1

-- a shape of the recognizer: what was read last and what is wanted, without trees
pub data Shape : Type 0 where
  -- the recognizer's shape in which an operand is wanted, in the open parentheses, the innermost first, with so many
  -- levels open
  wanted : Ground → List Bracket → ℕ → Shape
  -- the recognizer's shape in which a part of an expression that may end there was read
  had : Last → Ground → List Bracket → Shape
  -- the recognizer's shapes in which a name is wanted, or was read
  name_wanted : Purpose → Shape
  name_had : Purpose → Shape
  -- the recognizer's shapes after the closing parenthesis of a target's subscript, a variable's subscript or a call's
  -- arguments
  target_had : Shape
  variable_had : Shape
  call_had : Shape
  -- the recognizer's shapes in which the size of an array is wanted, or it or the parenthesis after it was read
  size_wanted : Shape
  size_had : Shape
  item_had : Shape
  -- the recognizer's shapes in which a length is wanted, or was read
  length_wanted : Shape
  length_had : Shape

-- how many levels the open parentheses opened, by the recognizer's count
abbrev pub levels_inside : Ground → List Bracket → ℕ
levels_inside g [] = ground_level g
levels_inside g (bracket ∷ brackets) = bracket.level

-- the recognizer's shape after a name
abbrev pub next_name : Shape → Bool → Option Shape
next_name (wanted g brackets level) is_builtin = Some (had (Last.Named is_builtin level) g brackets)
next_name (name_wanted purpose) is_builtin = Some (name_had purpose)
next_name shape is_builtin = None

-- the recognizer's shape after a constant
abbrev pub next_constant : Shape → Option Shape
next_constant (wanted g brackets level) = Some (had Last.Operand g brackets)
next_constant shape = None

-- the recognizer's shape after a number
abbrev pub next_number : Shape → ℕ → Option Shape
next_number (wanted g brackets level) n = Some (had Last.Operand g brackets)
next_number size_wanted n = if nat_le 1 n then Some size_had else None
next_number length_wanted n = if nat_le 1 n && nat_le n longest_text then Some length_had else None
next_number shape n = None

-- the recognizer's shape after a parenthesis that is opened in an expression
abbrev pub bracketed : Bool → Ground → List Bracket → ℕ → Shape
bracketed takes_commas g brackets level =
    wanted g (record { takes_commas = takes_commas; level = level + 1 } ∷ brackets) (level + 1)

-- the recognizer's shape after a parenthesis that is opened after an operand, which a name alone takes
abbrev pub next_open_after : Last → Ground → List Bracket → Option Shape
next_open_after Last.Operand g brackets = None
next_open_after (Last.Named is_builtin level) g brackets = Some (bracketed is_builtin g brackets level)

-- the recognizer's shape after a parenthesis that is opened after a name that stands in no expression
abbrev pub next_open_name : Purpose → Option Shape
next_open_name Purpose.Target = Some (wanted Ground.TargetIndex [] 1)
next_open_name Purpose.ListedVariable = Some (wanted Ground.VariableIndex [] 1)
next_open_name Purpose.Callee = Some (wanted Ground.CallList [] 1)
next_open_name Purpose.Item = Some size_wanted
next_open_name Purpose.ListedName = None
next_open_name Purpose.Single = None

-- the recognizer's shape after an opening parenthesis
abbrev pub next_open : Shape → Option Shape
next_open (wanted g brackets level) = Some (bracketed false g brackets level)
next_open (had last g brackets) = next_open_after last g brackets
next_open (name_had purpose) = next_open_name purpose
next_open shape = None

-- the recognizer's shape after the closing parenthesis of a subscript or call in which the phrase's own expression
-- stands
abbrev pub next_close_ground : Ground → Option Shape
next_close_ground Ground.Whole = None
next_close_ground Ground.Listed = None
next_close_ground Ground.TargetIndex = Some target_had
next_close_ground Ground.VariableIndex = Some variable_had
next_close_ground Ground.CallList = Some call_had

-- the recognizer's shape after the closing parenthesis of the innermost that is open
abbrev pub next_close_in : Ground → List Bracket → Option Shape
next_close_in g [] = next_close_ground g
next_close_in g (bracket ∷ brackets) = Some (had Last.Operand g brackets)

-- the recognizer's shape after a closing parenthesis
abbrev pub next_close : Shape → Option Shape
next_close (had last g brackets) = next_close_in g brackets
next_close size_had = Some item_had
next_close shape = None

-- the recognizer's shape after a comma that follows the phrase's own expression
abbrev pub next_comma_ground : Ground → Option Shape
next_comma_ground Ground.Whole = None
next_comma_ground Ground.Listed = Some (wanted Ground.Listed [] 0)
next_comma_ground Ground.TargetIndex = None
next_comma_ground Ground.VariableIndex = None
next_comma_ground Ground.CallList = Some (wanted Ground.CallList [] 1)

-- the recognizer's shape after a comma in the innermost open parenthesis
abbrev pub next_comma_in : Ground → List Bracket → Option Shape
next_comma_in g [] = next_comma_ground g
next_comma_in g (bracket ∷ brackets) =
    if bracket.takes_commas then Some (wanted g (bracket ∷ brackets) bracket.level) else None

-- the recognizer's shape after a comma that follows a name that stands in no expression
abbrev pub next_comma_name : Purpose → Option Shape
next_comma_name Purpose.Target = None
next_comma_name Purpose.ListedVariable = Some (name_wanted Purpose.ListedVariable)
next_comma_name Purpose.Callee = None
next_comma_name Purpose.Item = Some (name_wanted Purpose.Item)
next_comma_name Purpose.ListedName = Some (name_wanted Purpose.ListedName)
next_comma_name Purpose.Single = None

-- the recognizer's shape after a comma
abbrev pub next_comma : Shape → Option Shape
next_comma (had last g brackets) = next_comma_in g brackets
next_comma (name_had purpose) = next_comma_name purpose
next_comma variable_had = Some (name_wanted Purpose.ListedVariable)
next_comma item_had = Some (name_wanted Purpose.Item)
next_comma shape = None

-- the recognizer's shape after `=` that follows a name that stands in no expression
abbrev pub next_equal_name : Purpose → Option Shape
next_equal_name Purpose.Target = Some (wanted Ground.Whole [] 0)
next_equal_name purpose = None

-- the recognizer's shape after `=`
abbrev pub next_equal : Shape → Option Shape
next_equal (had last g brackets) = Some (wanted g brackets (levels_inside g brackets))
next_equal (name_had purpose) = next_equal_name purpose
next_equal target_had = Some (wanted Ground.Whole [] 0)
next_equal shape = None

-- the recognizer's shape after a sign where an operand is wanted, with the prefix operator that it is there
abbrev pub next_prefix : Ground → List Bracket → ℕ → Option PrefixOp → Option Shape
next_prefix g brackets level None = None
next_prefix g brackets level (Some op) = Some (wanted g brackets (level + 1))

-- the recognizer's shape after a sign that follows an operand, with the infix operator that it is there: no prefix
-- operator is open any more
abbrev pub next_infix : Ground → List Bracket → Option InfixOp → Option Shape
next_infix g brackets None = None
next_infix g brackets (Some op) = Some (wanted g brackets (levels_inside g brackets))

-- the recognizer's shape after a sign that is an operator wherever it stands
abbrev pub next_operator : Shape → Sign → Option Shape
next_operator (wanted g brackets level) s = next_prefix g brackets level (prefix_of s)
next_operator (had last g brackets) s = next_infix g brackets (infix_of s)
next_operator shape s = None

-- the recognizer's shape after a sign
abbrev pub next_sign : Shape → Sign → Option Shape
next_sign shape Sign.OpenParenthesis = next_open shape
next_sign shape Sign.CloseParenthesis = next_close shape
next_sign shape Sign.Comma = next_comma shape
next_sign shape Sign.Equal = next_equal shape
next_sign shape s = next_operator shape s

-- the recognizer's shape after one more token, if it can stand there
abbrev pub next : Shape → TokenClass → Option Shape
next shape (TokenClass.Name is_builtin) = next_name shape is_builtin
next shape TokenClass.Keyword = None
next shape (TokenClass.Number n) = next_number shape n
next shape TokenClass.Constant = next_constant shape
next shape (TokenClass.Sign s) = next_sign shape s

-- the recognizer's shape after one more token, if the recognizer has not stopped and the token can stand there
abbrev pub next_if : Option Shape → TokenClass → Option Shape
next_if None class = None
next_if (Some shape) class = next shape class

-- the recognizer's shape after more tokens, if they can stand there
abbrev pub follow : List TokenClass → Option Shape → Option Shape
follow [] shape = shape
follow (class ∷ classes) shape = follow classes (next_if shape class)

-- the recognizer's shape before all tokens of a phrase; a comment has no tokens
abbrev pub first_shape : Category → Option Shape
first_shape Assignment = Some (name_wanted Purpose.Target)
first_shape Condition = Some (wanted Ground.Whole [] 0)
first_shape Expression = Some (wanted Ground.Whole [] 0)
first_shape ExpressionList = Some (wanted Ground.Listed [] 0)
first_shape VariableList = Some (name_wanted Purpose.ListedVariable)
first_shape Variable = Some (name_wanted Purpose.Single)
first_shape CallRef = Some (name_wanted Purpose.Callee)
first_shape DeclaredList = Some (name_wanted Purpose.Item)
first_shape ProcedureName = Some (name_wanted Purpose.Single)
first_shape NameList = Some (name_wanted Purpose.ListedName)
first_shape Length = Some length_wanted
first_shape CommentText = None

-- whether the recognizer lets a phrase end behind an expression in these open parentheses
abbrev pub may_end_in : Ground → List Bracket → Bool
may_end_in Ground.Whole [] = true
may_end_in Ground.Listed [] = true
may_end_in g brackets = false

-- whether the recognizer lets a phrase end behind a name of a purpose
abbrev pub may_end_name : Purpose → Bool
may_end_name Purpose.Target = false
may_end_name purpose = true

-- whether the tokens that lead to the recognizer's shape may be a whole phrase
abbrev pub may_end : Shape → Bool
may_end (had last g brackets) = may_end_in g brackets
may_end (name_had purpose) = may_end_name purpose
may_end variable_had = true
may_end call_had = true
may_end item_had = true
may_end length_had = true
may_end shape = false

-- the level that a parenthesis behind an operand opens in the recognizer, the machine without trees
abbrev pub level_after : Last → ℕ
level_after Last.Operand = 0
level_after (Last.Named is_builtin level) = level + 1

-- the level that a parenthesis behind a name of a purpose opens in the recognizer, the machine without trees; an
-- array's size opens none
abbrev pub level_by_purpose : Purpose → ℕ
level_by_purpose Purpose.Item = 0
level_by_purpose purpose = 1

-- the level that a sign opens at the recognizer's shape, or 0
abbrev pub sign_level : Shape → Sign → ℕ
sign_level (wanted g brackets level) s = level + 1
sign_level (had last g brackets) Sign.OpenParenthesis = level_after last
sign_level (name_had purpose) Sign.OpenParenthesis = level_by_purpose purpose
sign_level shape s = 0

-- the level that a token opens at the recognizer's shape, or 0
abbrev pub level_of : Shape → TokenClass → ℕ
level_of shape (TokenClass.Sign s) = sign_level shape s
level_of shape class = 0

-- the level that a token opens, or 0, also where the recognizer has stopped
abbrev pub level_if : Option Shape → TokenClass → ℕ
level_if None class = 0
level_if (Some shape) class = level_of shape class

-- for each token that follows a shape of the recognizer the level that it opens, or 0
abbrev pub follow_levels : List TokenClass → Option Shape → List ℕ
follow_levels [] shape = []
follow_levels (class ∷ classes) shape = level_if shape class ∷ follow_levels classes (next_if shape class)
