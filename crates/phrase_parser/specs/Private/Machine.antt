-- The machine that reads a phrase token by token. What is open stands on a stack, and an operator's operands are joined
-- no sooner than the next token asks for it.
use Rattle.std.specs.Prelude.{ℕ, pos, ◌&&◌, nat_le, if◌then◌else◌, List, [], ◌∷◌, ◌++◌, Option, Some, None}
use Rattle.plcs_base.specs.Text.{longest_text}
use Rattle.plcs_grammar.specs.declared.operator.PrefixOp.{PrefixOp}
use Rattle.plcs_grammar.specs.declared.operator.PrefixOp.TheVariants as before
use Rattle.plcs_grammar.specs.declared.operator.InfixOp.{InfixOp}
use Rattle.plcs_grammar.specs.declared.operator.InfixOp.TheVariants as between
use Rattle.plcs_grammar.specs.declared.builtin.Builtin.{Builtin}
use Rattle.plcs_grammar.specs.declared.item.Item.{Item}
use Rattle.plcs_grammar.specs.declared.category.Category.{Category}
use Rattle.plcs_grammar.specs.declared.category.Category.TheVariants.{Assignment, Condition, Expression, ExpressionList, VariableList, Variable, CallRef, DeclaredList, ProcedureName, NameList, Length, CommentText}
use Rattle.plcs_grammar.specs.declared.sign.Sign.{Sign}
use Rattle.plcs_grammar.specs.Token.{Token}
use Rattle.plcs_grammar.specs.PlainPhrase.{PlainExpr, PlainExprs, PlainVarRef, PlainPhrase}
use Rattle.plcs_grammar.specs.Builtin.{builtin_of}
use Rattle.plcs_grammar.specs.Level.{priority}

-- the machine's base: what an expression that stands in no other is for, with what of the phrase stands before it
pub data Base : Type 0 where
  condition : Base
  expression : Base
  expressions : PlainExprs → Base
  assigned : PlainVarRef → Base
  target_subscript : List ℕ → Base
  variable_subscript : List PlainVarRef → List ℕ → Base
  call_arguments : List ℕ → PlainExprs → Base

-- the machine's stack: what is open around an operand, the innermost outside
pub data ParseStack : Type 0 where
  base : Base → ParseStack
  prefix : PrefixOp → ParseStack → ParseStack
  left : PlainExpr → InfixOp → ParseStack → ParseStack
  parenthesis : ParseStack → ParseStack
  subscript : List ℕ → ParseStack → ParseStack
  arguments : Builtin → PlainExprs → ParseStack → ParseStack

-- the machine's role: what a name that stands in no expression is for, with what of the phrase stands before it
pub data Role : Type 0 where
  target : Role
  variables : List PlainVarRef → Role
  callee : Role
  items : List Item → Role
  names : List (List ℕ) → Role
  variable : Role
  procedure : Role

-- a state of the machine: what was read last, and what is wanted
pub data ParseState : Type 0 where
  -- the machine's state in which an operand is wanted
  wanted : ParseStack → ParseState
  -- the machine's state in which an operand that is no operator with its own operands was just read
  had : ParseStack → PlainExpr → ParseState
  -- the machine's states in which a name is wanted, or was just read
  name_wanted : Role → ParseState
  name_had : Role → List ℕ → ParseState
  -- the machine's states after the closing parenthesis of a target's subscript, a variable's subscript or a call's
  -- arguments
  target_had : PlainVarRef → ParseState
  variable_had : List PlainVarRef → ParseState
  call_had : List ℕ → PlainExprs → ParseState
  -- the machine's states in which the size of an array is wanted, or it or the parenthesis after it was just read
  size_wanted : List Item → List ℕ → ParseState
  size_had : List Item → List ℕ → ℕ → ParseState
  item_had : List Item → ParseState
  -- the machine's states in which a length is wanted, or was just read
  length_wanted : ParseState
  length_had : ℕ → ParseState

-- the machine's stack and the operand on it
abbrev pub Operand : Type 0
Operand = ParseStack × PlainExpr

-- in the machine that reads a phrase, a list of expressions with one more at the end
abbrev pub expr_push : PlainExprs → PlainExpr → PlainExprs
expr_push PlainExprs.nil t = PlainExprs.cons t PlainExprs.nil
expr_push (PlainExprs.cons a rest) t = PlainExprs.cons a (expr_push rest t)

-- the prefix operator that the machine takes a sign for, before an operand
abbrev pub prefix_of : Sign → Option PrefixOp
prefix_of Sign.Plus = Some before.Plus
prefix_of Sign.Minus = Some before.Minus
prefix_of Sign.Caret = Some before.Not
prefix_of sign = None

-- the infix operator that the machine takes a sign for, behind an operand
abbrev pub infix_of : Sign → Option InfixOp
infix_of Sign.Bar = Some between.Or
infix_of Sign.Ampersand = Some between.And
infix_of Sign.Equal = Some between.Equal
infix_of Sign.NotEqual = Some between.NotEqual
infix_of Sign.Less = Some between.Less
infix_of Sign.LessEqual = Some between.LessEqual
infix_of Sign.Greater = Some between.Greater
infix_of Sign.GreaterEqual = Some between.GreaterEqual
infix_of Sign.Join = Some between.Join
infix_of Sign.Plus = Some between.Plus
infix_of Sign.Minus = Some between.Minus
infix_of Sign.Times = Some between.Times
infix_of Sign.Divide = Some between.Divide
infix_of sign = None

-- the machine's stack and operand once that is joined with each operator of the level or a higher one that is open on
-- the stack
abbrev pub reduced : ParseStack → ℕ → PlainExpr → Operand
reduced (base b) level t = (base b, t)
reduced (prefix op s) level t = reduced s level (PlainExpr.unary op t)
reduced (left a op s) level t =
    if nat_le level (priority op) then reduced s level (PlainExpr.binary op a t) else (left a op s, t)
reduced (parenthesis s) level t = (parenthesis s, t)
reduced (subscript name s) level t = (subscript name s, t)
reduced (arguments function done s) level t = (arguments function done s, t)

-- the machine's state after an infix operator whose left operand is joined
abbrev pub after_infix : InfixOp → Operand → ParseState
after_infix op o = wanted (left o.1 op o.0)

-- the machine's state after a whole operand
abbrev pub shift_operand : ParseState → PlainExpr → Option ParseState
shift_operand (wanted s) t = Some (had s t)
shift_operand state t = None

-- the machine's state after a name
abbrev pub shift_name : ParseState → List ℕ → Option ParseState
shift_name (wanted s) name = Some (had s (PlainExpr.variable (PlainVarRef.simple name)))
shift_name (name_wanted role) name = Some (name_had role name)
shift_name state name = None

-- the machine's state after a number
abbrev pub shift_number : ParseState → ℕ → Option ParseState
shift_number (wanted s) n = Some (had s (PlainExpr.number (pos n)))
shift_number (size_wanted done name) n = if nat_le 1 n then Some (size_had done name n) else None
shift_number length_wanted n = if nat_le 1 n && nat_le n longest_text then Some (length_had n) else None
shift_number state n = None

-- the machine's stack on which a parenthesis is opened behind a name in an expression
abbrev pub open_frame : List ℕ → Option Builtin → ParseStack → ParseStack
open_frame name None s = subscript name s
open_frame name (Some function) s = arguments function PlainExprs.nil s

-- the machine's state after a parenthesis that is opened after an operand, which a name alone takes
abbrev pub shift_open_after : ParseStack → PlainExpr → Option ParseState
shift_open_after s (PlainExpr.variable (PlainVarRef.simple name)) = Some (wanted (open_frame name (builtin_of name) s))
shift_open_after s t = None

-- the machine's state after a parenthesis that is opened after a name that stands in no expression
abbrev pub shift_open_role : Role → List ℕ → Option ParseState
shift_open_role target name = Some (wanted (base (target_subscript name)))
shift_open_role (variables done) name = Some (wanted (base (variable_subscript done name)))
shift_open_role callee name = Some (wanted (base (call_arguments name PlainExprs.nil)))
shift_open_role (items done) name = Some (size_wanted done name)
shift_open_role role name = None

-- the machine's state after an opening parenthesis
abbrev pub shift_open : ParseState → Option ParseState
shift_open (wanted s) = Some (wanted (parenthesis s))
shift_open (had s t) = shift_open_after s t
shift_open (name_had role name) = shift_open_role role name
shift_open state = None

-- the machine's state after the closing parenthesis of a subscript or call in which the phrase's own expression stands
abbrev pub shift_close_base : Base → PlainExpr → Option ParseState
shift_close_base (target_subscript name) t = Some (target_had (PlainVarRef.subscripted name t))
shift_close_base (variable_subscript done name) t = Some (variable_had (done ++ (PlainVarRef.subscripted name t ∷ [])))
shift_close_base (call_arguments name done) t = Some (call_had name (expr_push done t))
shift_close_base b t = None

-- the machine's state after the closing parenthesis of the innermost that is open on the stack
abbrev pub shift_close_stack : ParseStack → PlainExpr → Option ParseState
shift_close_stack (base b) t = shift_close_base b t
shift_close_stack (prefix op s) t = None
shift_close_stack (left a op s) t = None
shift_close_stack (parenthesis s) t = Some (had s (PlainExpr.parenthesized t))
shift_close_stack (subscript name s) t = Some (had s (PlainExpr.variable (PlainVarRef.subscripted name t)))
shift_close_stack (arguments function done s) t = Some (had s (PlainExpr.builtin function (expr_push done t)))

-- the machine's state after a closing parenthesis
abbrev pub shift_close : ParseState → Option ParseState
shift_close (had s t) = let o = reduced s 1 t in shift_close_stack o.0 o.1
shift_close (size_had done name n) = Some (item_had (done ++ (record { name = name; size = Some n } ∷ [])))
shift_close state = None

-- the machine's state after a comma that follows the phrase's own expression
abbrev pub shift_comma_base : Base → PlainExpr → Option ParseState
shift_comma_base (expressions done) t = Some (wanted (base (expressions (expr_push done t))))
shift_comma_base (call_arguments name done) t = Some (wanted (base (call_arguments name (expr_push done t))))
shift_comma_base b t = None

-- the machine's state after a comma in the innermost parenthesis that is open on the stack
abbrev pub shift_comma_stack : ParseStack → PlainExpr → Option ParseState
shift_comma_stack (base b) t = shift_comma_base b t
shift_comma_stack (arguments function done s) t = Some (wanted (arguments function (expr_push done t) s))
shift_comma_stack s t = None

-- the machine's state after a comma that follows a name that stands in no expression
abbrev pub shift_comma_role : Role → List ℕ → Option ParseState
shift_comma_role (variables done) name = Some (name_wanted (variables (done ++ (PlainVarRef.simple name ∷ []))))
shift_comma_role (items done) name = Some (name_wanted (items (done ++ (record { name = name; size = None } ∷ []))))
shift_comma_role (names done) name = Some (name_wanted (names (done ++ (name ∷ []))))
shift_comma_role role name = None

-- the machine's state after a comma
abbrev pub shift_comma : ParseState → Option ParseState
shift_comma (had s t) = let o = reduced s 1 t in shift_comma_stack o.0 o.1
shift_comma (name_had role name) = shift_comma_role role name
shift_comma (variable_had done) = Some (name_wanted (variables done))
shift_comma (item_had done) = Some (name_wanted (items done))
shift_comma state = None

-- the machine's state after `=` that follows a name that stands in no expression
abbrev pub shift_equal_role : Role → List ℕ → Option ParseState
shift_equal_role target name = Some (wanted (base (assigned (PlainVarRef.simple name))))
shift_equal_role role name = None

-- the machine's state after `=`: it assigns to the target of an assignment, and elsewhere it compares
abbrev pub shift_equal : ParseState → Option ParseState
shift_equal (had s t) = Some (after_infix between.Equal (reduced s (priority between.Equal) t))
shift_equal (name_had role name) = shift_equal_role role name
shift_equal (target_had reference) = Some (wanted (base (assigned reference)))
shift_equal state = None

-- the machine's state after a sign where an operand is wanted, with the prefix operator that it is there
abbrev pub shift_prefix : ParseStack → Option PrefixOp → Option ParseState
shift_prefix s None = None
shift_prefix s (Some op) = Some (wanted (prefix op s))

-- the machine's state after a sign that follows an operand, with the infix operator that it is there
abbrev pub shift_infix : ParseStack → PlainExpr → Option InfixOp → Option ParseState
shift_infix s t None = None
shift_infix s t (Some op) = Some (after_infix op (reduced s (priority op) t))

-- the machine's state after a sign that is an operator wherever it stands
abbrev pub shift_operator : ParseState → Sign → Option ParseState
shift_operator (wanted s) sign = shift_prefix s (prefix_of sign)
shift_operator (had s t) sign = shift_infix s t (infix_of sign)
shift_operator state sign = None

-- the machine's state after a sign
abbrev pub shift_sign : ParseState → Sign → Option ParseState
shift_sign state Sign.OpenParenthesis = shift_open state
shift_sign state Sign.CloseParenthesis = shift_close state
shift_sign state Sign.Comma = shift_comma state
shift_sign state Sign.Equal = shift_equal state
shift_sign state sign = shift_operator state sign

-- the machine's state after one more token, if it can stand there
abbrev pub shift : ParseState → Token → Option ParseState
shift state (Token.name name) = shift_name state name
shift state (Token.keyword word) = None
shift state (Token.number n) = shift_number state n
shift state (Token.text value) = shift_operand state (PlainExpr.text value)
shift state (Token.bit value) = shift_operand state (PlainExpr.bit value)
shift state (Token.sign sign) = shift_sign state sign

-- the machine's state after one more token, if the machine has not stopped and the token can stand there
abbrev pub shift_if : Option ParseState → Token → Option ParseState
shift_if None token = None
shift_if (Some state) token = shift state token

-- the machine's state after more tokens, if they can stand there
abbrev pub shift_all : List Token → Option ParseState → Option ParseState
shift_all [] state = state
shift_all (token ∷ tokens) state = shift_all tokens (shift_if state token)

-- the machine's state before all tokens of a phrase; a comment has no tokens
abbrev pub start_state : Category → Option ParseState
start_state Assignment = Some (name_wanted target)
start_state Condition = Some (wanted (base condition))
start_state Expression = Some (wanted (base expression))
start_state ExpressionList = Some (wanted (base (expressions PlainExprs.nil)))
start_state VariableList = Some (name_wanted (variables []))
start_state Variable = Some (name_wanted variable)
start_state CallRef = Some (name_wanted callee)
start_state DeclaredList = Some (name_wanted (items []))
start_state ProcedureName = Some (name_wanted procedure)
start_state NameList = Some (name_wanted (names []))
start_state Length = Some length_wanted
start_state CommentText = None

-- the phrase that the machine's base ends as with the phrase's own expression, if it may
abbrev pub phrase_of_base : Base → PlainExpr → Option PlainPhrase
phrase_of_base condition t = Some (PlainPhrase.condition t)
phrase_of_base expression t = Some (PlainPhrase.expression t)
phrase_of_base (expressions done) t = Some (PlainPhrase.expression_list (expr_push done t))
phrase_of_base (assigned reference) t = Some (PlainPhrase.assignment reference t)
phrase_of_base b t = None

-- the phrase that the machine's stack ends as with an expression, if nothing is open around it
abbrev pub phrase_of_stack : ParseStack → PlainExpr → Option PlainPhrase
phrase_of_stack (base b) t = phrase_of_base b t
phrase_of_stack s t = None

-- the phrase that the machine's role ends as with a name that stands in no expression, if it may
abbrev pub phrase_of_role : Role → List ℕ → Option PlainPhrase
phrase_of_role target name = None
phrase_of_role (variables done) name = Some (PlainPhrase.variable_list (done ++ (PlainVarRef.simple name ∷ [])))
phrase_of_role callee name = Some (PlainPhrase.call name PlainExprs.nil)
phrase_of_role (items done) name = Some (PlainPhrase.declared_list (done ++ (record { name = name; size = None } ∷ [])))
phrase_of_role (names done) name = Some (PlainPhrase.name_list (done ++ (name ∷ [])))
phrase_of_role variable name = Some (PlainPhrase.variable_name name)
phrase_of_role procedure name = Some (PlainPhrase.procedure_name name)

-- the phrase that the machine's state ends as, if the tokens that were read are all of it
abbrev pub phrase_of : ParseState → Option PlainPhrase
phrase_of (had s t) = let o = reduced s 1 t in phrase_of_stack o.0 o.1
phrase_of (name_had role name) = phrase_of_role role name
phrase_of (variable_had done) = Some (PlainPhrase.variable_list done)
phrase_of (call_had name passed) = Some (PlainPhrase.call name passed)
phrase_of (item_had done) = Some (PlainPhrase.declared_list done)
phrase_of (length_had n) = Some (PlainPhrase.greatest_length n)
phrase_of state = None

-- the phrase that the machine ends as, if it has not stopped and the tokens are all of it
abbrev pub phrase_of_if : Option ParseState → Option PlainPhrase
phrase_of_if None = None
phrase_of_if (Some state) = phrase_of state
