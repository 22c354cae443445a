-- The tokens that the machine has read in a state, and what a state keeps.
use Rattle.std.proofs.Common.{◌≡◌, refl, ℕ, ◌+◌, ◌≤◌, not, IsTrue, List, [], ◌∷◌, ◌++◌, ap, sym, ◌∙◌, append_assoc, append-nil}
use Rattle.plcs_base.specs.Text.{longest_text}
use Rattle.plcs_grammar.specs.declared.category.Category.{Category}
use Rattle.plcs_grammar.specs.declared.category.Category.TheVariants.{Assignment, Condition, Expression, ExpressionList, VariableList, Variable, CallRef, DeclaredList, ProcedureName, NameList, Length}
use Rattle.plcs_grammar.specs.declared.sign.Sign.{Sign}
use Rattle.plcs_grammar.specs.Sign.{prefix_sign, infix_sign}
use Rattle.plcs_grammar.specs.Token.{Token}
use Rattle.plcs_grammar.specs.PlainPhrase.{PlainExpr, PlainExprs}
use Rattle.plcs_grammar.specs.Builtin.{builtin_name, is_builtin_name}
use Rattle.plcs_grammar.specs.Level.{priority, tightest, in_parentheses}
use Rattle.phrase_parser.specs.Private.Machine.{Base, ParseStack, Role, ParseState, expr_push}
use Rattle.phrase_parser.proofs.Machine.ExprSpelling.{spell, spell_reference, spell_all, spell_behind, Fits, FitsReference, FitsAll, FitsBehind}
use Rattle.phrase_parser.proofs.Machine.PhraseSpelling.{spell_name, spell_item, spell_call, spell_more, spell_listed, EachFits, FitsListed, FitsItem, FitsCall, AnyName}

-- the tokens of expressions, each with the comma behind it
abbrev pub spell_before : PlainExprs → List Token
spell_before PlainExprs.nil = []
spell_before (PlainExprs.cons a rest) = spell a ++ (Token.sign Sign.Comma ∷ spell_before rest)

behind_push : (done : PlainExprs) (t : PlainExpr) → spell_behind (expr_push done t) ≡ Token.sign Sign.Comma ∷ (spell_before done ++ spell t)
behind_push PlainExprs.nil t = ap (λ z. Token.sign Sign.Comma ∷ z) (append-nil (spell t))
behind_push (PlainExprs.cons a rest) t =
    ap (λ z. Token.sign Sign.Comma ∷ (spell a ++ z)) (behind_push rest t)
    ∙ ap (λ z. Token.sign Sign.Comma ∷ z) (sym (append_assoc (spell a) (Token.sign Sign.Comma ∷ spell_before rest) (spell t)))

-- the tokens of expressions with one more at the end are those of the others, each with its comma, and its own
pub all_push : (done : PlainExprs) (t : PlainExpr) → spell_all (expr_push done t) ≡ spell_before done ++ spell t
all_push PlainExprs.nil t = append-nil (spell t)
all_push (PlainExprs.cons a rest) t =
    ap (λ z. spell a ++ z) (behind_push rest t)
    ∙ sym (append_assoc (spell a) (Token.sign Sign.Comma ∷ spell_before rest) (spell t))

-- one expression more, with a comma behind it, is one of those that have each their comma
pub before_push : (done : PlainExprs) (t : PlainExpr)
    → spell_before (expr_push done t) ≡ spell_before done ++ (spell t ++ (Token.sign Sign.Comma ∷ []))
before_push PlainExprs.nil t = refl
before_push (PlainExprs.cons a rest) t =
    ap (λ z. spell a ++ (Token.sign Sign.Comma ∷ z)) (before_push rest t)
    ∙ sym (append_assoc (spell a) (Token.sign Sign.Comma ∷ spell_before rest) (spell t ++ (Token.sign Sign.Comma ∷ [])))

-- a call with an argument has its parentheses, in its tokens
pub call_push : (name : List ℕ) (done : PlainExprs) (t : PlainExpr)
    → spell_call name (expr_push done t) ≡ Token.name name ∷ in_parentheses (spell_all (expr_push done t))
call_push name PlainExprs.nil t = refl
call_push name (PlainExprs.cons a rest) t = refl

-- expressions that keep their levels do so with one more that does
pub behind_fits : (done : PlainExprs) (t : PlainExpr) → FitsBehind done → Fits t 1 → FitsBehind (expr_push done t)
behind_fits PlainExprs.nil t h f = (f, tt)
behind_fits (PlainExprs.cons a rest) t h f = (h.0, behind_fits rest t h.1 f)

-- expressions that keep their levels, with one more that does, are a list of one or more
pub all_fit : (done : PlainExprs) (t : PlainExpr) → FitsBehind done → Fits t 1 → FitsAll (expr_push done t)
all_fit PlainExprs.nil t h f = (f, tt)
all_fit (PlainExprs.cons a rest) t h f = (h.0, behind_fits rest t h.1 f)

-- arguments that keep their levels are those of a call
pub call_fits : (ts : PlainExprs) → FitsAll ts → FitsCall ts
call_fits PlainExprs.nil h = absurd h
call_fits (PlainExprs.cons a rest) h = h

module _ {X : Type 0} (f : X → List Token) where
  -- the tokens of elements, each with the comma behind it
  abbrev pub spell_each : List X → List Token
  spell_each [] = []
  spell_each (x ∷ xs) = f x ++ (Token.sign Sign.Comma ∷ spell_each xs)

  more_last : (xs : List X) (x : X) → spell_more f (xs ++ (x ∷ [])) ≡ Token.sign Sign.Comma ∷ (spell_each xs ++ f x)
  more_last [] x = ap (λ z. Token.sign Sign.Comma ∷ z) (append-nil (f x))
  more_last (y ∷ ys) x =
      ap (λ z. Token.sign Sign.Comma ∷ (f y ++ z)) (more_last ys x)
      ∙ ap (λ z. Token.sign Sign.Comma ∷ z) (sym (append_assoc (f y) (Token.sign Sign.Comma ∷ spell_each ys) (f x)))

  -- the tokens of elements with one more at the end are those of the others, each with its comma, and its own
  pub listed_last : (xs : List X) (x : X) → spell_listed f (xs ++ (x ∷ [])) ≡ spell_each xs ++ f x
  listed_last [] x = append-nil (f x)
  listed_last (y ∷ ys) x =
      ap (λ z. f y ++ z) (more_last ys x)
      ∙ sym (append_assoc (f y) (Token.sign Sign.Comma ∷ spell_each ys) (f x))

  -- one element more, with a comma behind it, is one of those that have each their comma
  pub each_last : (xs : List X) (x : X) → spell_each (xs ++ (x ∷ [])) ≡ spell_each xs ++ (f x ++ (Token.sign Sign.Comma ∷ []))
  each_last [] x = refl
  each_last (y ∷ ys) x =
      ap (λ z. f y ++ (Token.sign Sign.Comma ∷ z)) (each_last ys x)
      ∙ sym (append_assoc (f y) (Token.sign Sign.Comma ∷ spell_each ys) (f x ++ (Token.sign Sign.Comma ∷ [])))

  more_comma : (xs : List X) → Token.sign Sign.Comma ∷ spell_each xs ≡ spell_more f xs ++ (Token.sign Sign.Comma ∷ [])
  more_comma [] = refl
  more_comma (y ∷ ys) =
      ap (λ z. Token.sign Sign.Comma ∷ (f y ++ z)) (more_comma ys)
      ∙ ap (λ z. Token.sign Sign.Comma ∷ z) (sym (append_assoc (f y) (spell_more f ys) (Token.sign Sign.Comma ∷ [])))

  -- the tokens of a list with a comma behind it are those of its elements, each with its comma
  pub listed_comma : (Fit : X → Type 0) (xs : List X) → FitsListed Fit xs
      → spell_each xs ≡ spell_listed f xs ++ (Token.sign Sign.Comma ∷ [])
  listed_comma Fit [] h = absurd h
  listed_comma Fit (x ∷ xs) h =
      ap (λ z. f x ++ z) (more_comma xs) ∙ sym (append_assoc (f x) (spell_more f xs) (Token.sign Sign.Comma ∷ []))

module _ {X : Type 0} (Fit : X → Type 0) where
  -- elements that keep what they have to do so with one more that does
  pub each_fits : (xs : List X) (x : X) → EachFits Fit xs → Fit x → EachFits Fit (xs ++ (x ∷ []))
  each_fits [] x h f = (f, tt)
  each_fits (y ∷ ys) x h f = (h.0, each_fits ys x h.1 f)

  -- elements that keep what they have to, with one more that does, are a list of one or more
  pub listed_fits : (xs : List X) (x : X) → EachFits Fit xs → Fit x → FitsListed Fit (xs ++ (x ∷ []))
  listed_fits [] x h f = (f, tt)
  listed_fits (y ∷ ys) x h f = (h.0, each_fits ys x h.1 f)

  -- each element of a list of one or more keeps what it has to
  pub listed_each : (xs : List X) → FitsListed Fit xs → EachFits Fit xs
  listed_each [] h = absurd h
  listed_each (x ∷ xs) h = h

-- the tokens that were read before an expression that stands in no other
abbrev pub flat_base : Base → List Token
flat_base Base.condition = []
flat_base Base.expression = []
flat_base (Base.expressions done) = spell_before done
flat_base (Base.assigned reference) = spell_reference reference ++ (Token.sign Sign.Equal ∷ [])
flat_base (Base.target_subscript name) = Token.name name ∷ Token.sign Sign.OpenParenthesis ∷ []
flat_base (Base.variable_subscript done name) =
    spell_each spell_reference done ++ (Token.name name ∷ Token.sign Sign.OpenParenthesis ∷ [])
flat_base (Base.call_arguments name done) = Token.name name ∷ Token.sign Sign.OpenParenthesis ∷ spell_before done

-- the tokens before the operand on a stack
abbrev pub flat_stack : ParseStack → List Token
flat_stack (ParseStack.base b) = flat_base b
flat_stack (ParseStack.prefix op s) = flat_stack s ++ (Token.sign (prefix_sign op) ∷ [])
flat_stack (ParseStack.left a op s) = flat_stack s ++ (spell a ++ (Token.sign (infix_sign op) ∷ []))
flat_stack (ParseStack.parenthesis s) = flat_stack s ++ (Token.sign Sign.OpenParenthesis ∷ [])
flat_stack (ParseStack.subscript name s) = flat_stack s ++ (Token.name name ∷ Token.sign Sign.OpenParenthesis ∷ [])
flat_stack (ParseStack.arguments function done s) =
    flat_stack s ++ (Token.name (builtin_name function) ∷ Token.sign Sign.OpenParenthesis ∷ spell_before done)

-- the tokens before a name that stands in no expression
abbrev pub flat_role : Role → List Token
flat_role Role.target = []
flat_role (Role.variables done) = spell_each spell_reference done
flat_role Role.callee = []
flat_role (Role.items done) = spell_each spell_item done
flat_role (Role.names done) = spell_each spell_name done
flat_role Role.variable = []
flat_role Role.procedure = []

-- all tokens that were read in a state
abbrev pub flat : ParseState → List Token
flat (ParseState.wanted s) = flat_stack s
flat (ParseState.had s t) = flat_stack s ++ spell t
flat (ParseState.name_wanted role) = flat_role role
flat (ParseState.name_had role name) = flat_role role ++ (Token.name name ∷ [])
flat (ParseState.target_had reference) = spell_reference reference
flat (ParseState.variable_had done) = spell_listed spell_reference done
flat (ParseState.call_had name passed) = spell_call name passed
flat (ParseState.size_wanted done name) = spell_each spell_item done ++ (Token.name name ∷ Token.sign Sign.OpenParenthesis ∷ [])
flat (ParseState.size_had done name n) =
    spell_each spell_item done ++ (Token.name name ∷ Token.sign Sign.OpenParenthesis ∷ Token.number n ∷ [])
flat (ParseState.item_had done) = spell_listed spell_item done
flat ParseState.length_wanted = []
flat (ParseState.length_had n) = Token.number n ∷ []

-- the level of the operand that is wanted on the stack
abbrev pub hole : ParseStack → ℕ
hole (ParseStack.base b) = 1
hole (ParseStack.prefix op s) = tightest
hole (ParseStack.left a op s) = priority op + 1
hole (ParseStack.parenthesis s) = 1
hole (ParseStack.subscript name s) = 1
hole (ParseStack.arguments function done s) = 1

-- what was read before an expression that stands in no other keeps its levels
abbrev pub SoundBase : Base → Type 0
SoundBase Base.condition = Unit {0}
SoundBase Base.expression = Unit {0}
SoundBase (Base.expressions done) = FitsBehind done
SoundBase (Base.assigned reference) = FitsReference reference
SoundBase (Base.target_subscript name) = Unit {0}
SoundBase (Base.variable_subscript done name) = EachFits FitsReference done
SoundBase (Base.call_arguments name done) = FitsBehind done

-- what is open on a stack keeps its levels
abbrev pub SoundStack : ParseStack → Type 0
SoundStack (ParseStack.base b) = SoundBase b
SoundStack (ParseStack.prefix op s) = SoundStack s
SoundStack (ParseStack.left a op s) = (hole s ≤ priority op) × Fits a (priority op) × SoundStack s
SoundStack (ParseStack.parenthesis s) = SoundStack s
SoundStack (ParseStack.subscript name s) = IsTrue (not (is_builtin_name name)) × SoundStack s
SoundStack (ParseStack.arguments function done s) = FitsBehind done × SoundStack s

-- what stands before a name that stands in no expression keeps its levels
abbrev pub SoundRole : Role → Type 0
SoundRole Role.target = Unit {0}
SoundRole (Role.variables done) = EachFits FitsReference done
SoundRole Role.callee = Unit {0}
SoundRole (Role.items done) = EachFits FitsItem done
SoundRole (Role.names done) = EachFits AnyName done
SoundRole Role.variable = Unit {0}
SoundRole Role.procedure = Unit {0}

-- all that was read in a state keeps its levels
abbrev pub Sound : ParseState → Type 0
Sound (ParseState.wanted s) = SoundStack s
Sound (ParseState.had s t) = SoundStack s × ((level : ℕ) → Fits t level)
Sound (ParseState.name_wanted role) = SoundRole role
Sound (ParseState.name_had role name) = SoundRole role
Sound (ParseState.target_had reference) = FitsReference reference
Sound (ParseState.variable_had done) = FitsListed FitsReference done
Sound (ParseState.call_had name passed) = FitsAll passed
Sound (ParseState.size_wanted done name) = EachFits FitsItem done
Sound (ParseState.size_had done name n) = (1 ≤ n) × EachFits FitsItem done
Sound (ParseState.item_had done) = FitsListed FitsItem done
Sound ParseState.length_wanted = Unit {0}
Sound (ParseState.length_had n) = (1 ≤ n) × (n ≤ longest_text)

-- the category of the phrase that is read, by what an expression that stands in no other is for
abbrev pub base_category : Base → Category
base_category Base.condition = Condition
base_category Base.expression = Expression
base_category (Base.expressions done) = ExpressionList
base_category (Base.assigned reference) = Assignment
base_category (Base.target_subscript name) = Assignment
base_category (Base.variable_subscript done name) = VariableList
base_category (Base.call_arguments name done) = CallRef

-- the category of the phrase that is read, by the stack
abbrev pub stack_category : ParseStack → Category
stack_category (ParseStack.base b) = base_category b
stack_category (ParseStack.prefix op s) = stack_category s
stack_category (ParseStack.left a op s) = stack_category s
stack_category (ParseStack.parenthesis s) = stack_category s
stack_category (ParseStack.subscript name s) = stack_category s
stack_category (ParseStack.arguments function done s) = stack_category s

-- the category of the phrase that is read, by what a name that stands in no expression is for
abbrev pub role_category : Role → Category
role_category Role.target = Assignment
role_category (Role.variables done) = VariableList
role_category Role.callee = CallRef
role_category (Role.items done) = DeclaredList
role_category (Role.names done) = NameList
role_category Role.variable = Variable
role_category Role.procedure = ProcedureName

-- the category of the phrase that is read, by the state
abbrev pub state_category : ParseState → Category
state_category (ParseState.wanted s) = stack_category s
state_category (ParseState.had s t) = stack_category s
state_category (ParseState.name_wanted role) = role_category role
state_category (ParseState.name_had role name) = role_category role
state_category (ParseState.target_had reference) = Assignment
state_category (ParseState.variable_had done) = VariableList
state_category (ParseState.call_had name passed) = CallRef
state_category (ParseState.size_wanted done name) = DeclaredList
state_category (ParseState.size_had done name n) = DeclaredList
state_category (ParseState.item_had done) = DeclaredList
state_category ParseState.length_wanted = Length
state_category (ParseState.length_had n) = Length
