-- Small cases, as the definitions give them by computing.
use Rattle.std.proofs.Common.{◌≡◌, refl, ℕ, zero, suc, ◌≤◌, pos, negsuc, Bool, true, false, List, [], ◌∷◌, ◌++◌, codes, length, Some, None, sym, ap, subst, arith, lit≤, length-append, inl}
use Rattle.std.specs.Fmt.{digits}
use Rattle.std.specs.Prelude.{IsTrue}
use Rattle.plcs_base.specs.Name.{IsName, is_keyword}
use Rattle.plcs_grammar.specs.declared.operator.InfixOp.TheVariants.{Equal, Plus, Times}
use Rattle.plcs_grammar.specs.PlainPhrase.{PlainExpr, PlainExprs, PlainVarRef, PlainPhrase}
use Rattle.plcs_grammar.specs.declared.sign.Sign.{Sign}
use Rattle.plcs_grammar.specs.Sign.{sign_bytes, infix_sign}
use Rattle.plcs_grammar.specs.Token.{Token, IsToken, IsNumeral, LongestToken, quoted, bit_bytes, numeral_value}
use Rattle.plcs_grammar.specs.Cuts.{Cuts, Piece}
use Rattle.plcs_grammar.specs.TrimmedText.{trimmed}
use Rattle.plcs_grammar.specs.Level.{Level, in_parentheses}
use Rattle.plcs_grammar.specs.Comment.{comment_syntax}
use Rattle.plcs_grammar.specs.OpenedLevel.{phrase_opened_levels}
use Rattle.plcs_grammar.specs.OverLimit.{OverLimit, first_over}
use Rattle.plcs_grammar.specs.PhraseForm.{Form}
use Rattle.plcs_grammar.specs.SyntaxOffset.{GoesWrong, SyntaxAt}
use Rattle.plcs_grammar.specs.Canon.{Canon}
use Rattle.plcs_grammar.specs.declared.category.Category.TheVariants.{Assignment, Condition, Expression, ExpressionList, VariableList, Variable, CallRef, DeclaredList, ProcedureName, NameList, Length, CommentText}

abbrev num : ℕ → PlainExpr
num n = PlainExpr.number (pos n)

abbrev var : List ℕ → PlainExpr
var name = PlainExpr.variable (PlainVarRef.simple name)

-- `( 1 + 2 ) * 3`
product_of_sum : Canon (PlainPhrase.expression (PlainExpr.binary Times (PlainExpr.parenthesized (PlainExpr.binary Plus (num 1) (num 2))) (num 3)))
    ≡ codes "( 1 + 2 ) * 3"
unfolding digits
product_of_sum = refl

-- `p(1, x)`
call_of_two : Canon (PlainPhrase.call (codes "p") (PlainExprs.cons (num 1) (PlainExprs.cons (var (codes "x")) PlainExprs.nil))) ≡ codes "p(1, x)"
unfolding digits
call_of_two = refl

-- `''''` is the text of one quote
one_quote : Canon (PlainPhrase.expression (PlainExpr.text (codes "'"))) ≡ codes "''''"
one_quote = refl

leading_zeros : numeral_value (codes "007") ≡ 7
leading_zeros = refl

-- `a`, `b` and `c`, joined by `=`
abbrev equals : List Token
equals =
    Token.name (codes "a") ∷ Token.sign Sign.Equal ∷ Token.name (codes "b") ∷ Token.sign Sign.Equal ∷ Token.name (codes "c") ∷ []

-- `a = b = c` is `( a = b ) = c` in structure
left_first : Level (PlainExpr.binary Equal (PlainExpr.binary Equal (var (codes "a")) (var (codes "b"))) (var (codes "c"))) 1 equals
left_first = (
  lit≤ tt,
  Token.name (codes "a") ∷ Token.sign Sign.Equal ∷ Token.name (codes "b") ∷ [],
  Token.name (codes "c") ∷ [],
  refl,
  (lit≤ tt, Token.name (codes "a") ∷ [], Token.name (codes "b") ∷ [], refl, (tt, refl), (tt, refl)),
  (tt, refl),
)

-- `a = b = c` is not `a = ( b = c )` in structure
not_right_first : (tokens : List Token)
    → ¬ (Level (PlainExpr.binary Equal (var (codes "a")) (PlainExpr.binary Equal (var (codes "b")) (var (codes "c")))) 1 tokens)
not_right_first tokens (low, left, right, cut, a, (high, rest, more, cut_right, b, c)) = absurd (omega (arith, high))

-- a row of tokens of one byte each, from the first place on
abbrev placed : ℕ → List Token → List Piece
placed place [] = []
placed place (token ∷ tokens) = record { token = token; start = place; end = suc place } ∷ placed (suc place) tokens

-- a token, so many times, before other tokens
abbrev times : ℕ → Token → List Token → List Token
times zero token behind = behind
times (suc n) token behind = token ∷ times n token behind

abbrev nested : ℕ → PlainExpr
nested zero = num 1
nested (suc n) = PlainExpr.parenthesized (nested n)

abbrev nested_tokens : ℕ → List Token
nested_tokens n =
    times n (Token.sign Sign.OpenParenthesis) (Token.number 1 ∷ times n (Token.sign Sign.CloseParenthesis) [])

-- the 33rd parenthesis is one too many, and 32 are not
thirty_three : first_over (placed 0 (nested_tokens 33)) (phrase_opened_levels (PlainPhrase.expression (nested 33))) ≡ Some (OverLimit.too_deep 32)
thirty_three = refl

thirty_two : first_over (placed 0 (nested_tokens 32)) (phrase_opened_levels (PlainPhrase.expression (nested 32))) ≡ None
thirty_two = refl

-- an array's size may be too large, and opens no level
large_size :
    first_over (placed 0 (Token.name (codes "a") ∷ in_parentheses (Token.number 2147483648 ∷ [])))
    (phrase_opened_levels (PlainPhrase.declared_list (record { name = codes "a"; size = Some 2147483648 } ∷ [])))
    ≡ Some (OverLimit.number_too_large 2)
large_size = refl

-- `*/` may not stand in the text of a comment: it is refused at its place
comment_ends : comment_syntax (codes "a*/b") ≡ Some 1
comment_ends = refl

comment_blank : comment_syntax (codes "   ") ≡ Some 3
comment_blank = refl

comment_placeholder : comment_syntax (codes " {comment} ") ≡ Some 0
comment_placeholder = refl

comment_fine : comment_syntax (codes "  sum it  ") ≡ None
comment_fine = refl

comment_trimmed : trimmed (codes "  sum it  ") ≡ codes "sum it"
comment_trimmed = refl

-- a sign has at most two bytes
short_sign : (s : Sign) → length (sign_bytes s) ≤ 2
short_sign Sign.Plus = lit≤ tt
short_sign Sign.Minus = lit≤ tt
short_sign Sign.Times = lit≤ tt
short_sign Sign.Divide = lit≤ tt
short_sign Sign.Join = lit≤ tt
short_sign Sign.Equal = lit≤ tt
short_sign Sign.NotEqual = lit≤ tt
short_sign Sign.Less = lit≤ tt
short_sign Sign.LessEqual = lit≤ tt
short_sign Sign.Greater = lit≤ tt
short_sign Sign.GreaterEqual = lit≤ tt
short_sign Sign.Ampersand = lit≤ tt
short_sign Sign.Bar = lit≤ tt
short_sign Sign.Caret = lit≤ tt
short_sign Sign.OpenParenthesis = lit≤ tt
short_sign Sign.CloseParenthesis = lit≤ tt
short_sign Sign.Comma = lit≤ tt

untrue : ¬ (IsTrue false)
untrue h = cc

no_word_at_less : (second third : ℕ) (rest : List ℕ) → ¬ (IsName (60 ∷ second ∷ third ∷ rest))
no_word_at_less second third rest named = untrue named

no_keyword_at_less : (second third : ℕ) (rest : List ℕ) → ¬ (IsTrue (is_keyword (60 ∷ second ∷ third ∷ rest)))
unfolding is_keyword
no_keyword_at_less second third rest listed = untrue listed

abbrev first_byte : List ℕ → ℕ
first_byte [] = 0
first_byte (byte ∷ rest) = byte

no_number_at_less : (second third : ℕ) (rest : List ℕ) → ¬ (IsNumeral (60 ∷ second ∷ third ∷ rest))
no_number_at_less second third rest numeral = untrue numeral.1

no_text_at_less : (second third : ℕ) (rest value : List ℕ) → ¬ (60 ∷ second ∷ third ∷ rest ≡ quoted value)
no_text_at_less second third rest value e = let first : 60 ≡ 39 = ap first_byte e in absurd (omega (arith, first))

no_bit_at_less : (value : Bool) (second third : ℕ) (rest : List ℕ) → ¬ (60 ∷ second ∷ third ∷ rest ≡ bit_bytes value)
no_bit_at_less false second third rest e = let first : 60 ≡ 39 = ap first_byte e in absurd (omega (arith, first))
no_bit_at_less true second third rest e = let first : 60 ≡ 39 = ap first_byte e in absurd (omega (arith, first))

no_sign_at_less : (s : Sign) (second third : ℕ) (rest : List ℕ) → ¬ (60 ∷ second ∷ third ∷ rest ≡ sign_bytes s)
no_sign_at_less s second third rest e = absurd (omega (arith, short_sign s, ap length e))

-- no token of three bytes or more begins with `<`
short_at_less : (token : Token) (second third : ℕ) (rest behind : List ℕ) → ¬ (IsToken token (60 ∷ second ∷ third ∷ rest) behind)
short_at_less (Token.name n) second third rest behind is = no_word_at_less second third rest (subst IsName (sym is.0) is.1)
short_at_less (Token.keyword word) second third rest behind is =
    no_keyword_at_less second third rest (subst (λ w. IsTrue (is_keyword w)) (sym is.0) is.1)
short_at_less (Token.number n) second third rest behind is = no_number_at_less second third rest is.0
short_at_less (Token.text value) second third rest behind is = no_text_at_less second third rest value is.0
short_at_less (Token.bit value) second third rest behind is = no_bit_at_less value second third rest is.0
short_at_less (Token.sign s) second third rest behind is = no_sign_at_less s second third rest is

-- no token longer than `<=` stands at the front of `<=b`
less_equal_longest : (token : Token) (front back : List ℕ)
    → codes "<=b" ≡ front ++ back → IsToken token front back → length front ≤ 2
less_equal_longest token [] back e is = lit≤ tt
less_equal_longest token (a ∷ []) back e is = lit≤ tt
less_equal_longest token (a ∷ b ∷ []) back e is = lit≤ tt
less_equal_longest token (a ∷ b ∷ c ∷ rest) back e is =
    let first : 60 ≡ a = cc in
    absurd (short_at_less token b c rest back (subst (λ byte. IsToken token (byte ∷ b ∷ c ∷ rest) back) (sym first) is))

less_equal_first : LongestToken (codes "<=b") (Token.sign Sign.LessEqual) (codes "<=") (codes "b")
less_equal_first = record { whole = refl; is_token = refl; longest = less_equal_longest }

-- `  )` is one token, from place 2 up to place 3
one_byte_longest : (token : Token) (front back : List ℕ) → codes ")" ≡ front ++ back → IsToken token front back → length front ≤ 1
one_byte_longest token front back e is = omega (arith, ap length e, length-append front back)

one_piece : Cuts (record { token = Token.sign Sign.CloseParenthesis; start = 2; end = 3 } ∷ []) 0 (codes "  )") None
one_piece = (codes ")", [], record { whole = refl; is_token = refl; longest = one_byte_longest }, refl, refl, refl)

-- no expression is made of no tokens
no_empty_expression : (e : PlainExpr) → ¬ (Level e 1 [])
no_empty_expression (PlainExpr.number (pos n)) e = cc
no_empty_expression (PlainExpr.number (negsuc n)) e = e
no_empty_expression (PlainExpr.text value) e = cc
no_empty_expression (PlainExpr.bit value) e = cc
no_empty_expression (PlainExpr.variable (PlainVarRef.simple name)) (own, e) = cc
no_empty_expression (PlainExpr.variable (PlainVarRef.subscripted name index)) (own, (inner, e, level)) = cc
no_empty_expression (PlainExpr.unary op a) (inner, e, level) = cc
no_empty_expression (PlainExpr.binary op a b) (low, left, right, e, a_level, b_level) =
    absurd (omega (arith, ap length e, length-append left (Token.sign (infix_sign op) ∷ right)))
no_empty_expression (PlainExpr.builtin function arguments) (inner, e, joined) = cc
no_empty_expression (PlainExpr.parenthesized a) (inner, e, level) = cc

no_empty_form : (phrase : PlainPhrase) → ¬ (Form Expression [] phrase)
no_empty_form (PlainPhrase.expression e) form = no_empty_expression e form.1
no_empty_form (PlainPhrase.assignment target value) form = let wrong : Assignment ≡ Expression = form.0 in cc
no_empty_form (PlainPhrase.condition e) form = let wrong : Condition ≡ Expression = form.0 in cc
no_empty_form (PlainPhrase.expression_list es) form = let wrong : ExpressionList ≡ Expression = form.0 in cc
no_empty_form (PlainPhrase.variable_list targets) form = let wrong : VariableList ≡ Expression = form.0 in cc
no_empty_form (PlainPhrase.variable_name name) form = let wrong : Variable ≡ Expression = form.0 in cc
no_empty_form (PlainPhrase.call name arguments) form = let wrong : CallRef ≡ Expression = form.0 in cc
no_empty_form (PlainPhrase.declared_list items) form = let wrong : DeclaredList ≡ Expression = form.0 in cc
no_empty_form (PlainPhrase.procedure_name name) form = let wrong : ProcedureName ≡ Expression = form.0 in cc
no_empty_form (PlainPhrase.name_list names) form = let wrong : NameList ≡ Expression = form.0 in cc
no_empty_form (PlainPhrase.greatest_length n) form = let wrong : Length ≡ Expression = form.0 in cc
no_empty_form (PlainPhrase.comment bytes) form = let wrong : CommentText ≡ Expression = form.0 in cc

-- the empty text goes wrong at its end, which is place 0
empty_text : SyntaxAt Expression [] 0
empty_text =
    inl ([], None, refl, GoesWrong.at_end (Token.number 1 ∷ [], PlainPhrase.expression (num 1), (refl, refl)) no_empty_form)
