-- The levels of a shape are no more than the tokens before it.
use Rattle.std.proofs.Common.{◌≡◌, subst, ℕ, ◌+◌, ◌≤◌, Bool, true, false, cond, List, [], ◌∷◌, Option, Some, None, arith, zero-le}
use Rattle.std.specs.List.{AllByRecursion}
use Rattle.plcs_grammar.specs.declared.operator.PrefixOp.{PrefixOp}
use Rattle.plcs_grammar.specs.declared.operator.InfixOp.{InfixOp}
use Rattle.plcs_grammar.specs.declared.sign.Sign.{Sign}
use Rattle.phrase_parser.specs.Private.Machine.{prefix_of, infix_of}
use Rattle.phrase_parser.specs.declared.check.token_class.TokenClass.{TokenClass}
use Rattle.phrase_parser.specs.declared.check.ground.Ground.{Ground}
use Rattle.phrase_parser.specs.declared.check.nesting.Bracket.{Bracket}
use Rattle.phrase_parser.specs.declared.check.last.Last.{Last}
use Rattle.phrase_parser.specs.declared.check.purpose.Purpose.{Purpose}
use Rattle.phrase_parser.specs.Private.Recognizer.{Shape, levels_inside, next_name, next_constant, next_number, next_open_after, next_open_name, next_open, next_close_in, next_close, next_comma_in, next_comma_name, next_comma, next_equal_name, next_equal, next_prefix, next_infix, next_operator, next_sign, next}
use Rattle.phrase_parser.specs.Private.Shapes.{LastWithin, NestingWithin, Within}

-- the levels of a shape that may be missing are not over a limit
abbrev pub WithinIf : ℕ → Option Shape → Type 0
WithinIf limit None = Unit {0}
WithinIf limit (Some shape) = Within limit shape

brackets_more : (n m : ℕ) → n ≤ m → (brackets : List Bracket) → AllByRecursion (λ b. b.level ≤ n) brackets → AllByRecursion (λ b. b.level ≤ m) brackets
brackets_more n m e [] h = h
brackets_more n m e (b ∷ brackets) h = (omega (arith, e, h.0), brackets_more n m e brackets h.1)

nesting_more : (n m : ℕ) → n ≤ m → (g : Ground) (brackets : List Bracket) → NestingWithin n g brackets → NestingWithin m g brackets
nesting_more n m e g brackets h = (omega (arith, e, h.0), brackets_more n m e brackets h.1)

last_more : (n m : ℕ) → n ≤ m → (last : Last) → LastWithin n last → LastWithin m last
last_more n m e Last.Operand h = tt
last_more n m e (Last.Named is_builtin level) h = omega (arith, e, h)

-- what is within a limit is within a greater one
pub within_more : (n m : ℕ) → n ≤ m → (s : Shape) → Within n s → Within m s
within_more n m e (Shape.wanted g brackets level) h = (omega (arith, e, h.0), nesting_more n m e g brackets h.1)
within_more n m e (Shape.had last g brackets) h = (last_more n m e last h.0, nesting_more n m e g brackets h.1)
within_more n m e s h = tt

next_name_within : (n : ℕ) (s : Shape) (b : Bool) → Within n s → WithinIf n (next_name s b)
next_name_within n (Shape.wanted g brackets level) b h = (h.0, h.1)
next_name_within n s b h = tt

next_constant_within : (n : ℕ) (s : Shape) → Within n s → WithinIf n (next_constant s)
next_constant_within n (Shape.wanted g brackets level) h = (tt, h.1)
next_constant_within n s h = tt

if_within : (n : ℕ) (b : Bool) (s : Shape) → Within n s → WithinIf n (cond b (Some s) None)
if_within n true s h = h
if_within n false s h = tt

next_number_within : (n : ℕ) (s : Shape) (k : ℕ) → Within n s → WithinIf n (next_number s k)
next_number_within n (Shape.wanted g brackets level) k h = (tt, h.1)
next_number_within n Shape.size_wanted k h = if_within n _ Shape.size_had tt
next_number_within n Shape.length_wanted k h = if_within n _ Shape.length_had tt
next_number_within n s k h = tt

-- an open parenthesis is one level more
bracketed_within : (n : ℕ) (b : Bool) (g : Ground) (brackets : List Bracket) (level : ℕ) → level ≤ n → NestingWithin n g brackets
    → WithinIf (n + 1) (Some (Shape.wanted g (record { takes_commas = b; level = level + 1 } ∷ brackets) (level + 1)))
bracketed_within n b g brackets level e h =
    let more : level + 1 ≤ n + 1 = omega (arith, e) in
    let one : n ≤ n + 1 = omega arith in
    let all = nesting_more n (n + 1) one g brackets h in
    (more, (all.0, (more, all.1)))

next_open_behind_within : (n : ℕ) (last : Last) (g : Ground) (brackets : List Bracket) → LastWithin n last → NestingWithin n g brackets
    → WithinIf (n + 1) (next_open_after last g brackets)
next_open_behind_within n Last.Operand g brackets e h = tt
next_open_behind_within n (Last.Named b level) g brackets e h = bracketed_within n b g brackets level e h

next_open_name_within : (n : ℕ) (u : Purpose) → WithinIf (n + 1) (next_open_name u)
next_open_name_within n Purpose.Target = (omega arith, (omega arith, tt))
next_open_name_within n Purpose.ListedVariable = (omega arith, (omega arith, tt))
next_open_name_within n Purpose.Callee = (omega arith, (omega arith, tt))
next_open_name_within n u = tt

next_open_within : (n : ℕ) (s : Shape) → Within n s → WithinIf (n + 1) (next_open s)
next_open_within n (Shape.wanted g brackets level) h = bracketed_within n false g brackets level h.0 h.1
next_open_within n (Shape.had last g brackets) h = next_open_behind_within n last g brackets h.0 h.1
next_open_within n (Shape.name_had purpose) h = next_open_name_within n purpose
next_open_within n s h = tt

next_close_in_within : (n : ℕ) (g : Ground) (brackets : List Bracket) → NestingWithin n g brackets → WithinIf n (next_close_in g brackets)
next_close_in_within n Ground.Whole [] h = tt
next_close_in_within n Ground.Listed [] h = tt
next_close_in_within n Ground.TargetIndex [] h = tt
next_close_in_within n Ground.VariableIndex [] h = tt
next_close_in_within n Ground.CallList [] h = tt
next_close_in_within n g (b ∷ brackets) h = (tt, (h.0, h.1.1))

next_close_within : (n : ℕ) (s : Shape) → Within n s → WithinIf n (next_close s)
next_close_within n (Shape.had last g brackets) h = next_close_in_within n g brackets h.1
next_close_within n s h = tt

next_comma_in_within : (n : ℕ) (g : Ground) (brackets : List Bracket) → NestingWithin n g brackets → WithinIf n (next_comma_in g brackets)
next_comma_in_within n Ground.Whole [] h = tt
next_comma_in_within n Ground.Listed [] h = (zero-le, (zero-le, tt))
next_comma_in_within n Ground.TargetIndex [] h = tt
next_comma_in_within n Ground.VariableIndex [] h = tt
next_comma_in_within n Ground.CallList [] h = (h.0, (h.0, tt))
next_comma_in_within n g (b ∷ brackets) h = if_within n b.takes_commas (Shape.wanted g (b ∷ brackets) b.level) (h.1.0, h)

next_comma_name_within : (n : ℕ) (u : Purpose) → WithinIf n (next_comma_name u)
next_comma_name_within n Purpose.Target = tt
next_comma_name_within n u = tt

next_comma_within : (n : ℕ) (s : Shape) → Within n s → WithinIf n (next_comma s)
next_comma_within n (Shape.had last g brackets) h = next_comma_in_within n g brackets h.1
next_comma_within n (Shape.name_had purpose) h = next_comma_name_within n purpose
next_comma_within n s h = tt

inside_within : (n : ℕ) (g : Ground) (brackets : List Bracket) → NestingWithin n g brackets → levels_inside g brackets ≤ n
inside_within n g [] h = h.0
inside_within n g (b ∷ brackets) h = h.1.0

next_equal_name_within : (n : ℕ) (u : Purpose) → WithinIf n (next_equal_name u)
next_equal_name_within n Purpose.Target = (zero-le, (zero-le, tt))
next_equal_name_within n u = tt

next_equal_within : (n : ℕ) (s : Shape) → Within n s → WithinIf n (next_equal s)
next_equal_within n (Shape.had last g brackets) h = (inside_within n g brackets h.1, h.1)
next_equal_within n (Shape.name_had purpose) h = next_equal_name_within n purpose
next_equal_within n Shape.target_had h = (zero-le, (zero-le, tt))
next_equal_within n s h = tt

next_prefix_within : (n : ℕ) (g : Ground) (brackets : List Bracket) (level : ℕ) (op : Option PrefixOp) → level ≤ n → NestingWithin n g brackets
    → WithinIf (n + 1) (next_prefix g brackets level op)
next_prefix_within n g brackets level None e h = tt
next_prefix_within n g brackets level (Some op) e h =
    let one : n ≤ n + 1 = omega arith in (omega (arith, e), nesting_more n (n + 1) one g brackets h)

next_infix_within : (n : ℕ) (g : Ground) (brackets : List Bracket) (op : Option InfixOp) → NestingWithin n g brackets
    → WithinIf n (next_infix g brackets op)
next_infix_within n g brackets None h = tt
next_infix_within n g brackets (Some op) h = (inside_within n g brackets h, h)

if_more : (n : ℕ) (s : Option Shape) → WithinIf n s → WithinIf (n + 1) s
if_more n None h = tt
if_more n (Some s) h = let one : n ≤ n + 1 = omega arith in within_more n (n + 1) one s h

next_operator_within : (n : ℕ) (s : Shape) (sign : Sign) → Within n s → WithinIf (n + 1) (next_operator s sign)
next_operator_within n (Shape.wanted g brackets level) sign h = next_prefix_within n g brackets level (prefix_of sign) h.0 h.1
next_operator_within n (Shape.had last g brackets) sign h =
    if_more n (next_infix g brackets (infix_of sign)) (next_infix_within n g brackets (infix_of sign) h.1)
next_operator_within n s sign h = tt

next_sign_within : (n : ℕ) (s : Shape) (sign : Sign) → Within n s → WithinIf (n + 1) (next_sign s sign)
next_sign_within n s Sign.OpenParenthesis h = next_open_within n s h
next_sign_within n s Sign.CloseParenthesis h = if_more n (next_close s) (next_close_within n s h)
next_sign_within n s Sign.Comma h = if_more n (next_comma s) (next_comma_within n s h)
next_sign_within n s Sign.Equal h = if_more n (next_equal s) (next_equal_within n s h)
next_sign_within n s sign h = next_operator_within n s sign h

-- one more token opens one level more at most
pub next_within : (n : ℕ) (s : Shape) (k : TokenClass) → Within n s → WithinIf (n + 1) (next s k)
next_within n s (TokenClass.Name b) h = if_more n (next_name s b) (next_name_within n s b h)
next_within n s TokenClass.Keyword h = tt
next_within n s (TokenClass.Number k) h = if_more n (next_number s k) (next_number_within n s k h)
next_within n s TokenClass.Constant h = if_more n (next_constant s) (next_constant_within n s h)
next_within n s (TokenClass.Sign sign) h = next_sign_within n s sign h

-- one more token puts the levels of a shape within one more than they were
pub still_within : (n : ℕ) (shape behind : Shape) (class : TokenClass) → next shape class ≡ Some behind → Within n shape → Within (n + 1) behind
still_within n shape behind class e h = subst (WithinIf (n + 1)) e (next_within n shape class h)
