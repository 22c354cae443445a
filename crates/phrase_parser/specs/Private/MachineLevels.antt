-- The levels that the tokens of a phrase open, as the machine counts them.
use Rattle.std.specs.Prelude.{ℕ, ◌+◌, List, [], ◌∷◌, Option, Some, None}
use Rattle.plcs_grammar.specs.declared.sign.Sign.{Sign}
use Rattle.plcs_grammar.specs.Token.{Token}
use Rattle.phrase_parser.specs.Private.Machine.{Base, ParseStack, Role, ParseState, shift_if}

-- how many levels are open on the machine's base, at the operand of the phrase's own expression
abbrev pub base_depth : Base → ℕ
base_depth Base.condition = 0
base_depth Base.expression = 0
base_depth (Base.expressions done) = 0
base_depth (Base.assigned reference) = 0
base_depth (Base.target_subscript name) = 1
base_depth (Base.variable_subscript done name) = 1
base_depth (Base.call_arguments name done) = 1

-- how many levels are open at the operand on the machine's stack
abbrev pub stack_depth : ParseStack → ℕ
stack_depth (ParseStack.base b) = base_depth b
stack_depth (ParseStack.prefix op s) = stack_depth s + 1
stack_depth (ParseStack.left a op s) = stack_depth s
stack_depth (ParseStack.parenthesis s) = stack_depth s + 1
stack_depth (ParseStack.subscript name s) = stack_depth s + 1
stack_depth (ParseStack.arguments function done s) = stack_depth s + 1

-- the level that a token opens where the machine wants an operand and so many are open: each sign that can stand there
-- opens one
abbrev pub opens_before : ℕ → Token → ℕ
opens_before outside (Token.sign sign) = outside + 1
opens_before outside token = 0

-- the level that a token opens behind an operand or a name that the machine just read
abbrev pub opens_after : ℕ → Token → ℕ
opens_after outside (Token.sign Sign.OpenParenthesis) = outside + 1
opens_after outside token = 0

-- the level that a token opens behind a name of the machine's role, which stands in no expression; an array's size
-- opens none
abbrev pub opens_by_role : Role → Token → ℕ
opens_by_role (Role.items done) token = 0
opens_by_role role token = opens_after 0 token

-- the level that a token opens in a state of the machine, or 0
abbrev pub opens : ParseState → Token → ℕ
opens (ParseState.wanted s) token = opens_before (stack_depth s) token
opens (ParseState.had s t) token = opens_after (stack_depth s) token
opens (ParseState.name_had role name) token = opens_by_role role token
opens state token = 0

-- the level that a token opens, or 0, also where the machine has stopped
abbrev pub opens_if : Option ParseState → Token → ℕ
opens_if None token = 0
opens_if (Some state) token = opens state token

-- for each token that follows a state of the machine the level that it opens, or 0
abbrev pub machine_levels : List Token → Option ParseState → List ℕ
machine_levels [] state = []
machine_levels (token ∷ tokens) state = opens_if state token ∷ machine_levels tokens (shift_if state token)
