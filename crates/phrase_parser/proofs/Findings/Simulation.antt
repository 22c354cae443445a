-- The machine without trees does as the machine with trees.
use Rattle.std.proofs.Common.{◌≡◌, refl, ℕ, ◌+◌, ◌≤◌, Bool, true, false, cond, leb, ◌&&◌, List, [], ◌∷◌, Option, Some, None, is_some, ap, ap₂, sym, ◌∙◌, arith, le_refl, lit≤, min}
use Rattle.std.proofs.lemmas.Bool.{cond_both, not-true}
use Rattle.plcs_base.specs.Text.{longest_text}
use Rattle.phrase_parser.specs.Private.PlacedToken.{greatest_kept}
use Rattle.plcs_grammar.specs.declared.operator.PrefixOp.{PrefixOp}
use Rattle.plcs_grammar.specs.declared.operator.InfixOp.{InfixOp}
use Rattle.plcs_grammar.specs.declared.operator.InfixOp.TheVariants as between
use Rattle.plcs_grammar.specs.declared.builtin.Builtin.{Builtin}
use Rattle.plcs_grammar.specs.declared.sign.Sign.{Sign}
use Rattle.plcs_grammar.specs.Token.{Token}
use Rattle.plcs_grammar.specs.PlainPhrase.{PlainExpr, PlainVarRef}
use Rattle.plcs_grammar.specs.Builtin.{is_builtin_name, builtin_of}
use Rattle.plcs_grammar.specs.Level.{priority, tightest}
use Rattle.phrase_parser.specs.Private.Machine
use Rattle.phrase_parser.specs.Private.Machine.{Base, ParseStack, Role, ParseState, Operand, reduced, after_infix, shift, phrase_of, phrase_of_stack, prefix_of, infix_of}
use Rattle.phrase_parser.specs.Private.MachineLevels.{base_depth, stack_depth}
use Rattle.phrase_parser.specs.Private.Recognizer
use Rattle.phrase_parser.specs.declared.check.ground.Ground.{Ground}
use Rattle.phrase_parser.specs.declared.check.nesting.Bracket.{Bracket}
use Rattle.phrase_parser.specs.declared.check.last.Last.{Last}
use Rattle.phrase_parser.specs.declared.check.purpose.Purpose.{Purpose}
use Rattle.phrase_parser.specs.Private.Recognizer.{class_of, ground_level, Shape, levels_inside, next, may_end, may_end_in, next_close_in, next_comma_in}
use Rattle.phrase_parser.proofs.Findings.KeptNumbers.{kept_from, kept_to}
use Rattle.phrase_parser.proofs.Machine.BuiltinNames.{builtin_missing, builtin_known}
use Rattle.phrase_parser.proofs.Machine.ExprsRead.{above_none, below_tightest}
use Rattle.phrase_parser.proofs.Machine.ConsumedTokens.{hole, SoundStack, Sound}
use Rattle.phrase_parser.proofs.Machine.Soundness.JoinedOperands.{Joins, reduced_joins}

-- where an expression stands that stands in no other
abbrev pub ground_of_base : Base → Ground
ground_of_base Base.condition = Ground.Whole
ground_of_base Base.expression = Ground.Whole
ground_of_base (Base.expressions done) = Ground.Listed
ground_of_base (Base.assigned reference) = Ground.Whole
ground_of_base (Base.target_subscript name) = Ground.TargetIndex
ground_of_base (Base.variable_subscript done name) = Ground.VariableIndex
ground_of_base (Base.call_arguments name done) = Ground.CallList

-- where the phrase's own expression stands
abbrev pub ground_of : ParseStack → Ground
ground_of (ParseStack.base b) = ground_of_base b
ground_of (ParseStack.prefix op s) = ground_of s
ground_of (ParseStack.left a op s) = ground_of s
ground_of (ParseStack.parenthesis s) = ground_of s
ground_of (ParseStack.subscript name s) = ground_of s
ground_of (ParseStack.arguments function done s) = ground_of s

-- the open parentheses of a stack, each with the level that it opened
abbrev pub brackets_of : ParseStack → List Bracket
brackets_of (ParseStack.base b) = []
brackets_of (ParseStack.prefix op s) = brackets_of s
brackets_of (ParseStack.left a op s) = brackets_of s
brackets_of (ParseStack.parenthesis s) = record { takes_commas = false; level = stack_depth s + 1 } ∷ brackets_of s
brackets_of (ParseStack.subscript name s) = record { takes_commas = false; level = stack_depth s + 1 } ∷ brackets_of s
brackets_of (ParseStack.arguments function done s) = record { takes_commas = true; level = stack_depth s + 1 } ∷ brackets_of s

-- what an operand shows of itself
abbrev pub last_of : ℕ → PlainExpr → Last
last_of level (PlainExpr.variable (PlainVarRef.simple name)) = Last.Named (is_builtin_name name) level
last_of level t = Last.Operand

-- what a name that stands in no expression is for
abbrev pub use_of : Role → Purpose
use_of Role.target = Purpose.Target
use_of (Role.variables done) = Purpose.ListedVariable
use_of Role.callee = Purpose.Callee
use_of (Role.items done) = Purpose.Item
use_of (Role.names done) = Purpose.ListedName
use_of Role.variable = Purpose.Single
use_of Role.procedure = Purpose.Single

-- the shape of a state: what is left of it without trees
abbrev pub state_shape : ParseState → Shape
state_shape (ParseState.wanted s) = Shape.wanted (ground_of s) (brackets_of s) (stack_depth s)
state_shape (ParseState.had s t) = Shape.had (last_of (stack_depth s) t) (ground_of s) (brackets_of s)
state_shape (ParseState.name_wanted role) = Shape.name_wanted (use_of role)
state_shape (ParseState.name_had role name) = Shape.name_had (use_of role)
state_shape (ParseState.target_had reference) = Shape.target_had
state_shape (ParseState.variable_had done) = Shape.variable_had
state_shape (ParseState.call_had name passed) = Shape.call_had
state_shape (ParseState.size_wanted done name) = Shape.size_wanted
state_shape (ParseState.size_had done name n) = Shape.size_had
state_shape (ParseState.item_had done) = Shape.item_had
state_shape ParseState.length_wanted = Shape.length_wanted
state_shape (ParseState.length_had n) = Shape.length_had

-- the shape of a state, where the machine has not stopped
abbrev pub state_shape_if : Option ParseState → Option Shape
state_shape_if None = None
state_shape_if (Some s) = Some (state_shape s)

-- a place is as many levels in as its parentheses say, where no prefix operator is open
base_level : (b : Base) → base_depth b ≡ ground_level (ground_of_base b)
base_level Base.condition = refl
base_level Base.expression = refl
base_level (Base.expressions done) = refl
base_level (Base.assigned reference) = refl
base_level (Base.target_subscript name) = refl
base_level (Base.variable_subscript done name) = refl
base_level (Base.call_arguments name done) = refl

level_inside : (s : ParseStack) → SoundStack s → hole s + 1 ≤ tightest → stack_depth s ≡ levels_inside (ground_of s) (brackets_of s)
level_inside (ParseStack.base b) h le = base_level b
level_inside (ParseStack.prefix op s) h le = absurd (omega arith)
level_inside (ParseStack.left a op s) h le = level_inside s h.2 (omega (arith, h.0, below_tightest op))
level_inside (ParseStack.parenthesis s) h le = refl
level_inside (ParseStack.subscript name s) h le = refl
level_inside (ParseStack.arguments function done s) h le = refl

-- joining operators leaves all parentheses
abbrev SamePlace : ParseStack → Operand → Type 0
SamePlace s o = (ground_of o.0 ≡ ground_of s) × (brackets_of o.0 ≡ brackets_of s)

same_place : (level : ℕ) (s : ParseStack) (t : PlainExpr) → SamePlace s (reduced s level t)
same_place level (ParseStack.base b) t = (refl, refl)
same_place level (ParseStack.prefix op s) t = same_place level s (PlainExpr.unary op t)
same_place level (ParseStack.left a op s) t =
    cond_both (leb level (priority op)) (reduced s level (PlainExpr.binary op a t)) (ParseStack.left a op s, t) (SamePlace s)
    (λ e. same_place level s (PlainExpr.binary op a t)) (λ e. (refl, refl))
same_place level (ParseStack.parenthesis s) t = (refl, refl)
same_place level (ParseStack.subscript name s) t = (refl, refl)
same_place level (ParseStack.arguments function done s) t = (refl, refl)

joins_at : (level : ℕ) (s : ParseStack) (t : PlainExpr) → Sound (ParseState.had s t) → 1 ≤ level → Joins level s t (reduced s level t)
joins_at level s t h le = reduced_joins level s t h.0 (h.1 (hole s)) (h.1 level) le

-- the shape after an infix operator is that of the state after it
sim_infix : (op : InfixOp) (s : ParseStack) (t : PlainExpr) → Sound (ParseState.had s t)
    → Shape.wanted (ground_of s) (brackets_of s) (levels_inside (ground_of s) (brackets_of s)) ≡ state_shape (after_infix op (reduced s (priority op) t))
sim_infix op s t h =
    let o = reduced s (priority op) t in
    let j = joins_at (priority op) s t h (above_none op) in
    let p = same_place (priority op) s t in
    sym (ap (λ d. Shape.wanted (ground_of o.0) (brackets_of o.0) d)
    (level_inside o.0 j.sound (omega (arith, j.low, below_tightest op)))
    ∙ ap₂ (λ g bs. Shape.wanted g bs (levels_inside g bs)) p.0 p.1)

sim_open_name : (name : List ℕ) (found : Option Builtin) (s : ParseStack) → builtin_of name ≡ found
    → Some (Recognizer.bracketed (is_builtin_name name) (ground_of s) (brackets_of s) (stack_depth s))
    ≡ Some (state_shape (ParseState.wanted (Machine.open_frame name found s)))
sim_open_name name None s e =
    ap (λ b. Some (Recognizer.bracketed b (ground_of s) (brackets_of s) (stack_depth s))) (not-true _ (builtin_missing name e))
sim_open_name name (Some function) s e =
    ap (λ b. Some (Recognizer.bracketed b (ground_of s) (brackets_of s) (stack_depth s))) (builtin_known name function e)

sim_open_behind : (s : ParseStack) (t : PlainExpr)
    → Recognizer.next_open_after (last_of (stack_depth s) t) (ground_of s) (brackets_of s) ≡ state_shape_if (Machine.shift_open_after s t)
sim_open_behind s (PlainExpr.variable (PlainVarRef.simple name)) = sim_open_name name (builtin_of name) s refl
sim_open_behind s t = refl

sim_open_role : (role : Role) (name : List ℕ) → Recognizer.next_open_name (use_of role) ≡ state_shape_if (Machine.shift_open_role role name)
sim_open_role Role.target name = refl
sim_open_role (Role.variables done) name = refl
sim_open_role Role.callee name = refl
sim_open_role (Role.items done) name = refl
sim_open_role (Role.names done) name = refl
sim_open_role Role.variable name = refl
sim_open_role Role.procedure name = refl

sim_open : (s : ParseState) → Recognizer.next_open (state_shape s) ≡ state_shape_if (Machine.shift_open s)
sim_open (ParseState.had s t) = sim_open_behind s t
sim_open (ParseState.name_had role name) = sim_open_role role name
sim_open s = refl

sim_close_base : (b : Base) (t : PlainExpr) → Recognizer.next_close_ground (ground_of_base b) ≡ state_shape_if (Machine.shift_close_base b t)
sim_close_base Base.condition t = refl
sim_close_base Base.expression t = refl
sim_close_base (Base.expressions done) t = refl
sim_close_base (Base.assigned reference) t = refl
sim_close_base (Base.target_subscript name) t = refl
sim_close_base (Base.variable_subscript done name) t = refl
sim_close_base (Base.call_arguments name done) t = refl

sim_close_at : (s : ParseStack) (t : PlainExpr) → hole s ≤ 1
    → next_close_in (ground_of s) (brackets_of s) ≡ state_shape_if (Machine.shift_close_stack s t)
sim_close_at (ParseStack.base b) t le = sim_close_base b t
sim_close_at (ParseStack.prefix op s) t le = absurd (omega arith)
sim_close_at (ParseStack.left a op s) t le = absurd (omega (arith, above_none op))
sim_close_at (ParseStack.parenthesis s) t le = refl
sim_close_at (ParseStack.subscript name s) t le = refl
sim_close_at (ParseStack.arguments function done s) t le = refl

sim_close : (s : ParseState) → Sound s → Recognizer.next_close (state_shape s) ≡ state_shape_if (Machine.shift_close s)
sim_close (ParseState.had s t) h =
    let o = reduced s 1 t in
    let p = same_place 1 s t in
    sym (ap₂ next_close_in p.0 p.1) ∙ sim_close_at o.0 o.1 (joins_at 1 s t h (le_refl _)).low
sim_close (ParseState.name_had role name) h = refl
sim_close s h = refl

sim_comma_base : (b : Base) (t : PlainExpr) → Recognizer.next_comma_ground (ground_of_base b) ≡ state_shape_if (Machine.shift_comma_base b t)
sim_comma_base Base.condition t = refl
sim_comma_base Base.expression t = refl
sim_comma_base (Base.expressions done) t = refl
sim_comma_base (Base.assigned reference) t = refl
sim_comma_base (Base.target_subscript name) t = refl
sim_comma_base (Base.variable_subscript done name) t = refl
sim_comma_base (Base.call_arguments name done) t = refl

sim_comma_at : (s : ParseStack) (t : PlainExpr) → hole s ≤ 1
    → next_comma_in (ground_of s) (brackets_of s) ≡ state_shape_if (Machine.shift_comma_stack s t)
sim_comma_at (ParseStack.base b) t le = sim_comma_base b t
sim_comma_at (ParseStack.prefix op s) t le = absurd (omega arith)
sim_comma_at (ParseStack.left a op s) t le = absurd (omega (arith, above_none op))
sim_comma_at (ParseStack.parenthesis s) t le = refl
sim_comma_at (ParseStack.subscript name s) t le = refl
sim_comma_at (ParseStack.arguments function done s) t le = refl

sim_comma_role : (role : Role) (name : List ℕ) → Recognizer.next_comma_name (use_of role) ≡ state_shape_if (Machine.shift_comma_role role name)
sim_comma_role Role.target name = refl
sim_comma_role (Role.variables done) name = refl
sim_comma_role Role.callee name = refl
sim_comma_role (Role.items done) name = refl
sim_comma_role (Role.names done) name = refl
sim_comma_role Role.variable name = refl
sim_comma_role Role.procedure name = refl

sim_comma : (s : ParseState) → Sound s → Recognizer.next_comma (state_shape s) ≡ state_shape_if (Machine.shift_comma s)
sim_comma (ParseState.had s t) h =
    let o = reduced s 1 t in
    let p = same_place 1 s t in
    sym (ap₂ next_comma_in p.0 p.1) ∙ sim_comma_at o.0 o.1 (joins_at 1 s t h (le_refl _)).low
sim_comma (ParseState.name_had role name) h = sim_comma_role role name
sim_comma s h = refl

sim_equal_role : (role : Role) (name : List ℕ) → Recognizer.next_equal_name (use_of role) ≡ state_shape_if (Machine.shift_equal_role role name)
sim_equal_role Role.target name = refl
sim_equal_role (Role.variables done) name = refl
sim_equal_role Role.callee name = refl
sim_equal_role (Role.items done) name = refl
sim_equal_role (Role.names done) name = refl
sim_equal_role Role.variable name = refl
sim_equal_role Role.procedure name = refl

sim_equal : (s : ParseState) → Sound s → Recognizer.next_equal (state_shape s) ≡ state_shape_if (Machine.shift_equal s)
sim_equal (ParseState.had s t) h = ap Some (sim_infix between.Equal s t h)
sim_equal (ParseState.name_had role name) h = sim_equal_role role name
sim_equal s h = refl

sim_with_prefix : (s : ParseStack) (found : Option PrefixOp)
    → Recognizer.next_prefix (ground_of s) (brackets_of s) (stack_depth s) found ≡ state_shape_if (Machine.shift_prefix s found)
sim_with_prefix s None = refl
sim_with_prefix s (Some op) = refl

sim_with_infix : (s : ParseStack) (t : PlainExpr) (found : Option InfixOp) → Sound (ParseState.had s t)
    → Recognizer.next_infix (ground_of s) (brackets_of s) found ≡ state_shape_if (Machine.shift_infix s t found)
sim_with_infix s t None h = refl
sim_with_infix s t (Some op) h = ap Some (sim_infix op s t h)

sim_operator : (s : ParseState) (sign : Sign) → Sound s → Recognizer.next_operator (state_shape s) sign ≡ state_shape_if (Machine.shift_operator s sign)
sim_operator (ParseState.wanted s) sign h = sim_with_prefix s (prefix_of sign)
sim_operator (ParseState.had s t) sign h = sim_with_infix s t (infix_of sign) h
sim_operator s sign h = refl

sim_sign : (s : ParseState) (sign : Sign) → Sound s → Recognizer.next_sign (state_shape s) sign ≡ state_shape_if (Machine.shift_sign s sign)
sim_sign s Sign.OpenParenthesis h = sim_open s
sim_sign s Sign.CloseParenthesis h = sim_close s h
sim_sign s Sign.Comma h = sim_comma s h
sim_sign s Sign.Equal h = sim_equal s h
sim_sign s sign h = sim_operator s sign h

sim_name : (s : ParseState) (name : List ℕ) → Recognizer.next_name (state_shape s) (is_builtin_name name) ≡ state_shape_if (Machine.shift_name s name)
sim_name (ParseState.wanted s) name = refl
sim_name (ParseState.name_wanted role) name = refl
sim_name s name = refl

if_shape : (a b : Bool) (s : ParseState) → a ≡ b → cond a (Some (state_shape s)) None ≡ state_shape_if (cond b (Some s) None)
if_shape a true s e = ap (λ z. cond z (Some (state_shape s)) None) e
if_shape a false s e = ap (λ z. cond z (Some (state_shape s)) None) e

sim_number : (s : ParseState) (n : ℕ) → Recognizer.next_number (state_shape s) (min n greatest_kept) ≡ state_shape_if (Machine.shift_number s n)
sim_number (ParseState.size_wanted done name) n =
    if_shape (leb 1 (min n greatest_kept)) (leb 1 n) (ParseState.size_had done name n) (kept_from n 1 (lit≤ tt))
sim_number ParseState.length_wanted n =
    if_shape (leb 1 (min n greatest_kept) && leb (min n greatest_kept) longest_text) (leb 1 n && leb n longest_text) (ParseState.length_had n)
    (ap₂ (λ a b. a && b) (kept_from n 1 (lit≤ tt)) (kept_to n longest_text (lit≤ tt)))
sim_number s n = refl

sim_constant : (s : ParseState) (t : PlainExpr) → last_of 0 t ≡ Last.Operand → ((d : ℕ) → last_of d t ≡ Last.Operand)
    → Recognizer.next_constant (state_shape s) ≡ state_shape_if (Machine.shift_operand s t)
sim_constant (ParseState.wanted s) t z e = ap (λ l. Some (Shape.had l (ground_of s) (brackets_of s))) (sym (e (stack_depth s)))
sim_constant s t z e = refl

-- a token does to the shape what it does to the state
pub simulates : (s : ParseState) (k : Token) → Sound s → next (state_shape s) (class_of k) ≡ state_shape_if (shift s k)
simulates s (Token.name name) h = sim_name s name
simulates s (Token.keyword word) h = refl
simulates s (Token.number n) h = sim_number s n
simulates s (Token.text value) h = sim_constant s (PlainExpr.text value) refl (λ d. refl)
simulates s (Token.bit value) h = sim_constant s (PlainExpr.bit value) refl (λ d. refl)
simulates s (Token.sign sign) h = sim_sign s sign h

no_end : (g : Ground) (b : Bracket) (bs : List Bracket) → may_end_in g (b ∷ bs) ≡ false
no_end Ground.Whole b bs = refl
no_end Ground.Listed b bs = refl
no_end Ground.TargetIndex b bs = refl
no_end Ground.VariableIndex b bs = refl
no_end Ground.CallList b bs = refl

ends_base : (b : Base) (t : PlainExpr) → may_end_in (ground_of_base b) [] ≡ is_some (Machine.phrase_of_base b t)
ends_base Base.condition t = refl
ends_base Base.expression t = refl
ends_base (Base.expressions done) t = refl
ends_base (Base.assigned reference) t = refl
ends_base (Base.target_subscript name) t = refl
ends_base (Base.variable_subscript done name) t = refl
ends_base (Base.call_arguments name done) t = refl

ends_at : (s : ParseStack) (t : PlainExpr) → hole s ≤ 1 → may_end_in (ground_of s) (brackets_of s) ≡ is_some (phrase_of_stack s t)
ends_at (ParseStack.base b) t le = ends_base b t
ends_at (ParseStack.prefix op s) t le = absurd (omega arith)
ends_at (ParseStack.left a op s) t le = absurd (omega (arith, above_none op))
ends_at (ParseStack.parenthesis s) t le = no_end _ _ _
ends_at (ParseStack.subscript name s) t le = no_end _ _ _
ends_at (ParseStack.arguments function done s) t le = no_end _ _ _

ends_role : (role : Role) (name : List ℕ) → Recognizer.may_end_name (use_of role) ≡ is_some (Machine.phrase_of_role role name)
ends_role Role.target name = refl
ends_role (Role.variables done) name = refl
ends_role Role.callee name = refl
ends_role (Role.items done) name = refl
ends_role (Role.names done) name = refl
ends_role Role.variable name = refl
ends_role Role.procedure name = refl

-- the tokens may be a whole phrase exactly where they are read as one
pub ends_as : (s : ParseState) → Sound s → may_end (state_shape s) ≡ is_some (phrase_of s)
ends_as (ParseState.had s t) h =
    let o = reduced s 1 t in
    let p = same_place 1 s t in
    sym (ap₂ may_end_in p.0 p.1) ∙ ends_at o.0 o.1 (joins_at 1 s t h (le_refl _)).low
ends_as (ParseState.name_had role name) h = ends_role role name
ends_as s h = refl
