-- Which tokens the machine without trees takes, where they may end, and which levels they open.
use Rattle.std.proofs.Common.{◌≡◌, refl, ℕ, ◌+◌, true, false, List, [], ◌∷◌, map, Option, Some, None, is_some, ap, sym, ◌∙◌}
use Rattle.plcs_grammar.specs.declared.category.Category.{Category}
use Rattle.plcs_grammar.specs.declared.category.Category.TheVariants.{Assignment, Condition, Expression, ExpressionList, VariableList, Variable, CallRef, DeclaredList, ProcedureName, NameList, Length, CommentText}
use Rattle.plcs_grammar.specs.declared.sign.Sign.{Sign}
use Rattle.plcs_grammar.specs.Token.{Token}
use Rattle.plcs_grammar.specs.Cuts.{Piece, tokens_of}
use Rattle.plcs_grammar.specs.PlainPhrase.{PlainExpr, PlainVarRef, PlainPhrase}
use Rattle.plcs_grammar.specs.PhraseForm.{Form, Begins}
use Rattle.plcs_grammar.specs.OpenedLevel.{phrase_opened_levels}
use Rattle.plcs_grammar.specs.OverLimit.{first_over}
use Rattle.phrase_parser.specs.Private.Machine
use Rattle.phrase_parser.specs.Private.Machine.{ParseStack, Role, ParseState, shift, shift_all, start_state, phrase_of_if}
use Rattle.phrase_parser.specs.Private.MachineLevels.{opens, opens_by_role, opens_before, opens_after, machine_levels, stack_depth}
use Rattle.phrase_parser.specs.Private.Recognizer
use Rattle.phrase_parser.specs.declared.check.token_class.TokenClass.{TokenClass}
use Rattle.phrase_parser.specs.Private.Recognizer.{class_of, Shape, next, follow, first_shape, may_end, level_of, follow_levels}
use Rattle.phrase_parser.proofs.Machine.Completeness.{complete, traced_over, alive}
use Rattle.phrase_parser.proofs.Machine.MachineRuns.{run_none}
use Rattle.phrase_parser.proofs.Machine.ConsumedTokens.{Sound}
use Rattle.phrase_parser.proofs.Machine.Soundness.TakenTokens.{AfterIf}
use Rattle.phrase_parser.proofs.Machine.Soundness.ReadTokens.{step_after, has_read, IsFreshIf, start_fresh}
use Rattle.phrase_parser.proofs.Machine.Soundness.ReadPhrases.{sound}
use Rattle.phrase_parser.proofs.Machine.ViablePrefixes.{viable, stopped, no_form}
use Rattle.phrase_parser.proofs.Findings.Simulation.{use_of, last_of, state_shape, state_shape_if, simulates, ends_as}

-- what is looked at of each token
abbrev pub classes_of : List Token → List TokenClass
classes_of ks = map class_of ks

-- the machine without trees that stopped stays so
pub follow_none : (classes : List TokenClass) → follow classes None ≡ None
follow_none [] = refl
follow_none (class ∷ classes) = follow_none classes

follows_if : (s : ParseState) (k : Token) (ks : List Token) (z : Option ParseState) → AfterIf s k z
    → ((r : ParseState) → Sound r → follow (classes_of ks) (Some (state_shape r)) ≡ state_shape_if (shift_all ks (Some r)))
    → follow (classes_of ks) (state_shape_if z) ≡ state_shape_if (shift_all ks z)
follows_if s k ks None a f = follow_none (classes_of ks) ∙ sym (ap state_shape_if (run_none ks))
follows_if s k ks (Some r) a f = f r a.sound

-- tokens do to the shape what they do to the state
pub follows : (ks : List Token) (s : ParseState) → Sound s → follow (classes_of ks) (Some (state_shape s)) ≡ state_shape_if (shift_all ks (Some s))
follows [] s h = refl
follows (k ∷ ks) s h =
    ap (follow (classes_of ks)) (simulates s k h) ∙ follows_if s k ks (shift s k) (step_after s k h) (λ r g. follows ks r g)

first_as : (c : Category) → first_shape c ≡ state_shape_if (start_state c)
first_as Assignment = refl
first_as Condition = refl
first_as Expression = refl
first_as ExpressionList = refl
first_as VariableList = refl
first_as Variable = refl
first_as CallRef = refl
first_as DeclaredList = refl
first_as ProcedureName = refl
first_as NameList = refl
first_as Length = refl
first_as CommentText = refl

follows_first : (c : Category) (first : Option ParseState) (ks : List Token) → IsFreshIf c first
    → follow (classes_of ks) (state_shape_if first) ≡ state_shape_if (shift_all ks first)
follows_first c None ks f = follow_none (classes_of ks) ∙ sym (ap state_shape_if (run_none ks))
follows_first c (Some s) ks f = follows ks s f.sound

-- tokens do to the first shape of a category what they do to its first state
pub follows_start : (c : Category) (ks : List Token) → follow (classes_of ks) (first_shape c) ≡ state_shape_if (shift_all ks (start_state c))
follows_start c ks = ap (follow (classes_of ks)) (first_as c) ∙ follows_first c (start_state c) ks (start_fresh c)

role_sign_level : (role : Role) (sign : Sign) → Recognizer.sign_level (Shape.name_had (use_of role)) sign ≡ opens_by_role role (Token.sign sign)
role_sign_level Role.target Sign.OpenParenthesis = refl
role_sign_level (Role.variables done) Sign.OpenParenthesis = refl
role_sign_level Role.callee Sign.OpenParenthesis = refl
role_sign_level (Role.items done) Sign.OpenParenthesis = refl
role_sign_level (Role.names done) Sign.OpenParenthesis = refl
role_sign_level Role.variable Sign.OpenParenthesis = refl
role_sign_level Role.procedure Sign.OpenParenthesis = refl
role_sign_level Role.target sign = refl
role_sign_level (Role.variables done) sign = refl
role_sign_level Role.callee sign = refl
role_sign_level (Role.items done) sign = refl
role_sign_level (Role.names done) sign = refl
role_sign_level Role.variable sign = refl
role_sign_level Role.procedure sign = refl

behind_level : (s : ParseStack) (t : PlainExpr) (z : ParseState) → Machine.shift_open_after s t ≡ Some z
    → Recognizer.level_after (last_of (stack_depth s) t) ≡ stack_depth s + 1
behind_level s (PlainExpr.variable (PlainVarRef.simple name)) z e = refl
behind_level s t z e = absurd (cc)

had_level : (s : ParseStack) (t : PlainExpr) (sign : Sign) (z : ParseState) → shift (ParseState.had s t) (Token.sign sign) ≡ Some z
    → Recognizer.sign_level (state_shape (ParseState.had s t)) sign ≡ opens (ParseState.had s t) (Token.sign sign)
had_level s t Sign.OpenParenthesis z e = behind_level s t z e
had_level s t sign z e = refl

sign_levels : (s : ParseState) (sign : Sign) (z : ParseState) → shift s (Token.sign sign) ≡ Some z
    → Recognizer.sign_level (state_shape s) sign ≡ opens s (Token.sign sign)
sign_levels (ParseState.had s t) sign z e = had_level s t sign z e
sign_levels (ParseState.name_had role name) sign z e = role_sign_level role sign
sign_levels s sign z e = refl

-- the token is no sign
abbrev NoSign : Token → Type 0
NoSign (Token.sign sign) = ⊥
NoSign k = Unit {0}

before_plain : (d : ℕ) (k : Token) → NoSign k → 0 ≡ opens_before d k
before_plain d (Token.sign sign) h = absurd h
before_plain d k h = refl

behind_plain : (d : ℕ) (k : Token) → NoSign k → 0 ≡ opens_after d k
behind_plain d (Token.sign sign) h = absurd h
behind_plain d k h = refl

role_plain : (role : Role) (k : Token) → NoSign k → 0 ≡ opens_by_role role k
role_plain (Role.items done) k h = refl
role_plain Role.target k h = behind_plain 0 k h
role_plain (Role.variables done) k h = behind_plain 0 k h
role_plain Role.callee k h = behind_plain 0 k h
role_plain (Role.names done) k h = behind_plain 0 k h
role_plain Role.variable k h = behind_plain 0 k h
role_plain Role.procedure k h = behind_plain 0 k h

plain_opens : (s : ParseState) (k : Token) → NoSign k → 0 ≡ opens s k
plain_opens (ParseState.wanted s) k h = before_plain (stack_depth s) k h
plain_opens (ParseState.had s t) k h = behind_plain (stack_depth s) k h
plain_opens (ParseState.name_had role name) k h = role_plain role k h
plain_opens s k h = refl

-- a token that is taken opens the same level
pub opens_as : (s : ParseState) (k : Token) (z : ParseState) → shift s k ≡ Some z → level_of (state_shape s) (class_of k) ≡ opens s k
opens_as s (Token.name name) z e = plain_opens s (Token.name name) tt
opens_as s (Token.keyword word) z e = plain_opens s (Token.keyword word) tt
opens_as s (Token.number n) z e = plain_opens s (Token.number n) tt
opens_as s (Token.text value) z e = plain_opens s (Token.text value) tt
opens_as s (Token.bit value) z e = plain_opens s (Token.bit value) tt
opens_as s (Token.sign sign) z e = sign_levels s sign z e

levels_if : (s : ParseState) (k : Token) (ks : List Token) (z : ParseState) (found : Option ParseState) → Sound s → shift s k ≡ found
    → AfterIf s k found → shift_all ks found ≡ Some z
    → ((r : ParseState) → Sound r → shift_all ks (Some r) ≡ Some z → follow_levels (classes_of ks) (Some (state_shape r)) ≡ machine_levels ks (Some r))
    → follow_levels (classes_of (k ∷ ks)) (Some (state_shape s)) ≡ machine_levels (k ∷ ks) (Some s)
levels_if s k ks z None h e a f go = let n = run_none ks in absurd (cc)
levels_if s k ks z (Some r) h e a f go =
    ap (λ n. n ∷ follow_levels (classes_of ks) (next (state_shape s) (class_of k))) (opens_as s k r e)
    ∙ ap (λ o. opens s k ∷ follow_levels (classes_of ks) o) (simulates s k h ∙ ap state_shape_if e)
    ∙ ap (λ l. opens s k ∷ l) (go r a.sound f)
    ∙ sym (ap (λ o. opens s k ∷ machine_levels ks o) e)

-- tokens that are taken open the same levels
pub follows_levels : (ks : List Token) (s z : ParseState) → Sound s → shift_all ks (Some s) ≡ Some z
    → follow_levels (classes_of ks) (Some (state_shape s)) ≡ machine_levels ks (Some s)
follows_levels [] s z h e = refl
follows_levels (k ∷ ks) s z h e =
    levels_if s k ks z (shift s k) h refl (step_after s k h) e (λ r g f. follows_levels ks r z g f)

first_levels : (c : Category) (first : Option ParseState) (ks : List Token) (z : ParseState) → IsFreshIf c first → shift_all ks first ≡ Some z
    → follow_levels (classes_of ks) (state_shape_if first) ≡ machine_levels ks first
first_levels c None ks z f e = let n = run_none ks in absurd (cc)
first_levels c (Some s) ks z f e = follows_levels ks s z f.sound e

state_behind : (found : Option ParseState) (shape : Shape) → state_shape_if found ≡ Some shape
    → (s : ParseState) × (found ≡ Some s) × (state_shape s ≡ shape)
state_behind None shape e = absurd (cc)
state_behind (Some s) shape e = (s, refl, cc)

no_state : (found : Option ParseState) → state_shape_if found ≡ None → found ≡ None
no_state None e = refl
no_state (Some s) e = absurd (cc)

some_phrase : (found : Option PlainPhrase) → is_some found ≡ true → (p : PlainPhrase) × (found ≡ Some p)
some_phrase None e = absurd (cc)
some_phrase (Some p) e = (p, refl)

no_phrase : (found : Option PlainPhrase) → is_some found ≡ false → found ≡ None
no_phrase None e = refl
no_phrase (Some p) e = absurd (cc)

state_ended : (found : Option ParseState) (p : PlainPhrase) → phrase_of_if found ≡ Some p → (s : ParseState) × (found ≡ Some s)
state_ended None p e = absurd (cc)
state_ended (Some s) p e = (s, refl)

-- tokens that are taken begin a phrase
pub taken_begins : (c : Category) (ks : List Token) (shape : Shape) → follow (classes_of ks) (first_shape c) ≡ Some shape → Begins c ks
taken_begins c ks shape e =
    let r = state_behind (shift_all ks (start_state c)) shape (sym (follows_start c ks) ∙ e) in
    viable c ks r.0 r.1

-- tokens that are not taken begin no phrase
pub refused_begins : (c : Category) (ks : List Token) → follow (classes_of ks) (first_shape c) ≡ None → Begins c ks → ⊥
refused_begins c ks e h = stopped c ks (no_state (shift_all ks (start_state c)) (sym (follows_start c ks) ∙ e)) h

ended_as : (c : Category) (ks : List Token) (shape : Shape) → follow (classes_of ks) (first_shape c) ≡ Some shape
    → may_end shape ≡ is_some (phrase_of_if (shift_all ks (start_state c)))
ended_as c ks shape e =
    let r = state_behind (shift_all ks (start_state c)) shape (sym (follows_start c ks) ∙ e) in
    let h = has_read c ks r.0 r.1 in
    sym (ap may_end r.2) ∙ ends_as r.0 h.sound ∙ sym (ap (λ o. is_some (phrase_of_if o)) r.1)

-- where tokens may end they are a phrase
pub whole_form : (c : Category) (ks : List Token) (shape : Shape) → follow (classes_of ks) (first_shape c) ≡ Some shape
    → may_end shape ≡ true → (p : PlainPhrase) × Form c ks p
whole_form c ks shape e m =
    let r = some_phrase (phrase_of_if (shift_all ks (start_state c))) (sym (ended_as c ks shape e) ∙ m) in
    (r.0, sound c ks r.0 r.1)

-- where tokens may not end they are no phrase
pub part_form : (c : Category) (ks : List Token) (shape : Shape) → follow (classes_of ks) (first_shape c) ≡ Some shape
    → may_end shape ≡ false → (p : PlainPhrase) → Form c ks p → ⊥
part_form c ks shape e m p h =
    no_form c ks (no_phrase (phrase_of_if (shift_all ks (start_state c))) (sym (ended_as c ks shape e) ∙ m)) p h

-- by the levels that they open, the first token over a limit is the phrase's
pub levels_over : (c : Category) (pieces : List Piece) (p : PlainPhrase) → Form c (tokens_of pieces) p
    → first_over pieces (follow_levels (classes_of (tokens_of pieces)) (first_shape c)) ≡ first_over pieces (phrase_opened_levels p)
levels_over c pieces p h =
    let ks = tokens_of pieces in
    let r = state_ended (shift_all ks (start_state c)) p (complete c ks p h) in
    ap (λ o. first_over pieces (follow_levels (classes_of ks) o)) (first_as c)
    ∙ ap (first_over pieces) (first_levels c (start_state c) ks r.0 (start_fresh c) r.1)
    ∙ traced_over c pieces p h

-- tokens that begin a phrase are taken
pub begins_taken : (c : Category) (ks : List Token) → Begins c ks
    → (shape : Shape) × (follow (classes_of ks) (first_shape c) ≡ Some shape)
begins_taken c ks h = let r = alive c ks h in (state_shape r.0, follows_start c ks ∙ ap state_shape_if r.1)

-- a phrase is taken, and may end
pub form_taken : (c : Category) (ks : List Token) (p : PlainPhrase) → Form c ks p
    → (shape : Shape) × (follow (classes_of ks) (first_shape c) ≡ Some shape) × (may_end shape ≡ true)
form_taken c ks p h =
    let r = state_ended (shift_all ks (start_state c)) p (complete c ks p h) in
    let e : follow (classes_of ks) (first_shape c) ≡ Some (state_shape r.0) = follows_start c ks ∙ ap state_shape_if r.1 in
    (state_shape r.0, e, ended_as c ks (state_shape r.0) e ∙ ap is_some (complete c ks p h))
