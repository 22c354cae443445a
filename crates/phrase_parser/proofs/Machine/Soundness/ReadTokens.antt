-- The tokens that the machine has taken are those that it has read.
use Rattle.std.proofs.Common.{◌≡◌, refl, List, [], ◌∷◌, ◌++◌, Option, Some, None, ap, sym, subst, ◌∙◌, append_assoc, append-nil}
use Rattle.plcs_grammar.specs.declared.category.Category.{Category}
use Rattle.plcs_grammar.specs.declared.category.Category.TheVariants.{Assignment, Condition, Expression, ExpressionList, VariableList, Variable, CallRef, DeclaredList, ProcedureName, NameList, Length, CommentText}
use Rattle.plcs_grammar.specs.declared.sign.Sign.{Sign}
use Rattle.plcs_grammar.specs.Token.{Token}
use Rattle.plcs_grammar.specs.PlainPhrase.{PlainExpr}
use Rattle.phrase_parser.specs.Private.Machine
use Rattle.phrase_parser.specs.Private.Machine.{ParseState, shift, shift_all, start_state}
use Rattle.phrase_parser.proofs.Machine.MachineRuns.{run_none}
use Rattle.phrase_parser.proofs.Machine.ConsumedTokens.{flat, Sound, state_category}
use Rattle.phrase_parser.proofs.Machine.Soundness.TakenTokens.{AfterIf}
use Rattle.phrase_parser.proofs.Machine.Soundness.TakenOperands.{operand_after, named_after, numbered_after}
use Rattle.phrase_parser.proofs.Machine.Soundness.OpenedParentheses.{opened_after}
use Rattle.phrase_parser.proofs.Machine.Soundness.ClosedParentheses.{closed_after}
use Rattle.phrase_parser.proofs.Machine.Soundness.Commas.{separated_after}
use Rattle.phrase_parser.proofs.Machine.Soundness.Operators.{equated_after, operated_after}

signed_after : (s : ParseState) (sign : Sign) → Sound s → AfterIf s (Token.sign sign) (Machine.shift_sign s sign)
signed_after s Sign.OpenParenthesis is_sound = opened_after s is_sound
signed_after s Sign.CloseParenthesis is_sound = closed_after s is_sound
signed_after s Sign.Comma is_sound = separated_after s is_sound
signed_after s Sign.Equal is_sound = equated_after s is_sound
signed_after s sign is_sound = operated_after s sign is_sound

-- one more token stops the machine, or is one more that it has read
pub step_after : (s : ParseState) (k : Token) → Sound s → AfterIf s k (shift s k)
step_after s (Token.name name) is_sound = named_after s name is_sound
step_after s (Token.keyword word) is_sound = tt
step_after s (Token.number n) is_sound = numbered_after s n is_sound
step_after s (Token.text value) is_sound = operand_after s (Token.text value) (PlainExpr.text value) (λ level. tt) refl is_sound
step_after s (Token.bit value) is_sound = operand_after s (Token.bit value) (PlainExpr.bit value) (λ level. tt) refl is_sound
step_after s (Token.sign sign) is_sound = signed_after s sign is_sound

-- a state after more tokens
pub record Behind (s : ParseState) (ks : List Token) (z : ParseState) : Type 0 where
  pub sound : Sound z
  pub tokens : flat z ≡ flat s ++ ks
  pub category : state_category z ≡ state_category s

run_behind_if : (s z : ParseState) (k : Token) (ks : List Token) (next : Option ParseState) → AfterIf s k next → shift_all ks next ≡ Some z
    → ((r : ParseState) → Sound r → shift_all ks (Some r) ≡ Some z → Behind r ks z) → Behind s (k ∷ ks) z
run_behind_if s z k ks None taken ends goes = let stopped = run_none ks in absurd (cc)
run_behind_if s z k ks (Some r) taken ends goes =
    let behind = goes r taken.sound ends in
    record {
      sound = behind.sound;
      tokens = behind.tokens ∙ ap (λ w. w ++ ks) taken.tokens ∙ append_assoc (flat s) (k ∷ []) ks;
      category = behind.category ∙ taken.category;
    }

-- the tokens that the machine has taken are those that it has read
pub run_behind : (ks : List Token) (s z : ParseState) → Sound s → shift_all ks (Some s) ≡ Some z → Behind s ks z
run_behind [] s z is_sound ends =
    let same : s ≡ z = cc in
    subst (λ w. Behind s [] w) same (record { sound = is_sound; tokens = sym (append-nil (flat s)); category = refl })
run_behind (k ∷ ks) s z is_sound ends = run_behind_if s z k ks (shift s k) (step_after s k is_sound) ends (λ r r_sound r_ends. run_behind ks r z r_sound r_ends)

-- the first state of a category has read nothing
pub record IsFresh (c : Category) (s : ParseState) : Type 0 where
  pub sound : Sound s
  pub tokens : flat s ≡ []
  pub category : state_category s ≡ c

-- where there is a first state, it has read nothing
abbrev pub IsFreshIf : Category → Option ParseState → Type 0
IsFreshIf c None = Unit {0}
IsFreshIf c (Some s) = IsFresh c s

-- the first state of each category has read nothing
pub start_fresh : (c : Category) → IsFreshIf c (start_state c)
start_fresh Assignment = record { sound = tt; tokens = refl; category = refl }
start_fresh Condition = record { sound = tt; tokens = refl; category = refl }
start_fresh Expression = record { sound = tt; tokens = refl; category = refl }
start_fresh ExpressionList = record { sound = tt; tokens = refl; category = refl }
start_fresh VariableList = record { sound = tt; tokens = refl; category = refl }
start_fresh Variable = record { sound = tt; tokens = refl; category = refl }
start_fresh CallRef = record { sound = tt; tokens = refl; category = refl }
start_fresh DeclaredList = record { sound = tt; tokens = refl; category = refl }
start_fresh ProcedureName = record { sound = tt; tokens = refl; category = refl }
start_fresh NameList = record { sound = tt; tokens = refl; category = refl }
start_fresh Length = record { sound = tt; tokens = refl; category = refl }
start_fresh CommentText = tt

-- the state after tokens from the start of a category has read them
pub record HasRead (c : Category) (ks : List Token) (s : ParseState) : Type 0 where
  pub sound : Sound s
  pub tokens : flat s ≡ ks
  pub category : state_category s ≡ c

has_read_if : (c : Category) (first : Option ParseState) (ks : List Token) (s : ParseState) → IsFreshIf c first → shift_all ks first ≡ Some s
    → HasRead c ks s
has_read_if c None ks s fresh ends = let stopped = run_none ks in absurd (cc)
has_read_if c (Some first) ks s fresh ends =
    let behind = run_behind ks first s fresh.sound ends in
    record { sound = behind.sound; tokens = behind.tokens ∙ ap (λ z. z ++ ks) fresh.tokens; category = behind.category ∙ fresh.category }

-- the tokens from the start of a category are those that were read
pub has_read : (c : Category) (ks : List Token) (s : ParseState) → shift_all ks (start_state c) ≡ Some s → HasRead c ks s
has_read c ks s ends = has_read_if c (start_state c) ks s (start_fresh c) ends
