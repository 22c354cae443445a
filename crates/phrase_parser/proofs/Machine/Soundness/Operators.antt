-- The signs of operators are taken, and that of assignment.
use Rattle.std.proofs.Common.{◌≡◌, refl, ℕ, List, [], ◌∷◌, ◌++◌, Option, Some, None, ap, sym, subst, ◌∙◌, append_assoc}
use Rattle.plcs_grammar.specs.declared.operator.PrefixOp.{PrefixOp}
use Rattle.plcs_grammar.specs.declared.operator.InfixOp.{InfixOp}
use Rattle.plcs_grammar.specs.declared.operator.InfixOp.TheVariants as between
use Rattle.plcs_grammar.specs.declared.sign.Sign.{Sign}
use Rattle.plcs_grammar.specs.Sign.{prefix_sign, infix_sign}
use Rattle.plcs_grammar.specs.Token.{Token}
use Rattle.plcs_grammar.specs.PlainPhrase.{PlainExpr}
use Rattle.plcs_grammar.specs.Level.{priority}
use Rattle.phrase_parser.specs.Private.Machine
use Rattle.phrase_parser.specs.Private.Machine.{ParseStack, Role, ParseState, Operand, reduced, after_infix, prefix_of, infix_of}
use Rattle.phrase_parser.proofs.Machine.ExprSpelling.{spell}
use Rattle.phrase_parser.proofs.Machine.ExprsRead.{above_none}
use Rattle.phrase_parser.proofs.Machine.ConsumedTokens.{flat_stack, hole, SoundStack, SoundRole, Sound}
use Rattle.phrase_parser.proofs.Machine.Soundness.JoinedOperands.{Joins, reduced_joins}
use Rattle.phrase_parser.proofs.Machine.Soundness.TakenTokens.{After, AfterIf}

-- the state after an infix operator has joined what stands before it
joined_after : (op : InfixOp) (s : ParseStack) (t : PlainExpr) (o : Operand) → Joins (priority op) s t o
    → After (ParseState.had s t) (Token.sign (infix_sign op)) (after_infix op o)
joined_after op s t o joined = record {
  sound = (joined.low, joined.fits, joined.sound);
  tokens = sym (append_assoc (flat_stack o.0) (spell o.1) (Token.sign (infix_sign op) ∷ [])) ∙ ap (λ z. z ++ (Token.sign (infix_sign op) ∷ [])) joined.tokens;
  category = joined.category;
}

infix_after : (op : InfixOp) (s : ParseStack) (t : PlainExpr) → Sound (ParseState.had s t)
    → After (ParseState.had s t) (Token.sign (infix_sign op)) (after_infix op (reduced s (priority op) t))
infix_after op s t is_sound =
    joined_after op s t (reduced s (priority op) t)
    (reduced_joins (priority op) s t is_sound.0 (is_sound.1 (hole s)) (is_sound.1 (priority op)) (above_none op))

assigned_by_role_after : (role : Role) (name : List ℕ) → SoundRole role
    → AfterIf (ParseState.name_had role name) (Token.sign Sign.Equal) (Machine.shift_equal_role role name)
assigned_by_role_after Role.target name is_sound = record { sound = tt; tokens = refl; category = refl }
assigned_by_role_after role name is_sound = tt

pub equated_after : (s : ParseState) → Sound s → AfterIf s (Token.sign Sign.Equal) (Machine.shift_equal s)
equated_after (ParseState.had s t) is_sound = infix_after between.Equal s t is_sound
equated_after (ParseState.name_had role name) is_sound = assigned_by_role_after role name is_sound
equated_after (ParseState.target_had reference) is_sound = record { sound = is_sound; tokens = refl; category = refl }
equated_after s is_sound = tt

-- a prefix operator, if there is one, has the sign
abbrev PrefixIs : Sign → Option PrefixOp → Type 0
PrefixIs sign None = Unit {0}
PrefixIs sign (Some op) = prefix_sign op ≡ sign

-- an infix operator, if there is one, has the sign
abbrev InfixIs : Sign → Option InfixOp → Type 0
InfixIs sign None = Unit {0}
InfixIs sign (Some op) = infix_sign op ≡ sign

prefix_is : (sign : Sign) → PrefixIs sign (prefix_of sign)
prefix_is Sign.Plus = refl
prefix_is Sign.Minus = refl
prefix_is Sign.Caret = refl
prefix_is sign = tt

infix_is : (sign : Sign) → InfixIs sign (infix_of sign)
infix_is Sign.Bar = refl
infix_is Sign.Ampersand = refl
infix_is Sign.Equal = refl
infix_is Sign.NotEqual = refl
infix_is Sign.Less = refl
infix_is Sign.LessEqual = refl
infix_is Sign.Greater = refl
infix_is Sign.GreaterEqual = refl
infix_is Sign.Join = refl
infix_is Sign.Plus = refl
infix_is Sign.Minus = refl
infix_is Sign.Times = refl
infix_is Sign.Divide = refl
infix_is sign = tt

with_prefix_after : (s : ParseStack) (sign : Sign) (found : Option PrefixOp) → PrefixIs sign found → SoundStack s
    → AfterIf (ParseState.wanted s) (Token.sign sign) (Machine.shift_prefix s found)
with_prefix_after s sign None is_sign is_sound = tt
with_prefix_after s sign (Some op) is_sign is_sound =
    record { sound = is_sound; tokens = ap (λ x. flat_stack s ++ (Token.sign x ∷ [])) is_sign; category = refl }

with_infix_after : (s : ParseStack) (t : PlainExpr) (sign : Sign) (found : Option InfixOp) → InfixIs sign found → Sound (ParseState.had s t)
    → AfterIf (ParseState.had s t) (Token.sign sign) (Machine.shift_infix s t found)
with_infix_after s t sign None is_sign is_sound = tt
with_infix_after s t sign (Some op) is_sign is_sound =
    subst (λ x. After (ParseState.had s t) (Token.sign x) (after_infix op (reduced s (priority op) t))) is_sign (infix_after op s t is_sound)

pub operated_after : (s : ParseState) (sign : Sign) → Sound s → AfterIf s (Token.sign sign) (Machine.shift_operator s sign)
operated_after (ParseState.wanted s) sign is_sound = with_prefix_after s sign (prefix_of sign) (prefix_is sign) is_sound
operated_after (ParseState.had s t) sign is_sound = with_infix_after s t sign (infix_of sign) (infix_is sign) is_sound
operated_after s sign is_sound = tt
