-- Joining the operators that are open keeps the tokens and the levels.
use Rattle.std.proofs.Common.{◌≡◌, refl, ℕ, ◌≤◌, leb, leb-true, leb-false, [], ◌∷◌, ◌++◌, ap, sym, ◌∙◌, arith, append_assoc}
use Rattle.std.proofs.lemmas.Bool.{cond_both}
use Rattle.plcs_grammar.specs.Sign.{prefix_sign, infix_sign}
use Rattle.plcs_grammar.specs.Token.{Token}
use Rattle.plcs_grammar.specs.PlainPhrase.{PlainExpr}
use Rattle.plcs_grammar.specs.Level.{priority}
use Rattle.phrase_parser.specs.Private.Machine.{ParseStack, Operand, reduced}
use Rattle.phrase_parser.proofs.Machine.ExprSpelling.{spell, Fits}
use Rattle.phrase_parser.proofs.Machine.ConsumedTokens.{flat_stack, hole, SoundStack, stack_category}

-- an operand on a stack that came from another, with the operators of a level joined
pub record Joins (level : ℕ) (s : ParseStack) (t : PlainExpr) (o : Operand) : Type 0 where
  pub sound : SoundStack o.0
  pub fits_hole : Fits o.1 (hole o.0)
  pub fits : Fits o.1 level
  pub low : hole o.0 ≤ level
  pub tokens : flat_stack o.0 ++ spell o.1 ≡ flat_stack s ++ spell t
  pub category : stack_category o.0 ≡ stack_category s

-- an operand with operators joined came from a stack with the same tokens
rejoins : (level : ℕ) (s r : ParseStack) (t u : PlainExpr) (o : Operand) → Joins level s t o → flat_stack s ++ spell t ≡ flat_stack r ++ spell u
    → stack_category s ≡ stack_category r → Joins level r u o
rejoins level s r t u o joined same_tokens same_category = record {
  sound = joined.sound;
  fits_hole = joined.fits_hole;
  fits = joined.fits;
  low = joined.low;
  tokens = joined.tokens ∙ same_tokens;
  category = joined.category ∙ same_category;
}

-- joining what is open keeps the tokens and the levels
pub reduced_joins : (level : ℕ) (s : ParseStack) (t : PlainExpr) → SoundStack s → Fits t (hole s) → Fits t level → 1 ≤ level
    → Joins level s t (reduced s level t)
reduced_joins level (ParseStack.base b) t stack_sound fits_hole fits_level least =
    record { sound = stack_sound; fits_hole = fits_hole; fits = fits_level; low = least; tokens = refl; category = refl }
reduced_joins level (ParseStack.prefix op s) t stack_sound fits_hole fits_level least =
    rejoins level s (ParseStack.prefix op s) (PlainExpr.unary op t) t (reduced s level (PlainExpr.unary op t))
    (reduced_joins level s (PlainExpr.unary op t) stack_sound fits_hole fits_hole least)
    (sym (append_assoc (flat_stack s) (Token.sign (prefix_sign op) ∷ []) (spell t))) refl
reduced_joins level (ParseStack.left a op s) t stack_sound fits_hole fits_level least =
    cond_both (leb level (priority op)) (reduced s level (PlainExpr.binary op a t)) (ParseStack.left a op s, t)
    (Joins level (ParseStack.left a op s) t)
    (λ binds. rejoins level s (ParseStack.left a op s) (PlainExpr.binary op a t) t (reduced s level (PlainExpr.binary op a t))
    (reduced_joins level s (PlainExpr.binary op a t) stack_sound.2 (stack_sound.0, stack_sound.1, fits_hole) (leb-true level (priority op) binds, stack_sound.1, fits_hole) least)
    (ap (λ z. flat_stack s ++ z) (sym (append_assoc (spell a) (Token.sign (infix_sign op) ∷ []) (spell t)))
    ∙ sym (append_assoc (flat_stack s) (spell a ++ (Token.sign (infix_sign op) ∷ [])) (spell t))) refl)
    (λ loose. let under = leb-false level (priority op) loose in
    record { sound = stack_sound; fits_hole = fits_hole; fits = fits_level; low = omega (arith, under); tokens = refl; category = refl })
reduced_joins level (ParseStack.parenthesis s) t stack_sound fits_hole fits_level least =
    record { sound = stack_sound; fits_hole = fits_hole; fits = fits_level; low = least; tokens = refl; category = refl }
reduced_joins level (ParseStack.subscript name s) t stack_sound fits_hole fits_level least =
    record { sound = stack_sound; fits_hole = fits_hole; fits = fits_level; low = least; tokens = refl; category = refl }
reduced_joins level (ParseStack.arguments function done s) t stack_sound fits_hole fits_level least =
    record { sound = stack_sound; fits_hole = fits_hole; fits = fits_level; low = least; tokens = refl; category = refl }
