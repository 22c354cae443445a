-- Closing parentheses are taken.
use Rattle.std.proofs.Common.{◌≡◌, refl, List, [], ◌∷◌, ◌++◌, Some, ap, sym, ◌∙◌, append_assoc, le_refl}
use Rattle.plcs_grammar.specs.Token.{Token}
use Rattle.plcs_grammar.specs.PlainPhrase.{PlainExpr, PlainExprs, PlainVarRef}
use Rattle.plcs_grammar.specs.Builtin.{builtin_name}
use Rattle.plcs_grammar.specs.Level.{in_parentheses}
use Rattle.phrase_parser.specs.Private.Machine
use Rattle.phrase_parser.specs.Private.Machine.{Base, ParseStack, ParseState, expr_push, reduced}
use Rattle.phrase_parser.proofs.Machine.ExprSpelling.{spell, spell_reference, spell_all, FitsReference}
use Rattle.phrase_parser.proofs.Machine.PhraseSpelling.{spell_item, FitsItem}
use Rattle.phrase_parser.proofs.Machine.ConsumedTokens.{spell_before, all_push, call_push, all_fit, spell_each, listed_last, listed_fits, flat_stack, hole, Sound}
use Rattle.phrase_parser.proofs.Machine.Soundness.JoinedOperands.{Joins, reduced_joins}
use Rattle.phrase_parser.proofs.Machine.Soundness.TakenTokens.{close, open_, AfterIf, regroup}

-- the tokens of a call in an expression
pub arguments_tokens : (a : List Token) (k : Token) (done : PlainExprs) (t : PlainExpr)
    → a ++ (k ∷ in_parentheses (spell_all (expr_push done t))) ≡ ((a ++ (k ∷ open_ ∷ spell_before done)) ++ spell t) ++ (close ∷ [])
arguments_tokens a k done t =
    ap (λ z. a ++ (k ∷ in_parentheses z)) (all_push done t)
    ∙ ap (λ z. a ++ (k ∷ open_ ∷ z)) (append_assoc (spell_before done) (spell t) (close ∷ []))
    ∙ regroup a (k ∷ open_ ∷ spell_before done) (spell t) (close ∷ [])

closed_base_after : (s : ParseStack) (t u : PlainExpr) (b : Base) → Joins 1 s u (ParseStack.base b, t)
    → AfterIf (ParseState.had s u) close (Machine.shift_close_base b t)
closed_base_after s t u (Base.target_subscript name) joined =
    record { sound = joined.fits; tokens = ap (λ z. z ++ (close ∷ [])) joined.tokens; category = joined.category }
closed_base_after s t u (Base.variable_subscript done name) joined = record {
  sound = listed_fits FitsReference done (PlainVarRef.subscripted name t) joined.sound joined.fits;
  tokens = listed_last spell_reference done (PlainVarRef.subscripted name t)
      ∙ regroup (spell_each spell_reference done) (Token.name name ∷ open_ ∷ []) (spell t) (close ∷ [])
      ∙ ap (λ z. z ++ (close ∷ [])) joined.tokens;
  category = joined.category;
}
closed_base_after s t u (Base.call_arguments name done) joined = record {
  sound = all_fit done t joined.sound joined.fits;
  tokens = call_push name done t ∙ arguments_tokens [] (Token.name name) done t ∙ ap (λ z. z ++ (close ∷ [])) joined.tokens;
  category = joined.category;
}
closed_base_after s t u b joined = tt

closed_at_after : (s : ParseStack) (t u : PlainExpr) (r : ParseStack) → Joins 1 s u (r, t)
    → AfterIf (ParseState.had s u) close (Machine.shift_close_stack r t)
closed_at_after s t u (ParseStack.base b) joined = closed_base_after s t u b joined
closed_at_after s t u (ParseStack.prefix op r) joined = tt
closed_at_after s t u (ParseStack.left a op r) joined = tt
closed_at_after s t u (ParseStack.parenthesis r) joined = record {
  sound = (joined.sound, λ level. joined.fits);
  tokens = regroup (flat_stack r) (open_ ∷ []) (spell t) (close ∷ []) ∙ ap (λ z. z ++ (close ∷ [])) joined.tokens;
  category = joined.category;
}
closed_at_after s t u (ParseStack.subscript name r) joined = record {
  sound = (joined.sound.1, λ level. (joined.sound.0, joined.fits));
  tokens = regroup (flat_stack r) (Token.name name ∷ open_ ∷ []) (spell t) (close ∷ []) ∙ ap (λ z. z ++ (close ∷ [])) joined.tokens;
  category = joined.category;
}
closed_at_after s t u (ParseStack.arguments function done r) joined = record {
  sound = (joined.sound.1, λ level. all_fit done t joined.sound.0 joined.fits);
  tokens = arguments_tokens (flat_stack r) (Token.name (builtin_name function)) done t ∙ ap (λ z. z ++ (close ∷ [])) joined.tokens;
  category = joined.category;
}

pub closed_after : (s : ParseState) → Sound s → AfterIf s close (Machine.shift_close s)
closed_after (ParseState.had s t) is_sound =
    let o = reduced s 1 t in
    closed_at_after s o.1 t o.0 (reduced_joins 1 s t is_sound.0 (is_sound.1 (hole s)) (is_sound.1 1) (le_refl _))
closed_after (ParseState.size_had done name n) is_sound = record {
  sound = listed_fits FitsItem done (record { name = name; size = Some n }) is_sound.1 is_sound.0;
  tokens = listed_last spell_item done (record { name = name; size = Some n })
      ∙ sym (append_assoc (spell_each spell_item done) (Token.name name ∷ open_ ∷ Token.number n ∷ []) (close ∷ []));
  category = refl;
}
closed_after s is_sound = tt
