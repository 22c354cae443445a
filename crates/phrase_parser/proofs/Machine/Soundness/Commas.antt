-- Commas are taken.
use Rattle.std.proofs.Common.{◌≡◌, refl, ℕ, List, [], ◌∷◌, ◌++◌, None, ap, sym, ◌∙◌, append_assoc, le_refl}
use Rattle.plcs_grammar.specs.Token.{Token}
use Rattle.plcs_grammar.specs.PlainPhrase.{PlainExpr, PlainExprs, PlainVarRef}
use Rattle.plcs_grammar.specs.Builtin.{builtin_name}
use Rattle.phrase_parser.specs.Private.Machine
use Rattle.phrase_parser.specs.Private.Machine.{Base, ParseStack, Role, ParseState, expr_push, reduced}
use Rattle.phrase_parser.proofs.Machine.ExprSpelling.{spell, spell_reference, FitsReference}
use Rattle.phrase_parser.proofs.Machine.PhraseSpelling.{spell_name, spell_item, FitsItem, AnyName}
use Rattle.phrase_parser.proofs.Machine.ConsumedTokens.{spell_before, before_push, behind_fits, spell_each, each_last, listed_comma, each_fits, listed_each, flat_stack, hole, SoundRole, Sound}
use Rattle.phrase_parser.proofs.Machine.Soundness.JoinedOperands.{Joins, reduced_joins}
use Rattle.phrase_parser.proofs.Machine.Soundness.TakenTokens.{comma, open_, AfterIf, regroup}

before_tokens : (a b : List Token) (done : PlainExprs) (t : PlainExpr)
    → a ++ (b ++ spell_before (expr_push done t)) ≡ ((a ++ (b ++ spell_before done)) ++ spell t) ++ (comma ∷ [])
before_tokens a b done t =
    ap (λ z. a ++ (b ++ z)) (before_push done t)
    ∙ ap (λ z. a ++ z) (sym (append_assoc b (spell_before done) (spell t ++ (comma ∷ []))))
    ∙ regroup a (b ++ spell_before done) (spell t) (comma ∷ [])

separated_base_after : (s : ParseStack) (t u : PlainExpr) (b : Base) → Joins 1 s u (ParseStack.base b, t)
    → AfterIf (ParseState.had s u) comma (Machine.shift_comma_base b t)
separated_base_after s t u (Base.expressions done) joined = record {
  sound = behind_fits done t joined.sound joined.fits;
  tokens = before_tokens [] [] done t ∙ ap (λ z. z ++ (comma ∷ [])) joined.tokens;
  category = joined.category;
}
separated_base_after s t u (Base.call_arguments name done) joined = record {
  sound = behind_fits done t joined.sound joined.fits;
  tokens = before_tokens [] (Token.name name ∷ open_ ∷ []) done t ∙ ap (λ z. z ++ (comma ∷ [])) joined.tokens;
  category = joined.category;
}
separated_base_after s t u b joined = tt

separated_at_after : (s : ParseStack) (t u : PlainExpr) (r : ParseStack) → Joins 1 s u (r, t)
    → AfterIf (ParseState.had s u) comma (Machine.shift_comma_stack r t)
separated_at_after s t u (ParseStack.base b) joined = separated_base_after s t u b joined
separated_at_after s t u (ParseStack.arguments function done r) joined = record {
  sound = (behind_fits done t joined.sound.0 joined.fits, joined.sound.1);
  tokens = before_tokens (flat_stack r) (Token.name (builtin_name function) ∷ open_ ∷ []) done t ∙ ap (λ z. z ++ (comma ∷ [])) joined.tokens;
  category = joined.category;
}
separated_at_after s t u r joined = tt

separated_by_role_after : (role : Role) (name : List ℕ) → SoundRole role
    → AfterIf (ParseState.name_had role name) comma (Machine.shift_comma_role role name)
separated_by_role_after (Role.variables done) name is_sound = record {
  sound = each_fits FitsReference done (PlainVarRef.simple name) is_sound tt;
  tokens = each_last spell_reference done (PlainVarRef.simple name)
      ∙ sym (append_assoc (spell_each spell_reference done) (Token.name name ∷ []) (comma ∷ []));
  category = refl;
}
separated_by_role_after (Role.items done) name is_sound = record {
  sound = each_fits FitsItem done (record { name = name; size = None }) is_sound tt;
  tokens = each_last spell_item done (record { name = name; size = None })
      ∙ sym (append_assoc (spell_each spell_item done) (Token.name name ∷ []) (comma ∷ []));
  category = refl;
}
separated_by_role_after (Role.names done) name is_sound = record {
  sound = each_fits AnyName done name is_sound tt;
  tokens = each_last spell_name done name ∙ sym (append_assoc (spell_each spell_name done) (Token.name name ∷ []) (comma ∷ []));
  category = refl;
}
separated_by_role_after role name is_sound = tt

pub separated_after : (s : ParseState) → Sound s → AfterIf s comma (Machine.shift_comma s)
separated_after (ParseState.had s t) is_sound =
    let o = reduced s 1 t in
    separated_at_after s o.1 t o.0 (reduced_joins 1 s t is_sound.0 (is_sound.1 (hole s)) (is_sound.1 1) (le_refl _))
separated_after (ParseState.name_had role name) is_sound = separated_by_role_after role name is_sound
separated_after (ParseState.variable_had done) is_sound = record {
  sound = listed_each FitsReference done is_sound;
  tokens = listed_comma spell_reference FitsReference done is_sound;
  category = refl;
}
separated_after (ParseState.item_had done) is_sound = record {
  sound = listed_each FitsItem done is_sound;
  tokens = listed_comma spell_item FitsItem done is_sound;
  category = refl;
}
separated_after s is_sound = tt
