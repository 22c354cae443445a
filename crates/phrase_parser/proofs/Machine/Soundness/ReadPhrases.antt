-- A phrase that is read is what the tokens are.
use Rattle.std.proofs.Common.{◌≡◌, refl, ℕ, List, [], ◌∷◌, Option, Some, None, sym, subst, ◌∙◌, append_assoc, le_refl}
use Rattle.plcs_grammar.specs.declared.category.Category.{Category}
use Rattle.plcs_grammar.specs.declared.sign.Sign.{Sign}
use Rattle.plcs_grammar.specs.Token.{Token}
use Rattle.plcs_grammar.specs.PlainPhrase.{PlainExpr, PlainExprs, PlainVarRef, PlainPhrase, category_of}
use Rattle.phrase_parser.specs.Private.Machine.{Base, ParseStack, Role, ParseState, reduced, shift_all, start_state, phrase_of, phrase_of_stack, phrase_of_base, phrase_of_role, phrase_of_if}
use Rattle.phrase_parser.proofs.Machine.ExprSpelling.{spell, spell_reference, FitsReference, FitsAll}
use Rattle.phrase_parser.proofs.Machine.PhraseSpelling.{spell_name, spell_item, spell_phrase, FitsPhrase, FitsItem, AnyName, form_from}
use Rattle.phrase_parser.proofs.Machine.ConsumedTokens.{all_push, all_fit, call_fits, listed_last, listed_fits, flat, hole, SoundRole, Sound, state_category}
use Rattle.plcs_grammar.specs.PhraseForm.{Form}
use Rattle.phrase_parser.proofs.Machine.Soundness.JoinedOperands.{Joins, reduced_joins}
use Rattle.phrase_parser.proofs.Machine.Soundness.ReadTokens.{HasRead, has_read}

-- a phrase that is read whole
pub record IsWhole (s : ParseState) (p : PlainPhrase) : Type 0 where
  pub fits : FitsPhrase p
  pub tokens : flat s ≡ spell_phrase p
  pub category : category_of p ≡ state_category s

-- where a state ends as a phrase, it has read it whole
abbrev pub IsWholeIf : ParseState → Option PlainPhrase → Type 0
IsWholeIf s None = Unit {0}
IsWholeIf s (Some p) = IsWhole s p

ended_base_whole : (s : ParseStack) (t u : PlainExpr) (b : Base) → Joins 1 s u (ParseStack.base b, t) → IsWholeIf (ParseState.had s u) (phrase_of_base b t)
ended_base_whole s t u Base.condition joined = record { fits = joined.fits; tokens = sym joined.tokens; category = joined.category }
ended_base_whole s t u Base.expression joined = record { fits = joined.fits; tokens = sym joined.tokens; category = joined.category }
ended_base_whole s t u (Base.expressions done) joined =
    record { fits = all_fit done t joined.sound joined.fits; tokens = sym (all_push done t ∙ joined.tokens); category = joined.category }
ended_base_whole s t u (Base.assigned reference) joined = record {
  fits = (joined.sound, joined.fits);
  tokens = sym joined.tokens ∙ append_assoc (spell_reference reference) (Token.sign Sign.Equal ∷ []) (spell t);
  category = joined.category;
}
ended_base_whole s t u b joined = tt

ended_at_whole : (s : ParseStack) (t u : PlainExpr) (r : ParseStack) → Joins 1 s u (r, t) → IsWholeIf (ParseState.had s u) (phrase_of_stack r t)
ended_at_whole s t u (ParseStack.base b) joined = ended_base_whole s t u b joined
ended_at_whole s t u r joined = tt

ended_by_role_whole : (role : Role) (name : List ℕ) → SoundRole role → IsWholeIf (ParseState.name_had role name) (phrase_of_role role name)
ended_by_role_whole Role.target name is_sound = tt
ended_by_role_whole (Role.variables done) name is_sound = record {
  fits = listed_fits FitsReference done (PlainVarRef.simple name) is_sound tt;
  tokens = sym (listed_last spell_reference done (PlainVarRef.simple name));
  category = refl;
}
ended_by_role_whole Role.callee name is_sound = record { fits = tt; tokens = refl; category = refl }
ended_by_role_whole (Role.items done) name is_sound = record {
  fits = listed_fits FitsItem done (record { name = name; size = None }) is_sound tt;
  tokens = sym (listed_last spell_item done (record { name = name; size = None }));
  category = refl;
}
ended_by_role_whole (Role.names done) name is_sound = record {
  fits = listed_fits AnyName done name is_sound tt;
  tokens = sym (listed_last spell_name done name);
  category = refl;
}
ended_by_role_whole Role.variable name is_sound = record { fits = tt; tokens = refl; category = refl }
ended_by_role_whole Role.procedure name is_sound = record { fits = tt; tokens = refl; category = refl }

call_whole : (name : List ℕ) (passed : PlainExprs) → FitsAll passed → IsWhole (ParseState.call_had name passed) (PlainPhrase.call name passed)
call_whole name passed is_sound = record { fits = call_fits passed is_sound; tokens = refl; category = refl }

-- a state that ends as a phrase has read it whole
pub ended_whole : (s : ParseState) → Sound s → IsWholeIf s (phrase_of s)
ended_whole (ParseState.had s t) is_sound =
    let o = reduced s 1 t in
    ended_at_whole s o.1 t o.0 (reduced_joins 1 s t is_sound.0 (is_sound.1 (hole s)) (is_sound.1 1) (le_refl _))
ended_whole (ParseState.name_had role name) is_sound = ended_by_role_whole role name is_sound
ended_whole (ParseState.variable_had done) is_sound = record { fits = is_sound; tokens = refl; category = refl }
ended_whole (ParseState.call_had name passed) is_sound = call_whole name passed is_sound
ended_whole (ParseState.item_had done) is_sound = record { fits = is_sound; tokens = refl; category = refl }
ended_whole (ParseState.length_had n) is_sound = record { fits = is_sound; tokens = refl; category = refl }
ended_whole s is_sound = tt

sound_if : (c : Category) (ks : List Token) (s : ParseState) (p : PlainPhrase) (end : Option PlainPhrase) → HasRead c ks s → IsWholeIf s end
    → end ≡ Some p → Form c ks p
sound_if c ks s p None read whole is_phrase = absurd (cc)
sound_if c ks s p (Some q) read whole is_phrase =
    let same : q ≡ p = cc in
    subst (λ z. Form c ks z) same (form_from c ks q (whole.category ∙ read.category) whole.fits (sym read.tokens ∙ whole.tokens))

sound_run : (c : Category) (ks : List Token) (p : PlainPhrase) (end : Option ParseState) → shift_all ks (start_state c) ≡ end
    → phrase_of_if end ≡ Some p → Form c ks p
sound_run c ks p None ends is_phrase = absurd (cc)
sound_run c ks p (Some s) ends is_phrase = let read = has_read c ks s ends in sound_if c ks s p (phrase_of s) read (ended_whole s read.sound) is_phrase

-- what the machine reads tokens as is what they are
pub sound : (c : Category) (ks : List Token) (p : PlainPhrase) → phrase_of_if (shift_all ks (start_state c)) ≡ Some p → Form c ks p
sound c ks p is_phrase = sound_run c ks p (shift_all ks (start_state c)) refl is_phrase
