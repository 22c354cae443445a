-- Opening parentheses are taken.
use Rattle.std.proofs.Common.{◌≡◌, refl, ℕ, List, [], ◌∷◌, ◌++◌, Option, Some, None, ap, sym, ◌∙◌, append_assoc}
use Rattle.plcs_grammar.specs.declared.builtin.Builtin.{Builtin}
use Rattle.plcs_grammar.specs.Token.{Token}
use Rattle.plcs_grammar.specs.PlainPhrase.{PlainExpr, PlainVarRef}
use Rattle.plcs_grammar.specs.Builtin.{builtin_of}
use Rattle.phrase_parser.specs.Private.Machine
use Rattle.phrase_parser.specs.Private.Machine.{ParseStack, Role, ParseState}
use Rattle.phrase_parser.proofs.Machine.ExprSpelling.{spell, spell_reference}
use Rattle.phrase_parser.proofs.Machine.PhraseSpelling.{spell_item}
use Rattle.phrase_parser.proofs.Machine.BuiltinNames.{builtin_found, builtin_missing}
use Rattle.phrase_parser.proofs.Machine.ConsumedTokens.{spell_each, flat_stack, SoundStack, SoundRole, Sound}
use Rattle.phrase_parser.proofs.Machine.Soundness.TakenTokens.{open_, After, AfterIf}

named_open_after : (name : List ℕ) (found : Option Builtin) (s : ParseStack) (t : PlainExpr) → builtin_of name ≡ found → SoundStack s
    → spell t ≡ Token.name name ∷ []
    → After (ParseState.had s t) open_ (ParseState.wanted (Machine.open_frame name found s))
named_open_after name None s t looked_up is_sound is_name = record {
  sound = (builtin_missing name looked_up, is_sound);
  tokens = sym (append_assoc (flat_stack s) (Token.name name ∷ []) (open_ ∷ [])) ∙ ap (λ z. (flat_stack s ++ z) ++ (open_ ∷ [])) (sym is_name);
  category = refl;
}
named_open_after name (Some function) s t looked_up is_sound is_name = record {
  sound = (tt, is_sound);
  tokens = ap (λ z. flat_stack s ++ (Token.name z ∷ open_ ∷ [])) (sym (builtin_found name function looked_up))
      ∙ sym (append_assoc (flat_stack s) (Token.name name ∷ []) (open_ ∷ []))
      ∙ ap (λ z. (flat_stack s ++ z) ++ (open_ ∷ [])) (sym is_name);
  category = refl;
}

opened_behind_after : (s : ParseStack) (t : PlainExpr) → SoundStack s → AfterIf (ParseState.had s t) open_ (Machine.shift_open_after s t)
opened_behind_after s (PlainExpr.variable (PlainVarRef.simple name)) is_sound =
    named_open_after name (builtin_of name) s (PlainExpr.variable (PlainVarRef.simple name)) refl is_sound refl
opened_behind_after s t is_sound = tt

opened_by_role_after : (role : Role) (name : List ℕ) → SoundRole role
    → AfterIf (ParseState.name_had role name) open_ (Machine.shift_open_role role name)
opened_by_role_after Role.target name is_sound = record { sound = tt; tokens = refl; category = refl }
opened_by_role_after (Role.variables done) name is_sound = record {
  sound = is_sound;
  tokens = sym (append_assoc (spell_each spell_reference done) (Token.name name ∷ []) (open_ ∷ []));
  category = refl;
}
opened_by_role_after Role.callee name is_sound = record { sound = tt; tokens = refl; category = refl }
opened_by_role_after (Role.items done) name is_sound = record {
  sound = is_sound;
  tokens = sym (append_assoc (spell_each spell_item done) (Token.name name ∷ []) (open_ ∷ []));
  category = refl;
}
opened_by_role_after role name is_sound = tt

pub opened_after : (s : ParseState) → Sound s → AfterIf s open_ (Machine.shift_open s)
opened_after (ParseState.wanted s) is_sound = record { sound = is_sound; tokens = refl; category = refl }
opened_after (ParseState.had s t) is_sound = opened_behind_after s t is_sound.0
opened_after (ParseState.name_had role name) is_sound = opened_by_role_after role name is_sound
opened_after s is_sound = tt
