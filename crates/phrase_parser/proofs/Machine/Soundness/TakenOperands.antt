-- Names, numbers and constants are taken.
use Rattle.std.proofs.Common.{◌≡◌, refl, ℕ, leb, ◌&&◌, leb-true, List, [], ◌∷◌, ◌++◌, Some, None, ap, sym, append_assoc}
use Rattle.std.proofs.lemmas.Bool.{cond_both, and_parts}
use Rattle.plcs_base.specs.Text.{longest_text}
use Rattle.plcs_grammar.specs.Token.{Token}
use Rattle.plcs_grammar.specs.PlainPhrase.{PlainExpr}
use Rattle.phrase_parser.specs.Private.Machine
use Rattle.phrase_parser.specs.Private.Machine.{ParseState}
use Rattle.phrase_parser.proofs.Machine.ExprSpelling.{spell, Fits}
use Rattle.phrase_parser.proofs.Machine.PhraseSpelling.{spell_item}
use Rattle.phrase_parser.proofs.Machine.ConsumedTokens.{spell_each, flat_stack, Sound}
use Rattle.phrase_parser.proofs.Machine.Soundness.TakenTokens.{open_, AfterIf}

pub operand_after : (s : ParseState) (k : Token) (t : PlainExpr) → ((level : ℕ) → Fits t level) → spell t ≡ k ∷ [] → Sound s
    → AfterIf s k (Machine.shift_operand s t)
operand_after (ParseState.wanted s) k t fits is_token is_sound =
    record { sound = (is_sound, fits); tokens = ap (λ z. flat_stack s ++ z) is_token; category = refl }
operand_after s k t fits is_token is_sound = tt

pub named_after : (s : ParseState) (name : List ℕ) → Sound s → AfterIf s (Token.name name) (Machine.shift_name s name)
named_after (ParseState.wanted s) name is_sound = record { sound = (is_sound, λ level. (tt, tt)); tokens = refl; category = refl }
named_after (ParseState.name_wanted role) name is_sound = record { sound = is_sound; tokens = refl; category = refl }
named_after s name is_sound = tt

pub numbered_after : (s : ParseState) (n : ℕ) → Sound s → AfterIf s (Token.number n) (Machine.shift_number s n)
numbered_after (ParseState.wanted s) n is_sound = record { sound = (is_sound, λ level. tt); tokens = refl; category = refl }
numbered_after (ParseState.size_wanted done name) n is_sound =
    cond_both (leb 1 n) (Some (ParseState.size_had done name n)) None (AfterIf (ParseState.size_wanted done name) (Token.number n))
    (λ least. record {
      sound = (leb-true 1 n least, is_sound);
      tokens = sym (append_assoc (spell_each spell_item done) (Token.name name ∷ open_ ∷ []) (Token.number n ∷ []));
      category = refl;
    })
    (λ refused. tt)
numbered_after ParseState.length_wanted n is_sound =
    cond_both (leb 1 n && leb n longest_text) (Some (ParseState.length_had n)) None (AfterIf ParseState.length_wanted (Token.number n))
    (λ within. let ends = and_parts (leb 1 n) (leb n longest_text) within in
    record { sound = (leb-true 1 n ends.0, leb-true n longest_text ends.1); tokens = refl; category = refl })
    (λ refused. tt)
numbered_after s n is_sound = tt
