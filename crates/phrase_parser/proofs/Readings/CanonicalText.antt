-- The canonical text of a phrase reads as the phrase.
use Rattle.std.proofs.Common.{◌≡◌, inl, inr, ℕ, List, [], ◌∷◌, ◌++◌, Option, Some, None, Result, Ok, Err, refl, sym, ap, subst}
use Rattle.std.specs.Prelude.{decimal, IfOk}
use Rattle.plcs_grammar.specs.declared.category.Category.{Category}
use Rattle.plcs_grammar.specs.declared.sign.Sign.{Sign}
use Rattle.plcs_grammar.specs.Token.{Token}
use Rattle.plcs_grammar.specs.declared.phrase.Phrase.{Phrase}
use Rattle.plcs_grammar.specs.PlainPhrase.{PlainExprs, PlainPhrase, plain_phrase}
use Rattle.plcs_grammar.specs.Cuts.{Piece, tokens_of}
use Rattle.plcs_grammar.specs.Limit.{IsWithinLimits}
use Rattle.plcs_grammar.specs.OpenedLevel.{phrase_opened_levels}
use Rattle.plcs_grammar.specs.Reads.{IsCutAs, IsCommentAs, Reads}
use Rattle.plcs_grammar.specs.Canon.{canon, canon_reference, canon_list, more_joined, joined, canon_sized, canon_item, canon_call, Canon, IsWellFormed}
use Rattle.phrase_parser.specs.declared.fault.PhraseFault.{PhraseFault}
use Rattle.phrase_parser.specs.Answers.{Answers}
use Rattle.phrase_parser.proofs.Tokens.CutPieces.{AllSound, cut_sound}
use Rattle.phrase_parser.proofs.Machine.Limits.{AllFine, none_fine, within}
use Rattle.phrase_parser.proofs.Machine.ExprSpelling.{spell, spell_reference, spell_all, FitsReference}
use Rattle.phrase_parser.proofs.Machine.PhraseSpelling.{spell_more, spell_listed, EachFits, FitsListed, spell_name, AnyName, spell_sized, spell_item, FitsItem, spell_call, FitsCall, spell_phrase, FitsPhrase, form_spelled, form_from}
use Rattle.phrase_parser.proofs.Readings.LexedTexts.{Lexed, Safe, lexed_empty, lexed_append, lexed_name, lexed_number, lexed_whole}
use Rattle.phrase_parser.proofs.Readings.CanonicalTokens.{AllWritable, writable_split, small_number, number_ends_sign, list_ends_sign, lexed_called, lexed_behind_comma, lexed_behind_sign, inner_writable, canon_lexed, reference_lexed, list_lexed}
use Rattle.phrase_parser.proofs.Readings.OneAnswer.{one_reading}
use Rattle.phrase_parser.proofs.Comments.TrimmedTexts.{trimmed_again, trimmed_comment}

-- the parts of the phrase keep what they have to, and its names, constants and numbers can be written
pub record IsWritable (phrase : PlainPhrase) : Type 0 where
  pub fits : FitsPhrase phrase
  pub tokens : AllWritable (spell_phrase phrase)

module _ {X : Type 0} (bytes_of : X → List ℕ) (f : X → List Token) (Fit : X → Type 0)
    (each : (x : X) → Fit x → AllWritable (f x) → (behind : List ℕ) → Safe behind → Lexed (bytes_of x) (f x) behind) where
  -- behind an element of a list stands a comma, or what stands behind all of them
  more_safe : (xs : List X) (behind : List ℕ) → Safe behind → Safe (more_joined bytes_of xs ++ behind)
  more_safe [] behind safe = safe
  more_safe (x ∷ xs) behind safe = refl

  -- texts of elements, each behind a comma, are cut into their tokens
  more_lexed : (xs : List X) → EachFits Fit xs → AllWritable (spell_more f xs) → (behind : List ℕ) → Safe behind
      → Lexed (more_joined bytes_of xs) (spell_more f xs) behind
  more_lexed [] fits writable behind safe = lexed_empty behind
  more_lexed (x ∷ xs) fits writable behind safe =
      let parts = writable_split (f x) (spell_more f xs) writable.1 in
      lexed_behind_comma (bytes_of x ++ more_joined bytes_of xs) (f x ++ spell_more f xs) behind
      (lexed_append (bytes_of x) (more_joined bytes_of xs) (f x) (spell_more f xs) behind
      (each x fits.0 parts.0 (more_joined bytes_of xs ++ behind) (more_safe xs behind safe))
      (more_lexed xs fits.1 parts.1 behind safe))

  -- texts of elements, joined by commas, are cut into their tokens
  pub joined_lexed : (xs : List X) → FitsListed Fit xs → AllWritable (spell_listed f xs) → (behind : List ℕ) → Safe behind
      → Lexed (joined bytes_of xs) (spell_listed f xs) behind
  joined_lexed [] fits writable behind safe = absurd fits
  joined_lexed (x ∷ xs) fits writable behind safe =
      let parts = writable_split (f x) (spell_more f xs) writable in
      lexed_append (bytes_of x) (more_joined bytes_of xs) (f x) (spell_more f xs) behind
      (each x fits.0 parts.0 (more_joined bytes_of xs ++ behind) (more_safe xs behind safe))
      (more_lexed xs fits.1 parts.1 behind safe)

-- the canonical text of a declared name is cut into its tokens
sized_lexed : (name : List ℕ) (size : Option ℕ) → AllWritable (spell_sized name size) → (behind : List ℕ) → Safe behind
    → Lexed (canon_sized name size) (spell_sized name size) behind
sized_lexed name None writable behind safe = lexed_name name behind writable.0.0 safe
sized_lexed name (Some size) writable behind safe =
    let inner = inner_writable (Token.number size ∷ []) writable.1 in
    lexed_called name (decimal size) (Token.number size ∷ []) behind writable.0.0 (number_ends_sign size (41 ∷ behind) inner.0.1)
    (lexed_number size (41 ∷ behind) (small_number size inner.0.1) refl) safe

-- the canonical text of a call is cut into its tokens
call_lexed : (name : List ℕ) (passed : PlainExprs) → FitsCall passed → AllWritable (spell_call name passed) → (behind : List ℕ) → Safe behind
    → Lexed (canon_call name passed) (spell_call name passed) behind
call_lexed name PlainExprs.nil fits writable behind safe = lexed_name name behind writable.0.0 safe
call_lexed name (PlainExprs.cons a rest) fits writable behind safe =
    let passed = PlainExprs.cons a rest in
    let inner = inner_writable (spell_all passed) writable.1 in
    lexed_called name (canon_list passed) (spell_all passed) behind writable.0.0 (list_ends_sign passed fits inner (41 ∷ behind))
    (list_lexed passed fits inner (41 ∷ behind) refl) safe

-- the canonical text of a phrase is cut into the phrase's tokens
phrase_lexed : (p : PlainPhrase) → FitsPhrase p → AllWritable (spell_phrase p) → (behind : List ℕ) → Safe behind
    → Lexed (Canon p) (spell_phrase p) behind
phrase_lexed (PlainPhrase.assignment target value) fits writable behind safe =
    let parts = writable_split (spell_reference target) (Token.sign Sign.Equal ∷ spell value) writable in
    let right = 32 ∷ 61 ∷ 32 ∷ canon value in
    lexed_append (canon_reference target) right (spell_reference target) (Token.sign Sign.Equal ∷ spell value) behind
    (reference_lexed target fits.0 parts.0 (right ++ behind) refl)
    (lexed_behind_sign Sign.Equal (canon value) (spell value) behind (canon_lexed value 1 fits.1 parts.1.1 behind safe))
phrase_lexed (PlainPhrase.condition e) fits writable behind safe = canon_lexed e 1 fits writable behind safe
phrase_lexed (PlainPhrase.expression e) fits writable behind safe = canon_lexed e 1 fits writable behind safe
phrase_lexed (PlainPhrase.expression_list es) fits writable behind safe = list_lexed es fits writable behind safe
phrase_lexed (PlainPhrase.variable_list targets) fits writable behind safe =
    joined_lexed canon_reference spell_reference FitsReference reference_lexed targets fits writable behind safe
phrase_lexed (PlainPhrase.variable_name name) fits writable behind safe = lexed_name name behind writable.0.0 safe
phrase_lexed (PlainPhrase.call name passed) fits writable behind safe = call_lexed name passed fits writable behind safe
phrase_lexed (PlainPhrase.declared_list items) fits writable behind safe =
    joined_lexed canon_item spell_item FitsItem (λ item fit w y s. sized_lexed item.name item.size w y s) items fits writable behind safe
phrase_lexed (PlainPhrase.procedure_name name) fits writable behind safe = lexed_name name behind writable.0.0 safe
phrase_lexed (PlainPhrase.name_list names) fits writable behind safe =
    joined_lexed (λ name. name) spell_name AnyName (λ name fit w y s. lexed_name name y w.0.0 s) names fits writable behind safe
phrase_lexed (PlainPhrase.greatest_length n) fits writable behind safe = lexed_number n behind (small_number n writable.0.1) safe
phrase_lexed (PlainPhrase.comment bytes) fits writable behind safe = absurd fits

-- the canonical text of each phrase that can be written is cut into its tokens
pub writable_lexed : (p : PlainPhrase) → IsWritable p → (behind : List ℕ) → Safe behind → Lexed (Canon p) (spell_phrase p) behind
writable_lexed p writable behind safe = phrase_lexed p writable.fits writable.tokens behind safe

-- sound tokens within the limits can be written
sound_fine_writable : (tokens : List Token) (levels : List ℕ) → AllSound tokens → AllFine tokens levels → AllWritable tokens
sound_fine_writable [] levels sound fine = tt
sound_fine_writable (token ∷ tokens) [] sound fine = ((sound.0, fine.0), sound_fine_writable tokens [] sound.1 fine.1)
sound_fine_writable (token ∷ tokens) (level ∷ levels) sound fine = ((sound.0, fine.0), sound_fine_writable tokens levels sound.1 fine.2)

-- a phrase that a text is cut as, within the limits, can be written
pub cut_writable : (c : Category) (x : List ℕ) (pieces : List Piece) (p : PlainPhrase) → IsCutAs c x pieces p → IsWithinLimits p → IsWritable p
cut_writable c x pieces p cut limits =
    let form = form_spelled c (tokens_of pieces) p cut.form in
    let fine = none_fine pieces (phrase_opened_levels p) (within c pieces p cut.form limits) in
    record {
      fits = form.1;
      tokens = subst AllWritable form.2
          (sound_fine_writable (tokens_of pieces) (phrase_opened_levels p) (cut_sound pieces 0 x None cut.cuts) fine);
    }

-- the canonical text of a phrase that is tokens is cut as the phrase
cut_canonical : (c : Category) (x : List ℕ) (pieces : List Piece) (p : PlainPhrase) → IsCutAs c x pieces p → IsWithinLimits p
    → (others : List Piece) × IsCutAs c (Canon p) others p
cut_canonical c x pieces p cut limits =
    let writable = cut_writable c x pieces p cut limits in
    let (others, cuts, same) = lexed_whole (Canon p) (spell_phrase p) (writable_lexed p writable [] refl) in
    (others, record { cuts = cuts; form = form_from c (tokens_of others) p cut.form.0 writable.fits same })

-- the canonical text of a comment is that of the comment
comment_canonical : (c : Category) (x : List ℕ) (p : PlainPhrase) → IsCommentAs c x p → IsCommentAs c (Canon p) p
comment_canonical c x p comment =
    subst (λ (q : PlainPhrase). IsCommentAs c (Canon q) q) (sym comment.phrase_is)
    (record {
      category_is = comment.category_is;
      text = trimmed_comment x comment.text;
      phrase_is = ap PlainPhrase.comment (sym (trimmed_again x));
    })

-- what some text reads as, its canonical text reads as
pub canonical_reads : (c : Category) (x : List ℕ) (p : PlainPhrase) → Reads c x p → Reads c (Canon p) p
canonical_reads c x p (inl (pieces, cut), limits) = (inl (cut_canonical c x pieces p cut limits), limits)
canonical_reads c x p (inr comment, limits) = (inr (comment_canonical c x p comment), limits)

-- phrases with one canonical text are one phrase
pub canonical_tells : (c : Category) (x y : List ℕ) (p q : PlainPhrase) → Reads c x p → Reads c y q → Canon p ≡ Canon q → p ≡ q
canonical_tells c x y p q a b same =
    one_reading c (Canon p) p q (canonical_reads c x p a) (subst (λ (z : List ℕ). Reads c z q) (sym same) (canonical_reads c y q b))

-- a phrase that is answered is well formed
pub answer_well_formed : (c : Category) (x : List ℕ) (answer : Result Phrase PhraseFault) → Answers c x answer
    → IfOk answer (λ phrase. IsWellFormed c (plain_phrase phrase))
answer_well_formed c x (Ok phrase) says = canonical_reads c x (plain_phrase phrase) says
answer_well_formed c x (Err fault) says = tt
