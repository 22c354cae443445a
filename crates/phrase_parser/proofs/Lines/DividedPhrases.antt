-- In the canonical text of a phrase that is tokens no divider begins that begins in none of its expressions.
use Rattle.std.proofs.Common.{refl, ℕ, List, [], ◌∷◌, ◌++◌, Option, Some, None, false}
use Rattle.std.specs.Prelude.{decimal}
use Rattle.plcs_grammar.specs.declared.sign.Sign.{Sign}
use Rattle.plcs_grammar.specs.Token.{Token}
use Rattle.plcs_grammar.specs.PlainPhrase.{PlainExprs, PlainPhrase}
use Rattle.plcs_grammar.specs.Canon.{canon, canon_reference, canon_list, behind_sign, more_joined, joined, canon_sized, canon_item, canon_call, Canon}
use Rattle.phrase_parser.proofs.Machine.ExprSpelling.{spell, spell_reference, spell_all, FitsReference}
use Rattle.phrase_parser.proofs.Machine.PhraseSpelling.{spell_more, spell_listed, EachFits, FitsListed, spell_name, AnyName, spell_sized, spell_item, FitsItem, spell_call, FitsCall, spell_phrase, FitsPhrase}
use Rattle.phrase_parser.proofs.Readings.CanonicalTokens.{AllWritable, writable_split, inner_writable, small_number}
use Rattle.phrase_parser.proofs.Readings.CanonicalText.{IsWritable}
use Rattle.phrase_parser.proofs.Lines.DividedTexts.{Clear, passes_nothing, IsApart, clear_name, clear_number, clear_sign}
use Rattle.phrase_parser.proofs.Lines.TextFronts.{Ends, HoldsAtTokens, front_more, expr_front, reference_front, sized_front}
use Rattle.phrase_parser.proofs.Lines.DividedExprs.{Fresh, clear_append, clear_called, clear_behind_blank, clear_behind_sign, expr_clear, reference_clear, list_clear}

module _ (first : ℕ) (rest : List ℕ) (apart : IsApart first) (fronts : HoldsAtTokens (Fresh (first ∷ rest))) where
  -- the divider
  abbrev divider : List ℕ
  divider = first ∷ rest

  -- the divider begins nowhere in one text and then another, where it begins in neither
  append : (x z y : List ℕ) → Clear divider x (z ++ y) → Clear divider z y → Clear divider (x ++ z) y
  append x z y h k = clear_append first rest apart fronts x z y h k

  module _ {X : Type 0} (bytes_of : X → List ℕ) (f : X → List Token) (Fit : X → Type 0)
      (fresh : (x : X) → Fit x → AllWritable (f x) → (behind : List ℕ) → Ends behind → Fresh divider (bytes_of x ++ behind))
      (each : (x : X) → Fit x → AllWritable (f x) → (behind : List ℕ) → Ends behind → Clear divider (bytes_of x) behind) where
    -- behind an element of a list stands a comma, or what stands behind all of them
    more_ends : (xs : List X) (behind : List ℕ) → Ends behind → Ends (more_joined bytes_of xs ++ behind)
    more_ends [] behind ends = ends
    more_ends (x ∷ xs) behind ends = refl

    -- the divider begins nowhere in the texts of a list's elements, each behind a comma
    more_clear : (xs : List X) → EachFits Fit xs → AllWritable (spell_more f xs) → (behind : List ℕ) → Ends behind
        → Clear divider (more_joined bytes_of xs) behind
    more_clear [] fits writable behind ends = passes_nothing divider false behind
    more_clear (x ∷ xs) fits writable behind ends =
        let parts = writable_split (f x) (spell_more f xs) writable.1 in
        let text = bytes_of x ++ more_joined bytes_of xs in
        let follows = more_ends xs behind ends in
        append (44 ∷ []) (32 ∷ text) behind (clear_sign first rest apart Sign.Comma ((32 ∷ text) ++ behind))
        (clear_behind_blank first rest apart fronts text behind
        (front_more (Fresh divider) fronts (bytes_of x) (more_joined bytes_of xs) behind
        (fresh x fits.0 parts.0 (more_joined bytes_of xs ++ behind) follows))
        (append (bytes_of x) (more_joined bytes_of xs) behind (each x fits.0 parts.0 (more_joined bytes_of xs ++ behind) follows)
        (more_clear xs fits.1 parts.1 behind ends)))

    -- the divider begins nowhere in the texts of a list's elements, joined by commas
    joined_clear : (xs : List X) → FitsListed Fit xs → AllWritable (spell_listed f xs) → (behind : List ℕ) → Ends behind
        → Clear divider (joined bytes_of xs) behind
    joined_clear [] fits writable behind ends = absurd fits
    joined_clear (x ∷ xs) fits writable behind ends =
        let parts = writable_split (f x) (spell_more f xs) writable in
        append (bytes_of x) (more_joined bytes_of xs) behind
        (each x fits.0 parts.0 (more_joined bytes_of xs ++ behind) (more_ends xs behind ends))
        (more_clear xs fits.1 parts.1 behind ends)

  -- the divider begins nowhere in a declared name
  sized_clear : (name : List ℕ) (size : Option ℕ) → AllWritable (spell_sized name size) → (behind : List ℕ)
      → Clear divider (canon_sized name size) behind
  sized_clear name None writable behind = clear_name first rest apart name behind writable.0.0
  sized_clear name (Some size) writable behind =
      let inner = inner_writable (Token.number size ∷ []) writable.1 in
      clear_called first rest apart fronts name (decimal size) behind writable.0.0
      (clear_number first rest apart size (41 ∷ behind) (small_number size inner.0.1))

  -- the divider begins nowhere in a call
  call_clear : (name : List ℕ) (passed : PlainExprs) → FitsCall passed → AllWritable (spell_call name passed) → (behind : List ℕ)
      → Clear divider (canon_call name passed) behind
  call_clear name PlainExprs.nil fits writable behind = clear_name first rest apart name behind writable.0.0
  call_clear name (PlainExprs.cons a more) fits writable behind =
      let passed = PlainExprs.cons a more in
      clear_called first rest apart fronts name (canon_list passed) behind writable.0.0
      (list_clear first rest apart fronts passed fits (inner_writable (spell_all passed) writable.1) (41 ∷ behind) refl)

  -- the divider begins nowhere in a phrase that is tokens
  phrase_parts_clear : (p : PlainPhrase) → FitsPhrase p → AllWritable (spell_phrase p) → (behind : List ℕ) → Ends behind
      → Clear divider (Canon p) behind
  phrase_parts_clear (PlainPhrase.assignment target value) fits writable behind ends =
      let parts = writable_split (spell_reference target) (Token.sign Sign.Equal ∷ spell value) writable in
      let right = behind_sign Sign.Equal (canon value) in
      append (canon_reference target) right behind
      (reference_clear first rest apart fronts target fits.0 parts.0 (right ++ behind) refl)
      (clear_behind_sign first rest apart fronts Sign.Equal (canon value) behind
      (expr_front (Fresh divider) fronts value 1 fits.1 parts.1.1 behind ends)
      (expr_clear first rest apart fronts value 1 fits.1 parts.1.1 behind ends))
  phrase_parts_clear (PlainPhrase.condition e) fits writable behind ends = expr_clear first rest apart fronts e 1 fits writable behind ends
  phrase_parts_clear (PlainPhrase.expression e) fits writable behind ends = expr_clear first rest apart fronts e 1 fits writable behind ends
  phrase_parts_clear (PlainPhrase.expression_list es) fits writable behind ends = list_clear first rest apart fronts es fits writable behind ends
  phrase_parts_clear (PlainPhrase.variable_list targets) fits writable behind ends =
      joined_clear canon_reference spell_reference FitsReference
      (λ target fit w y e. reference_front (Fresh divider) fronts target w y e)
      (λ target fit w y e. reference_clear first rest apart fronts target fit w y e) targets fits writable behind ends
  phrase_parts_clear (PlainPhrase.variable_name name) fits writable behind ends = clear_name first rest apart name behind writable.0.0
  phrase_parts_clear (PlainPhrase.call name passed) fits writable behind ends = call_clear name passed fits writable behind
  phrase_parts_clear (PlainPhrase.declared_list items) fits writable behind ends =
      joined_clear canon_item spell_item FitsItem
      (λ item fit w y e. sized_front (Fresh divider) fronts item.name item.size w y e)
      (λ item fit w y e. sized_clear item.name item.size w y) items fits writable behind ends
  phrase_parts_clear (PlainPhrase.procedure_name name) fits writable behind ends = clear_name first rest apart name behind writable.0.0
  phrase_parts_clear (PlainPhrase.name_list names) fits writable behind ends =
      joined_clear (λ name. name) spell_name AnyName
      (λ name fit w y e. fronts.at_name name y w.0.0 e)
      (λ name fit w y e. clear_name first rest apart name y w.0.0) names fits writable behind ends
  phrase_parts_clear (PlainPhrase.greatest_length n) fits writable behind ends =
      clear_number first rest apart n behind (small_number n writable.0.1)
  phrase_parts_clear (PlainPhrase.comment bytes) fits writable behind ends = absurd fits

  -- the divider begins nowhere in a phrase that can be written
  pub writable_clear : (p : PlainPhrase) → IsWritable p → (behind : List ℕ) → Ends behind → Clear divider (Canon p) behind
  writable_clear p writable behind ends = phrase_parts_clear p writable.fits writable.tokens behind ends
