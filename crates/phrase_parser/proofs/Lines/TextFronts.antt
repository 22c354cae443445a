-- What holds of texts that begin with a token holds of canonical texts.
use Rattle.std.proofs.Common.{◌≡◌, refl, ℕ, pos, negsuc, Bool, true, false, List, [], ◌∷◌, ◌++◌, Option, Some, None, sym, subst, append_assoc, arith}
use Rattle.std.specs.Prelude.{decimal}
use Rattle.std.specs.List.{list_all}
use Rattle.std.proofs.lemmas.Bool.{and_parts}
use Rattle.plcs_base.specs.Byte.{is_digit, is_name_byte}
use Rattle.plcs_base.specs.Name.{IsName}
use Rattle.plcs_grammar.specs.declared.sign.Sign.{Sign}
use Rattle.plcs_grammar.specs.Builtin.{builtin_name}
use Rattle.plcs_grammar.specs.Sign.{sign_bytes, prefix_sign, infix_sign}
use Rattle.plcs_grammar.specs.Token.{Token, IsNumeral, begins_with, bit_bytes}
use Rattle.plcs_grammar.specs.Level.{priority}
use Rattle.plcs_grammar.specs.PlainPhrase.{PlainExpr, PlainExprs, PlainVarRef, PlainPhrase}
use Rattle.plcs_grammar.specs.Canon.{canon, canon_reference, canon_list, canon_behind, parenthesized_bytes, behind_sign, more_joined, joined, canon_sized, canon_item, Canon}
use Rattle.phrase_parser.proofs.Machine.ExprSpelling.{spell, spell_reference, spell_all, spell_behind, Fits, FitsAll}
use Rattle.phrase_parser.proofs.Machine.PhraseSpelling.{spell_more, spell_listed, spell_name, spell_sized, spell_item, spell_phrase, FitsPhrase}
use Rattle.phrase_parser.proofs.Tokens.Numerals.{decimal_numeral}
use Rattle.phrase_parser.proofs.Readings.CanonicalTokens.{AllWritable, writable_split, small_number}

-- what stands behind doesn't begin with a byte of a name
abbrev pub Ends : List ℕ → Type 0
Ends behind = begins_with is_name_byte behind ≡ false

-- the predicate holds of each text that begins with a token of a phrase
pub record HoldsAtTokens (P : List ℕ → Type 0) : Type 0 where
  pub at_name : (name behind : List ℕ) → IsName name → Ends behind → P (name ++ behind)
  pub at_digit : (digit : ℕ) (y : List ℕ) → is_digit digit ≡ true → P (digit ∷ y)
  pub at_quote : (y : List ℕ) → P (39 ∷ y)
  pub at_sign : (sign : Sign) (y : List ℕ) → P (sign_bytes sign ++ y)

module _ (P : List ℕ → Type 0) (holds : HoldsAtTokens P) where
  numeral_front : (digits behind : List ℕ) → IsNumeral digits → P (digits ++ behind)
  numeral_front [] behind numeral = absurd (omega (arith, numeral.0))
  numeral_front (digit ∷ digits) behind numeral =
      holds.at_digit digit (digits ++ behind) (and_parts (is_digit digit) (list_all is_digit digits) numeral.1).0

  bit_front : (bit : Bool) (behind : List ℕ) → P (bit_bytes bit ++ behind)
  bit_front false behind = holds.at_quote (48 ∷ 39 ∷ 66 ∷ behind)
  bit_front true behind = holds.at_quote (49 ∷ 39 ∷ 66 ∷ behind)

  -- the predicate holds of a text with more behind it
  pub front_more : (x y behind : List ℕ) → P (x ++ (y ++ behind)) → P ((x ++ y) ++ behind)
  front_more x y behind h = subst P (sym (append_assoc x y behind)) h

  -- the predicate holds of a name with more behind it
  named_front : (name x behind : List ℕ) → IsName name → Ends (x ++ behind) → P ((name ++ x) ++ behind)
  named_front name x behind named ends = front_more name x behind (holds.at_name name (x ++ behind) named ends)

  mutual
    -- the predicate holds of an expression's text
    pub expr_front : (t : PlainExpr) (level : ℕ) → Fits t level → AllWritable (spell t) → (behind : List ℕ) → Ends behind
        → P (canon t ++ behind)
    expr_front (PlainExpr.number (pos n)) level fits writable behind ends =
        numeral_front (decimal n) behind (decimal_numeral n (small_number n writable.0.1)).0
    expr_front (PlainExpr.number (negsuc n)) level fits writable behind ends = absurd fits
    expr_front (PlainExpr.text value) level fits writable behind ends = holds.at_quote _
    expr_front (PlainExpr.bit value) level fits writable behind ends = bit_front value behind
    expr_front (PlainExpr.variable reference) level fits writable behind ends = reference_front reference writable behind ends
    expr_front (PlainExpr.unary op a) level fits writable behind ends =
        front_more (sign_bytes (prefix_sign op)) (canon a) behind (holds.at_sign (prefix_sign op) (canon a ++ behind))
    expr_front (PlainExpr.binary op a b) level fits writable behind ends =
        let right = 32 ∷ (sign_bytes (infix_sign op) ++ (32 ∷ canon b)) in
        front_more (canon a) right behind
        (expr_front a (priority op) fits.1 (writable_split (spell a) (Token.sign (infix_sign op) ∷ spell b) writable).0 (right ++ behind) refl)
    expr_front (PlainExpr.builtin function arguments) level fits writable behind ends =
        named_front (builtin_name function) (parenthesized_bytes (canon_list arguments)) behind writable.0.0 refl
    expr_front (PlainExpr.parenthesized a) level fits writable behind ends = holds.at_sign Sign.OpenParenthesis _

    -- the predicate holds of a variable's text
    pub reference_front : (reference : PlainVarRef) → AllWritable (spell_reference reference) → (behind : List ℕ) → Ends behind
        → P (canon_reference reference ++ behind)
    reference_front (PlainVarRef.simple name) writable behind ends = holds.at_name name behind writable.0.0 ends
    reference_front (PlainVarRef.subscripted name index) writable behind ends =
        named_front name (parenthesized_bytes (canon index)) behind writable.0.0 refl

  -- behind an expression in a list stands a comma, or what stands behind the list
  behind_ends : (ts : PlainExprs) (behind : List ℕ) → Ends behind → Ends (canon_behind ts ++ behind)
  behind_ends PlainExprs.nil behind ends = ends
  behind_ends (PlainExprs.cons a rest) behind ends = refl

  -- the predicate holds of the text of expressions joined by commas
  list_front : (ts : PlainExprs) → FitsAll ts → AllWritable (spell_all ts) → (behind : List ℕ) → Ends behind → P (canon_list ts ++ behind)
  list_front PlainExprs.nil fits writable behind ends = absurd fits
  list_front (PlainExprs.cons a rest) fits writable behind ends =
      front_more (canon a) (canon_behind rest) behind
      (expr_front a 1 fits.0 (writable_split (spell a) (spell_behind rest) writable).0 (canon_behind rest ++ behind) (behind_ends rest behind ends))

  -- the predicate holds of a declared name's text
  pub sized_front : (name : List ℕ) (size : Option ℕ) → AllWritable (spell_sized name size) → (behind : List ℕ) → Ends behind
      → P (canon_sized name size ++ behind)
  sized_front name None writable behind ends = holds.at_name name behind writable.0.0 ends
  sized_front name (Some size) writable behind ends = named_front name (parenthesized_bytes (decimal size)) behind writable.0.0 refl

  module _ {X : Type 0} (bytes_of : X → List ℕ) (f : X → List Token)
      (each : (x : X) → AllWritable (f x) → (behind : List ℕ) → Ends behind → P (bytes_of x ++ behind)) where
    -- behind an element of a list stands a comma, or what stands behind all of them
    more_ends : (xs : List X) (behind : List ℕ) → Ends behind → Ends (more_joined bytes_of xs ++ behind)
    more_ends [] behind ends = ends
    more_ends (x ∷ xs) behind ends = refl

    -- the predicate holds of the text of a list's elements joined by commas
    joined_front : (x : X) (xs : List X) → AllWritable (spell_listed f (x ∷ xs)) → (behind : List ℕ) → Ends behind
        → P (joined bytes_of (x ∷ xs) ++ behind)
    joined_front x xs writable behind ends =
        front_more (bytes_of x) (more_joined bytes_of xs) behind
        (each x (writable_split (f x) (spell_more f xs) writable).0 (more_joined bytes_of xs ++ behind) (more_ends xs behind ends))

  -- the predicate holds of the text of a phrase that is tokens
  pub phrase_front : (p : PlainPhrase) → FitsPhrase p → AllWritable (spell_phrase p) → (behind : List ℕ) → Ends behind
      → P (Canon p ++ behind)
  phrase_front (PlainPhrase.assignment target value) fits writable behind ends =
      let right = behind_sign Sign.Equal (canon value) in
      front_more (canon_reference target) right behind
      (reference_front target (writable_split (spell_reference target) (Token.sign Sign.Equal ∷ spell value) writable).0 (right ++ behind) refl)
  phrase_front (PlainPhrase.condition e) fits writable behind ends = expr_front e 1 fits writable behind ends
  phrase_front (PlainPhrase.expression e) fits writable behind ends = expr_front e 1 fits writable behind ends
  phrase_front (PlainPhrase.expression_list es) fits writable behind ends = list_front es fits writable behind ends
  phrase_front (PlainPhrase.variable_list []) fits writable behind ends = absurd fits
  phrase_front (PlainPhrase.variable_list (x ∷ xs)) fits writable behind ends =
      joined_front canon_reference spell_reference reference_front x xs writable behind ends
  phrase_front (PlainPhrase.variable_name name) fits writable behind ends = holds.at_name name behind writable.0.0 ends
  phrase_front (PlainPhrase.call name PlainExprs.nil) fits writable behind ends = holds.at_name name behind writable.0.0 ends
  phrase_front (PlainPhrase.call name (PlainExprs.cons a rest)) fits writable behind ends =
      named_front name (parenthesized_bytes (canon_list (PlainExprs.cons a rest))) behind writable.0.0 refl
  phrase_front (PlainPhrase.declared_list []) fits writable behind ends = absurd fits
  phrase_front (PlainPhrase.declared_list (x ∷ xs)) fits writable behind ends =
      joined_front canon_item spell_item (λ item w y e. sized_front item.name item.size w y e) x xs writable behind ends
  phrase_front (PlainPhrase.procedure_name name) fits writable behind ends = holds.at_name name behind writable.0.0 ends
  phrase_front (PlainPhrase.name_list []) fits writable behind ends = absurd fits
  phrase_front (PlainPhrase.name_list (x ∷ xs)) fits writable behind ends =
      joined_front (λ name. name) spell_name (λ name w y e. holds.at_name name y w.0.0 e) x xs writable behind ends
  phrase_front (PlainPhrase.greatest_length n) fits writable behind ends =
      numeral_front (decimal n) behind (decimal_numeral n (small_number n writable.0.1)).0
  phrase_front (PlainPhrase.comment bytes) fits writable behind ends = absurd fits
