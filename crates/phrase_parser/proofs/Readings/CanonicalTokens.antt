-- The canonical text of an expression is cut into the expression's tokens.
use Rattle.std.proofs.Common.{◌≡◌, ℕ, ◌≤◌, ◌<◌, ◌^◌, pos, negsuc, Bool, true, false, List, [], ◌∷◌, ◌++◌, refl, sym, subst, append_assoc, arith}
use Rattle.std.specs.Prelude.{decimal}
use Rattle.std.specs.List.{list_all, AllByRecursion}
use Rattle.std.proofs.lemmas.Bool.{and_parts, false≢true}
use Rattle.std.proofs.lemmas.Bool.Decides.{nat_tests}
use Rattle.plcs_base.specs.Byte.{is_letter, is_digit, is_name_byte}
use Rattle.plcs_base.specs.Name.{is_word, IsName}
use Rattle.plcs_grammar.specs.declared.operator.PrefixOp.{PrefixOp}
use Rattle.plcs_grammar.specs.declared.operator.PrefixOp.TheVariants as before
use Rattle.plcs_grammar.specs.declared.sign.Sign.{Sign}
use Rattle.plcs_grammar.specs.Sign.{sign_bytes, prefix_sign, infix_sign}
use Rattle.plcs_grammar.specs.Token.{Token, IsNumeral, bit_bytes}
use Rattle.plcs_grammar.specs.PlainPhrase.{PlainExpr, PlainExprs, PlainVarRef}
use Rattle.plcs_grammar.specs.Builtin.{builtin_name}
use Rattle.plcs_grammar.specs.Level.{priority, tightest, in_parentheses}
use Rattle.plcs_grammar.specs.Limit.{greatest_number}
use Rattle.plcs_grammar.specs.Canon.{canon, canon_reference, canon_list, canon_behind, parenthesized_bytes}
use Rattle.phrase_parser.proofs.Tokens.Numerals.{decimal_numeral}
use Rattle.phrase_parser.proofs.Tokens.LongestFront.{EndsSign, is_second}
use Rattle.phrase_parser.proofs.Tokens.CutPieces.{IsSound}
use Rattle.phrase_parser.proofs.Machine.Limits.{NumberFits}
use Rattle.phrase_parser.proofs.Machine.ExprSpelling.{spell, spell_reference, spell_all, spell_behind, Fits, FitsReference, FitsAll, FitsBehind}
use Rattle.phrase_parser.proofs.Readings.LexedTexts.{Lexed, Safe, safe_sign, lexed_empty, lexed_append, lexed_blank, lexed_name, lexed_number, lexed_text, lexed_bit, lexed_sign}
use Rattle.phrase_parser.proofs.Tokens.Words.{name_word}
use Rattle.phrase_parser.proofs.Machine.AllOfLists.{append_all}

-- a name is a name, a constant can be a value, and a number is no larger than the greatest
abbrev pub CanBeWritten : Token → Type 0
CanBeWritten token = IsSound token × NumberFits token

-- each token of a list can be written
abbrev pub AllWritable : List Token → Type 0
AllWritable tokens = AllByRecursion CanBeWritten tokens

-- what holds of all tokens holds of those of a front and of those behind it
pub writable_split : (front back : List Token) → AllWritable (front ++ back) → AllWritable front × AllWritable back
writable_split front back h = append_all CanBeWritten front back h

-- a number within the limit is below 2 ^ 64
pub small_number : (n : ℕ) → n ≤ greatest_number → n < 2 ^ 64
small_number n h = omega arith

-- no letter is the second byte of a sign
letter_no_sign : (byte : ℕ) → is_letter byte ≡ true → is_second byte ≡ false
letter_no_sign byte h = grind (arith, nat_tests)

-- no digit is the second byte of a sign
digit_no_sign : (byte : ℕ) → is_digit byte ≡ true → is_second byte ≡ false
digit_no_sign byte h = grind (arith, nat_tests)

-- a name ends a sign in front of it
pub name_ends_sign : (name behind : List ℕ) → is_word name ≡ true → EndsSign (name ++ behind)
name_ends_sign [] behind word = absurd (false≢true word)
name_ends_sign (first ∷ rest) behind word = letter_no_sign first (and_parts (is_letter first) (list_all is_name_byte rest) word).0

-- digits end a sign in front of them
numeral_ends_sign : (digits behind : List ℕ) → IsNumeral digits → EndsSign (digits ++ behind)
numeral_ends_sign [] behind numeral = absurd (omega (arith, numeral.0))
numeral_ends_sign (first ∷ rest) behind numeral = digit_no_sign first (and_parts (is_digit first) (list_all is_digit rest) numeral.1).0

-- a number in decimal ends a sign in front of it
pub number_ends_sign : (n : ℕ) (behind : List ℕ) → n ≤ greatest_number → EndsSign (decimal n ++ behind)
number_ends_sign n behind h = numeral_ends_sign (decimal n) behind (decimal_numeral n (small_number n h)).0

-- a bit constant ends a sign in front of it
bit_ends_sign : (bit : Bool) (behind : List ℕ) → EndsSign (bit_bytes bit ++ behind)
bit_ends_sign false behind = refl
bit_ends_sign true behind = refl

-- a sign before an operand ends a sign in front of it
prefix_ends_sign : (op : PrefixOp) (behind : List ℕ) → EndsSign (sign_bytes (prefix_sign op) ++ behind)
prefix_ends_sign before.Plus behind = refl
prefix_ends_sign before.Minus behind = refl
prefix_ends_sign before.Not behind = refl

-- what ends a sign whatever stands behind it does so with more behind it
ends_sign_more : (x y behind : List ℕ) → EndsSign (x ++ (y ++ behind)) → EndsSign ((x ++ y) ++ behind)
ends_sign_more x y behind h = subst EndsSign (sym (append_assoc x y behind)) h

mutual
  -- an expression's canonical text ends a sign in front of it
  pub canon_ends_sign : (t : PlainExpr) (level : ℕ) → Fits t level → AllWritable (spell t) → (behind : List ℕ) → EndsSign (canon t ++ behind)
  canon_ends_sign (PlainExpr.number (pos n)) level fits writable behind = number_ends_sign n behind writable.0.1
  canon_ends_sign (PlainExpr.number (negsuc n)) level fits writable behind = absurd fits
  canon_ends_sign (PlainExpr.text value) level fits writable behind = refl
  canon_ends_sign (PlainExpr.bit value) level fits writable behind = bit_ends_sign value behind
  canon_ends_sign (PlainExpr.variable reference) level fits writable behind = reference_ends_sign reference writable behind
  canon_ends_sign (PlainExpr.unary op a) level fits writable behind =
      ends_sign_more (sign_bytes (prefix_sign op)) (canon a) behind (prefix_ends_sign op (canon a ++ behind))
  canon_ends_sign (PlainExpr.binary op a b) level fits writable behind =
      let right = 32 ∷ (sign_bytes (infix_sign op) ++ (32 ∷ canon b)) in
      ends_sign_more (canon a) right behind
      (canon_ends_sign a (priority op) fits.1 (writable_split (spell a) (Token.sign (infix_sign op) ∷ spell b) writable).0 (right ++ behind))
  canon_ends_sign (PlainExpr.builtin function arguments) level fits writable behind =
      ends_sign_more (builtin_name function) (parenthesized_bytes (canon_list arguments)) behind
      (name_ends_sign (builtin_name function) (parenthesized_bytes (canon_list arguments) ++ behind) (name_word (builtin_name function) writable.0.0))
  canon_ends_sign (PlainExpr.parenthesized a) level fits writable behind = refl

  -- a variable's canonical text ends a sign in front of it
  pub reference_ends_sign : (reference : PlainVarRef) → AllWritable (spell_reference reference) → (behind : List ℕ)
      → EndsSign (canon_reference reference ++ behind)
  reference_ends_sign (PlainVarRef.simple name) writable behind = name_ends_sign name behind (name_word name writable.0.0)
  reference_ends_sign (PlainVarRef.subscripted name index) writable behind =
      ends_sign_more name (parenthesized_bytes (canon index)) behind
      (name_ends_sign name (parenthesized_bytes (canon index) ++ behind) (name_word name writable.0.0))

-- the canonical texts of expressions joined by commas end a sign in front of them
pub list_ends_sign : (ts : PlainExprs) → FitsAll ts → AllWritable (spell_all ts) → (behind : List ℕ) → EndsSign (canon_list ts ++ behind)
list_ends_sign PlainExprs.nil fits writable behind = absurd fits
list_ends_sign (PlainExprs.cons a rest) fits writable behind =
    ends_sign_more (canon a) (canon_behind rest) behind
    (canon_ends_sign a 1 fits.0 (writable_split (spell a) (spell_behind rest) writable).0 (canon_behind rest ++ behind))

-- a text in parentheses, behind a name
pub lexed_called : (name x : List ℕ) (tokens : List Token) (behind : List ℕ) → IsName name → EndsSign (x ++ (41 ∷ behind))
    → Lexed x tokens (41 ∷ behind) → Safe behind → Lexed (name ++ parenthesized_bytes x) (Token.name name ∷ in_parentheses tokens) behind
lexed_called name x tokens behind named ends inner safe =
    lexed_append name (parenthesized_bytes x) (Token.name name ∷ []) (in_parentheses tokens) behind
    (lexed_name name (parenthesized_bytes x ++ behind) named refl)
    (lexed_append (40 ∷ []) (x ++ (41 ∷ [])) (Token.sign Sign.OpenParenthesis ∷ []) (tokens ++ (Token.sign Sign.CloseParenthesis ∷ [])) behind
    (lexed_sign Sign.OpenParenthesis ((x ++ (41 ∷ [])) ++ behind) (ends_sign_more x (41 ∷ []) behind ends))
    (lexed_append x (41 ∷ []) tokens (Token.sign Sign.CloseParenthesis ∷ []) behind inner
    (lexed_sign Sign.CloseParenthesis behind (safe_sign behind safe))))

-- a text behind a comma and a blank
pub lexed_behind_comma : (x : List ℕ) (tokens : List Token) (behind : List ℕ) → Lexed x tokens behind
    → Lexed (44 ∷ 32 ∷ x) (Token.sign Sign.Comma ∷ tokens) behind
lexed_behind_comma x tokens behind a =
    lexed_append (44 ∷ []) (32 ∷ x) (Token.sign Sign.Comma ∷ []) tokens behind (lexed_sign Sign.Comma ((32 ∷ x) ++ behind) refl)
    (lexed_blank x tokens behind a)

-- a text behind a sign between blanks
pub lexed_behind_sign : (s : Sign) (x : List ℕ) (tokens : List Token) (behind : List ℕ) → Lexed x tokens behind
    → Lexed (32 ∷ (sign_bytes s ++ (32 ∷ x))) (Token.sign s ∷ tokens) behind
lexed_behind_sign s x tokens behind a =
    lexed_blank (sign_bytes s ++ (32 ∷ x)) (Token.sign s ∷ tokens) behind
    (lexed_append (sign_bytes s) (32 ∷ x) (Token.sign s ∷ []) tokens behind (lexed_sign s ((32 ∷ x) ++ behind) refl)
    (lexed_blank x tokens behind a))

-- behind an expression in a list stands a comma, or what stands behind the list
behind_safe : (ts : PlainExprs) (behind : List ℕ) → Safe behind → Safe (canon_behind ts ++ behind)
behind_safe PlainExprs.nil behind safe = safe
behind_safe (PlainExprs.cons a rest) behind safe = refl

-- what is in parentheses can be written where the whole can
pub inner_writable : (tokens : List Token) → AllWritable (in_parentheses tokens) → AllWritable tokens
inner_writable tokens h = (writable_split tokens (Token.sign Sign.CloseParenthesis ∷ []) h.1).0

mutual
  -- an expression's canonical text, where what follows is safe
  pub canon_lexed : (t : PlainExpr) (level : ℕ) → Fits t level → AllWritable (spell t) → (behind : List ℕ) → Safe behind → Lexed (canon t) (spell t) behind
  canon_lexed (PlainExpr.number (pos n)) level fits writable behind safe = lexed_number n behind (small_number n writable.0.1) safe
  canon_lexed (PlainExpr.number (negsuc n)) level fits writable behind safe = absurd fits
  canon_lexed (PlainExpr.text value) level fits writable behind safe = lexed_text value behind writable.0.0 safe
  canon_lexed (PlainExpr.bit value) level fits writable behind safe = lexed_bit value behind safe
  canon_lexed (PlainExpr.variable reference) level fits writable behind safe = reference_lexed reference fits.1 writable behind safe
  canon_lexed (PlainExpr.unary op a) level fits writable behind safe =
      lexed_append (sign_bytes (prefix_sign op)) (canon a) (Token.sign (prefix_sign op) ∷ []) (spell a) behind
      (lexed_sign (prefix_sign op) (canon a ++ behind) (canon_ends_sign a tightest fits writable.1 behind))
      (canon_lexed a tightest fits writable.1 behind safe)
  canon_lexed (PlainExpr.binary op a b) level fits writable behind safe =
      let parts = writable_split (spell a) (Token.sign (infix_sign op) ∷ spell b) writable in
      let right = 32 ∷ (sign_bytes (infix_sign op) ++ (32 ∷ canon b)) in
      lexed_append (canon a) right (spell a) (Token.sign (infix_sign op) ∷ spell b) behind
      (canon_lexed a (priority op) fits.1 parts.0 (right ++ behind) refl)
      (lexed_behind_sign (infix_sign op) (canon b) (spell b) behind (canon_lexed b _ fits.2 parts.1.1 behind safe))
  canon_lexed (PlainExpr.builtin function arguments) level fits writable behind safe =
      let inner = inner_writable (spell_all arguments) writable.1 in
      lexed_called (builtin_name function) (canon_list arguments) (spell_all arguments) behind writable.0.0
      (list_ends_sign arguments fits inner (41 ∷ behind))
      (list_lexed arguments fits inner (41 ∷ behind) refl) safe
  canon_lexed (PlainExpr.parenthesized a) level fits writable behind safe =
      let right = 32 ∷ 41 ∷ [] in
      lexed_append (40 ∷ []) (32 ∷ (canon a ++ right)) (Token.sign Sign.OpenParenthesis ∷ [])
      (spell a ++ (Token.sign Sign.CloseParenthesis ∷ [])) behind
      (lexed_sign Sign.OpenParenthesis ((32 ∷ (canon a ++ right)) ++ behind) refl)
      (lexed_blank (canon a ++ right) (spell a ++ (Token.sign Sign.CloseParenthesis ∷ [])) behind
      (lexed_append (canon a) right (spell a) (Token.sign Sign.CloseParenthesis ∷ []) behind
      (canon_lexed a 1 fits (inner_writable (spell a) writable) (right ++ behind) refl)
      (lexed_blank (41 ∷ []) (Token.sign Sign.CloseParenthesis ∷ []) behind
      (lexed_sign Sign.CloseParenthesis behind (safe_sign behind safe)))))

  -- a variable's
  pub reference_lexed : (reference : PlainVarRef) → FitsReference reference → AllWritable (spell_reference reference) → (behind : List ℕ)
      → Safe behind → Lexed (canon_reference reference) (spell_reference reference) behind
  reference_lexed (PlainVarRef.simple name) fits writable behind safe = lexed_name name behind writable.0.0 safe
  reference_lexed (PlainVarRef.subscripted name index) fits writable behind safe =
      let inner = inner_writable (spell index) writable.1 in
      lexed_called name (canon index) (spell index) behind writable.0.0 (canon_ends_sign index 1 fits inner (41 ∷ behind))
      (canon_lexed index 1 fits inner (41 ∷ behind) refl) safe

  -- that of expressions joined by commas
  pub list_lexed : (ts : PlainExprs) → FitsAll ts → AllWritable (spell_all ts) → (behind : List ℕ) → Safe behind → Lexed (canon_list ts) (spell_all ts) behind
  list_lexed PlainExprs.nil fits writable behind safe = absurd fits
  list_lexed (PlainExprs.cons a rest) fits writable behind safe =
      let parts = writable_split (spell a) (spell_behind rest) writable in
      lexed_append (canon a) (canon_behind rest) (spell a) (spell_behind rest) behind
      (canon_lexed a 1 fits.0 parts.0 (canon_behind rest ++ behind) (behind_safe rest behind safe))
      (behind_lexed rest fits.1 parts.1 behind safe)

  -- that of expressions, each behind a comma
  pub behind_lexed : (ts : PlainExprs) → FitsBehind ts → AllWritable (spell_behind ts) → (behind : List ℕ) → Safe behind
      → Lexed (canon_behind ts) (spell_behind ts) behind
  behind_lexed PlainExprs.nil fits writable behind safe = lexed_empty behind
  behind_lexed (PlainExprs.cons a rest) fits writable behind safe =
      let parts = writable_split (spell a) (spell_behind rest) writable.1 in
      lexed_behind_comma (canon a ++ canon_behind rest) (spell a ++ spell_behind rest) behind
      (lexed_append (canon a) (canon_behind rest) (spell a) (spell_behind rest) behind
      (canon_lexed a 1 fits.0 parts.0 (canon_behind rest ++ behind) (behind_safe rest behind safe))
      (behind_lexed rest fits.1 parts.1 behind safe))
