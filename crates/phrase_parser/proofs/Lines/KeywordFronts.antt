-- No keyword stands where a part of a line begins.
use Rattle.std.proofs.Common.{◌≡◌, ◌≢◌, inl, inr, refl, ℕ, true, false, List, [], ◌∷◌, ◌++◌, length, sym, ap, subst, ◌∙◌, arith}
use Rattle.std.specs.List.{list_all}
use Rattle.std.proofs.lemmas.Bool.{and_parts, false≢true, not-true}
use Rattle.std.proofs.lemmas.Option.{same_Some}
use Rattle.std.proofs.lemmas.Bool.Decides.{nat_tests}
use Rattle.plcs_base.specs.Byte.{is_letter, is_digit, is_name_byte}
use Rattle.plcs_base.specs.Name.{is_word, IsName}
use Rattle.plcs_grammar.specs.declared.category.Category.{Category}
use Rattle.plcs_grammar.specs.declared.category.Category.TheVariants.{CommentText}
use Rattle.plcs_grammar.specs.declared.category.Category.TheVariants as category
use Rattle.plcs_grammar.specs.declared.sign.Sign.{Sign}
use Rattle.plcs_grammar.specs.Sign.{sign_bytes}
use Rattle.plcs_grammar.specs.Token.{begins_with, EndsWord}
use Rattle.plcs_grammar.specs.PlainPhrase.{PlainPhrase}
use Rattle.plcs_grammar.specs.Placeholder.{placeholder}
use Rattle.plcs_grammar.specs.Canon.{Canon, IsWellFormed}
use Rattle.phrase_parser.specs.declared.front.Front.{Front}
use Rattle.phrase_parser.specs.declared.token.TokenKind.TheVariants as kind
use Rattle.phrase_parser.specs.Private.Front.{front_of}
use Rattle.phrase_parser.specs.LineParts.{IsPartOfLine, BeginsWithKeyword}
use Rattle.phrase_parser.proofs.Tokens.Words.{keyword_word}
use Rattle.phrase_parser.proofs.Tokens.LongestFront.{name_found, keyword_found}
use Rattle.phrase_parser.proofs.Readings.CanonicalText.{cut_writable}
use Rattle.phrase_parser.proofs.Lines.TextFronts.{Ends, HoldsAtTokens, phrase_front}

-- no keyword stands in front of a text
abbrev NoKeyword : List ℕ → Type 0
NoKeyword x = BeginsWithKeyword x → ⊥

-- where a name stands, no keyword does
name_no_keyword : (name behind : List ℕ) → IsName name → Ends behind → NoKeyword (name ++ behind)
name_no_keyword name behind named ends front =
    let found = name_found name behind named ends in
    let other = keyword_found front.word front.behind front.keyword (not-true (begins_with is_name_byte front.behind) front.ends) in
    let name_front : Front = record { kind = kind.Name; length = length name } in
    let word_front : Front = record { kind = kind.Keyword; length = length front.word } in
    let same : name_front ≡ word_front = same_Some name_front word_front (sym found ∙ ap front_of front.whole ∙ other) in
    let kinds : kind.Name ≡ kind.Keyword = ap (λ (f : Front). f.kind) same in
    absurd (cc)

-- no keyword stands where the first byte is no letter
letter_needed : (x word behind : List ℕ) → begins_with is_letter x ≡ false → is_word word ≡ true → x ≡ word ++ behind → ⊥
letter_needed x [] behind other word e = false≢true word
letter_needed x (letter ∷ rest) behind other word e =
    let starts = (and_parts (is_letter letter) (list_all is_name_byte rest) word).0 in
    false≢true (sym other ∙ ap (begins_with is_letter) e ∙ starts)

no_letter_no_keyword : (x : List ℕ) → begins_with is_letter x ≡ false → NoKeyword x
no_letter_no_keyword x other front =
    letter_needed x front.word front.behind other (keyword_word front.word front.keyword) front.whole

digit_no_letter : (digit : ℕ) → is_digit digit ≡ true → is_letter digit ≡ false
digit_no_letter digit h = grind (arith, nat_tests)

sign_no_letter : (sign : Sign) (y : List ℕ) → begins_with is_letter (sign_bytes sign ++ y) ≡ false
sign_no_letter Sign.Plus y = refl
sign_no_letter _ y = refl

-- no keyword stands where a token of a phrase does
no_keyword_at_tokens : HoldsAtTokens NoKeyword
no_keyword_at_tokens = record {
  at_name = name_no_keyword;
  at_digit = λ digit y h. no_letter_no_keyword (digit ∷ y) (digit_no_letter digit h);
  at_quote = λ y. no_letter_no_keyword (39 ∷ y) refl;
  at_sign = λ sign y. no_letter_no_keyword (sign_bytes sign ++ y) (sign_no_letter sign y);
}

-- no keyword stands where a well-formed phrase does that is no comment
phrase_no_keyword : (c : Category) (p : PlainPhrase) → c ≢ CommentText → IsWellFormed c p → (behind : List ℕ) → Ends behind
    → NoKeyword (Canon p ++ behind)
phrase_no_keyword c p no_comment (inl (pieces, cut), limits) behind ends =
    let writable = cut_writable c (Canon p) pieces p cut limits in
    phrase_front NoKeyword no_keyword_at_tokens p writable.fits writable.tokens behind ends
phrase_no_keyword c p no_comment (inr comment, limits) behind ends = absurd (no_comment comment.category_is)

-- a placeholder begins with a brace
placeholder_no_letter : (c : Category) (behind : List ℕ) → begins_with is_letter (placeholder c ++ behind) ≡ false
placeholder_no_letter category.Assignment behind = refl
placeholder_no_letter category.Condition behind = refl
placeholder_no_letter category.Expression behind = refl
placeholder_no_letter category.ExpressionList behind = refl
placeholder_no_letter category.VariableList behind = refl
placeholder_no_letter category.Variable behind = refl
placeholder_no_letter category.CallRef behind = refl
placeholder_no_letter category.DeclaredList behind = refl
placeholder_no_letter category.ProcedureName behind = refl
placeholder_no_letter category.NameList behind = refl
placeholder_no_letter category.Length behind = refl
placeholder_no_letter category.CommentText behind = refl

-- no keyword stands where a part of a line begins that is no comment's
pub no_keyword_begins : (c : Category) (x behind : List ℕ) → c ≢ CommentText → IsPartOfLine c x → EndsWord behind
    → ¬ (BeginsWithKeyword (x ++ behind))
no_keyword_begins c x behind no_comment (inl (p, formed, is)) ends =
    subst (λ (z : List ℕ). NoKeyword (z ++ behind)) (sym is)
    (phrase_no_keyword c p no_comment formed behind (not-true (begins_with is_name_byte behind) ends))
no_keyword_begins c x behind no_comment (inr is) ends =
    subst (λ (z : List ℕ). NoKeyword (z ++ behind)) (sym is)
    (no_letter_no_keyword (placeholder c ++ behind) (placeholder_no_letter c behind))
