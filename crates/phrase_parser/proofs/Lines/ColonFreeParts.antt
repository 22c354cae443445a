-- A part of a line has no colon outside of quotes.
use Rattle.std.proofs.Common.{◌≡◌, ◌≢◌, inl, inr, refl, ℕ, List, [], ◌++◌, sym, subst}
use Rattle.std.specs.Prelude.{codes}
use Rattle.std.proofs.lemmas.Bool.{not-true}
use Rattle.plcs_base.specs.Byte.{is_name_byte}
use Rattle.plcs_grammar.specs.declared.category.Category.{Category}
use Rattle.plcs_grammar.specs.declared.category.Category.TheVariants.{CommentText}
use Rattle.plcs_grammar.specs.declared.category.Category.TheVariants as category
use Rattle.plcs_grammar.specs.Token.{begins_with, EndsWord}
use Rattle.plcs_grammar.specs.PlainPhrase.{PlainPhrase}
use Rattle.plcs_grammar.specs.Placeholder.{placeholder}
use Rattle.plcs_grammar.specs.Canon.{Canon, IsWellFormed}
use Rattle.phrase_parser.specs.LineParts.{with_front, cut_at, IsPartOfLine}
use Rattle.phrase_parser.proofs.Readings.CanonicalText.{cut_writable}
use Rattle.phrase_parser.proofs.Lines.DividedTexts.{Clear, clear_solid}
use Rattle.phrase_parser.proofs.Lines.TextFronts.{Ends, HoldsAtTokens}
use Rattle.phrase_parser.proofs.Lines.DividedExprs.{Fresh}
use Rattle.phrase_parser.proofs.Lines.DividedPhrases.{writable_clear}
use Rattle.phrase_parser.proofs.Lines.DividerWords.{colon_apart}

-- a blank is no colon, whatever stands behind it
blank_no_colon : HoldsAtTokens (Fresh (codes ":"))
blank_no_colon = record { at_name = λ name y named ends. refl; at_digit = λ digit y h. refl; at_quote = λ y. refl; at_sign = λ sign y. refl }

-- a placeholder has no colon
placeholder_clear : (c : Category) (y : List ℕ) → Clear (codes ":") (placeholder c) y
placeholder_clear category.Assignment y = clear_solid 58 [] (placeholder category.Assignment) y refl
placeholder_clear category.Condition y = clear_solid 58 [] (placeholder category.Condition) y refl
placeholder_clear category.Expression y = clear_solid 58 [] (placeholder category.Expression) y refl
placeholder_clear category.ExpressionList y = clear_solid 58 [] (placeholder category.ExpressionList) y refl
placeholder_clear category.VariableList y = clear_solid 58 [] (placeholder category.VariableList) y refl
placeholder_clear category.Variable y = clear_solid 58 [] (placeholder category.Variable) y refl
placeholder_clear category.CallRef y = clear_solid 58 [] (placeholder category.CallRef) y refl
placeholder_clear category.DeclaredList y = clear_solid 58 [] (placeholder category.DeclaredList) y refl
placeholder_clear category.ProcedureName y = clear_solid 58 [] (placeholder category.ProcedureName) y refl
placeholder_clear category.NameList y = clear_solid 58 [] (placeholder category.NameList) y refl
placeholder_clear category.Length y = clear_solid 58 [] (placeholder category.Length) y refl
placeholder_clear category.CommentText y = clear_solid 58 [] (placeholder category.CommentText) y refl

-- the canonical text of a well-formed phrase that is no comment has no colon
phrase_colon_free : (c : Category) (p : PlainPhrase) → c ≢ CommentText → IsWellFormed c p → (y : List ℕ) → Ends y
    → Clear (codes ":") (Canon p) y
phrase_colon_free c p no_comment (inl (pieces, cut), limits) y ends =
    writable_clear 58 [] colon_apart blank_no_colon p (cut_writable c (Canon p) pieces p cut limits) y ends
phrase_colon_free c p no_comment (inr comment, limits) y ends = absurd (no_comment comment.category_is)

-- what begins with a part is cut at a colon where what stands behind the part is
pub colon_free : (c : Category) (x y : List ℕ) → c ≢ CommentText → IsPartOfLine c x → EndsWord y
    → cut_at (codes ":") (x ++ y) ≡ with_front x (cut_at (codes ":") y)
colon_free c x y no_comment (inl (p, formed, is)) ends =
    subst (λ (z : List ℕ). Clear (codes ":") z y) (sym is)
    (phrase_colon_free c p no_comment formed y (not-true (begins_with is_name_byte y) ends))
colon_free c x y no_comment (inr is) ends = subst (λ (z : List ℕ). Clear (codes ":") z y) (sym is) (placeholder_clear c y)
