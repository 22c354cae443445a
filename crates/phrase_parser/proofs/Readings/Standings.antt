-- A text is exactly one thing in a category.
use Rattle.std.proofs.Common.{◌≡◌, inl, inr, ◌⊎◌, refl, ℕ, List, [], Option, Some, None, Result, Ok, Err, sym, ap, subst, ◌∙◌, map, length, zero-le}
use Rattle.std.specs.Prelude.{IfOk}
use Rattle.std.proofs.lemmas.Option.{none-some}
use Rattle.std.proofs.lemmas.List.Elements.{All-from_recursion}
use Rattle.plcs_grammar.specs.declared.category.Category.{Category}
use Rattle.plcs_grammar.specs.declared.category.Category.TheVariants.{CommentText}
use Rattle.plcs_grammar.specs.declared.phrase.Phrase.{Phrase}
use Rattle.plcs_grammar.specs.PlainPhrase.{PlainPhrase, category_of, plain_phrase}
use Rattle.plcs_grammar.specs.Cuts.{Piece}
use Rattle.plcs_grammar.specs.TrimmedText.{trimmed}
use Rattle.plcs_grammar.specs.Comment.{comment_syntax}
use Rattle.plcs_grammar.specs.Limit.{IsWithinLimits}
use Rattle.plcs_grammar.specs.OpenedLevel.{phrase_opened_levels}
use Rattle.plcs_grammar.specs.OverLimit.{OverLimit, first_over}
use Rattle.plcs_grammar.specs.Reads.{IsCutAs, HasReading, IsOver}
use Rattle.phrase_parser.specs.declared.fault.PhraseFault.{PhraseFault}
use Rattle.phrase_parser.specs.Answers.{Answers}
use Rattle.phrase_parser.specs.Private.Recognizer.{Shape, first_shape}
use Rattle.phrase_parser.specs.Private.Findings.{Finding, seen_of, findings}
use Rattle.phrase_parser.specs.Standing.{Standing, HasStanding}
use Rattle.phrase_parser.proofs.Readings.WholeCuts.{cut_whole}
use Rattle.phrase_parser.proofs.Machine.Limits.{within, none_over}
use Rattle.phrase_parser.proofs.Findings.FindingsOfText.{SaysOfText, finding_says}
use Rattle.phrase_parser.proofs.Comments.CommentRefusals.{comment_reads, comment_refused}
use Rattle.phrase_parser.proofs.Readings.OneAnswer.{one_reading, one_over, reads_not_over, reads_outline, over_outline, one_wrong}

-- what a text has as its reading is of the category
pub reading_category : (c : Category) (x : List ℕ) (p : PlainPhrase) → HasReading c x p → category_of p ≡ c
reading_category c x p (inl (pieces, cut)) = cut.form.0
reading_category c x p (inr comment) = ap category_of comment.phrase_is ∙ sym comment.category_is

-- a phrase that is answered is of the category
pub answer_category : (c : Category) (x : List ℕ) (answer : Result Phrase PhraseFault) → Answers c x answer
    → IfOk answer (λ phrase. category_of (plain_phrase phrase) ≡ c)
answer_category c x (Ok phrase) says = reading_category c x (plain_phrase phrase) says.0
answer_category c x (Err fault) says = tt

-- a category is that of comments, or its phrases are tokens
comment_or_shape : (c : Category) → (c ≡ CommentText) ⊎ ((shape : Shape) × (first_shape c ≡ Some shape))
comment_or_shape CommentText = inl refl
comment_or_shape _ = inr (_, refl)

-- a text has a standing
abbrev Stands : Category → List ℕ → Type 0
Stands c x = (standing : Standing) × HasStanding c x standing

-- a text that a finding speaks of is what the finding says
finding_stands : (c : Category) (x : List ℕ) (pieces : List Piece) (found : Finding) → SaysOfText c x pieces found → Stands c x
finding_stands c x pieces Finding.fine says = (Standing.phrase says.0, says.2)
finding_stands c x pieces (Finding.syntax_at place) says = (Standing.wrong_at place, says)
finding_stands c x pieces (Finding.over (OverLimit.number_too_large place)) says = (Standing.over (OverLimit.number_too_large place), says)
finding_stands c x pieces (Finding.over (OverLimit.too_deep place)) says = (Standing.over (OverLimit.too_deep place), says)

-- a text in the category of comments is a comment, or wrong somewhere
comment_stands : (x : List ℕ) (offence : Option ℕ) → comment_syntax x ≡ offence → Stands CommentText x
comment_stands x None h = (Standing.phrase (PlainPhrase.comment (trimmed x)), comment_reads x (trimmed x) h refl)
comment_stands x (Some place) h = (Standing.wrong_at place, comment_refused x place h)

-- every text has a standing
stands : (c : Category) (x : List ℕ) → Stands c x
stands c x =
    elim (comment_or_shape c) [
      | inl comment ↦ subst (λ (d : Category). Stands d x) (sym comment) (comment_stands x (comment_syntax x) refl)
      | inr (shape, first) ↦
          let (pieces, stop, cut) = cut_whole x in
          finding_stands c x pieces (findings (map seen_of pieces) stop (length x) shape None) (finding_says c x pieces stop shape first cut)
    ]

-- no text has two standings
stands_alone : (c : Category) (x : List ℕ) (a b : Standing) → HasStanding c x a → HasStanding c x b → b ≡ a
stands_alone c x (Standing.phrase p) (Standing.phrase q) h k = ap Standing.phrase (one_reading c x q p k h)
stands_alone c x (Standing.phrase p) (Standing.over o) h k = absurd (reads_not_over c x p o h k)
stands_alone c x (Standing.phrase p) (Standing.wrong_at n) h k = absurd (k.0 (reads_outline c x p h))
stands_alone c x (Standing.over o) (Standing.phrase p) h k = absurd (reads_not_over c x p o k h)
stands_alone c x (Standing.over o) (Standing.over u) h k = ap Standing.over (one_over c x u o k h)
stands_alone c x (Standing.over o) (Standing.wrong_at n) h k = absurd (k.0 (over_outline c x o h))
stands_alone c x (Standing.wrong_at n) (Standing.phrase p) h k = absurd (h.0 (reads_outline c x p k))
stands_alone c x (Standing.wrong_at n) (Standing.over o) h k = absurd (h.0 (over_outline c x o k))
stands_alone c x (Standing.wrong_at n) (Standing.wrong_at m) h k = ap Standing.wrong_at (one_wrong c x m n k.1 h.1)

-- every text is exactly one thing
pub one_standing : (c : Category) (x : List ℕ)
    → (standing : Standing) × HasStanding c x standing × ((other : Standing) → HasStanding c x other → other ≡ standing)
one_standing c x =
    let (standing, is) = stands c x in
    (standing, is, λ other h. stands_alone c x standing other is h)

-- a text over a limit has a reading past the limits
pub over_past : (c : Category) (x : List ℕ) (o : OverLimit) → IsOver c x o
    → (p : PlainPhrase) × HasReading c x p × ¬ (IsWithinLimits p)
over_past c x o (pieces, p, cut, first) =
    (p, inl (pieces, cut), λ limits. none-some o (sym (within c pieces p cut.form limits) ∙ first))

-- a comment is within the limits
comment_within_limits : (bytes : List ℕ) → IsWithinLimits (PlainPhrase.comment bytes)
comment_within_limits bytes = record { numbers_fit = All-from_recursion _ [] tt; nesting_fits = zero-le }

-- tokens that are a phrase past the limits go past one of them first
cut_past : (c : Category) (x : List ℕ) (pieces : List Piece) (p : PlainPhrase) (first : Option OverLimit) → IsCutAs c x pieces p
    → first_over pieces (phrase_opened_levels p) ≡ first → ¬ (IsWithinLimits p) → (o : OverLimit) × IsOver c x o
cut_past c x pieces p None cut e past = absurd (past (none_over c pieces p cut.form e))
cut_past c x pieces p (Some o) cut e past = (o, (pieces, p, cut, e))

-- a text with a reading past the limits is over one
pub past_over : (c : Category) (x : List ℕ) (p : PlainPhrase) → HasReading c x p → ¬ (IsWithinLimits p) → (o : OverLimit) × IsOver c x o
past_over c x p (inl (pieces, cut)) past = cut_past c x pieces p (first_over pieces (phrase_opened_levels p)) cut refl past
past_over c x p (inr comment) past =
    absurd (past (subst IsWithinLimits (sym comment.phrase_is) (comment_within_limits (trimmed x))))
