-- A comment's text is refused exactly where it isn't one.
use Rattle.std.proofs.Common.{◌≡◌, inl, inr, refl, ℕ, ◌+◌, ◌≤◌, Bool, true, false, cond, ◌||◌, not, List, [], ◌∷◌, ◌++◌, drop, length, Some, None, ap, sym, ◌∙◌, append_assoc, zero-le, arith}
use Rattle.std.specs.Prelude.{nat_eq, bytes_eq}
use Rattle.std.specs.List.{list_all, starts_with}
use Rattle.std.proofs.lemmas.Bool.{not-false, and_parts, and_from, or_right, or_parts, or_from, cond-true, cond-false, cond_both, false_from_ne_true, not_from_true}
use Rattle.std.proofs.lemmas.Bool.Decides.{Decides-eqb}
use Rattle.std.proofs.lemmas.Slice.Eq.{bytes_eq-Decides, starts_is}
use Rattle.plcs_base.specs.Byte.{is_printable}
use Rattle.plcs_grammar.specs.Cuts.{tokens_of}
use Rattle.plcs_grammar.specs.TrimmedText.{trimmed}
use Rattle.std.proofs.lemmas.List.Elements.{All-from_recursion}
use Rattle.plcs_grammar.specs.declared.category.Category.TheVariants.{CommentText}
use Rattle.plcs_grammar.specs.PlainPhrase.{PlainPhrase}
use Rattle.plcs_grammar.specs.Reads.{Outline, Reads}
use Rattle.phrase_parser.specs.declared.fault.PhraseFault.TheVariants.{Syntax}
use Rattle.phrase_parser.specs.Answers.{FaultSays}
use Rattle.phrase_parser.proofs.Comments.TrimmedTexts.{trimmed_keeps, surrounded}
use Rattle.phrase_parser.proofs.Readings.OneAnswer.{comment_no_form}
use Rattle.plcs_grammar.specs.Comment.{comment_end, comment_placeholder, comment_offence, comment_syntax, IsCommentText}

absurd_true : (b : Bool) → b ≡ false → b ≡ true → ⊥
absurd_true b e h = absurd (cc)

-- whether the comment's end begins here
abbrev ends : List ℕ → Bool
ends x = starts_with nat_eq x comment_end

ends_here : (rest : List ℕ) → ends (42 ∷ 47 ∷ rest) ≡ true
ends_here rest = refl

-- where the end begins the text is refused
offence_there : (front rest : List ℕ) (place : ℕ) → comment_offence place (front ++ (42 ∷ 47 ∷ rest)) ≡ None → ⊥
offence_there [] rest place e = let h = cond-true (not (is_printable 42) || ends (42 ∷ 47 ∷ rest)) (Some place) (comment_offence (place + 1) (47 ∷ rest)) (or_right (not (is_printable 42)) _ (ends_here rest)) in absurd (cc)
offence_there (b ∷ front) rest place e =
    cond_both (not (is_printable b) || ends (b ∷ (front ++ (42 ∷ 47 ∷ rest)))) (Some place) (comment_offence (place + 1) (front ++ (42 ∷ 47 ∷ rest)))
    (λ z. z ≡ None → ⊥) (λ t k. absurd (cc)) (λ t k. offence_there front rest (place + 1) k) e

-- a text that isn't refused is printable
no_offence_printable : (x : List ℕ) (place : ℕ) → comment_offence place x ≡ None → list_all is_printable x ≡ true
no_offence_printable [] place e = refl
no_offence_printable (b ∷ rest) place e =
    cond_both (not (is_printable b) || ends (b ∷ rest)) (Some place) (comment_offence (place + 1) rest)
    (λ z. z ≡ None → list_all is_printable (b ∷ rest) ≡ true) (λ t k. absurd (cc))
    (λ t k. and_from (is_printable b) (list_all is_printable rest)
    (not-false (is_printable b) (or_parts (not (is_printable b)) (ends (b ∷ rest)) t).0)
    (no_offence_printable rest (place + 1) k)) e

-- where the end begins its two bytes stand
ends_two : (x : List ℕ) → ends x ≡ true → (behind : List ℕ) × (x ≡ 42 ∷ 47 ∷ behind)
ends_two x e = (drop 2 x, (starts_is Decides-eqb x comment_end (ends x) refl).0 e)

-- a printable text in which the end stands nowhere isn't refused
free_no_offence : (x : List ℕ) (place : ℕ) → list_all is_printable x ≡ true → ((front rest : List ℕ) → x ≡ front ++ (42 ∷ 47 ∷ rest) → ⊥)
    → comment_offence place x ≡ None
free_no_offence [] place all free = refl
free_no_offence (b ∷ rest) place all free =
    let parts = and_parts (is_printable b) (list_all is_printable rest) all in
    let here = false_from_ne_true (ends (b ∷ rest)) (λ t. let r = ends_two (b ∷ rest) t in free [] r.0 r.1) in
    cond-false (not (is_printable b) || ends (b ∷ rest)) (Some place) (comment_offence (place + 1) rest)
    (or_from (not (is_printable b)) (ends (b ∷ rest)) (not_from_true (is_printable b) parts.0) here)
    ∙ free_no_offence rest (place + 1) parts.1 (λ front behind e. free (b ∷ front) behind (ap (λ z. b ∷ z) e))

-- where a text isn't refused, no comment's end stands in its trimmed text
no_end_if : (x : List ℕ) → comment_offence 0 x ≡ None → (front back : List ℕ) → trimmed x ≡ front ++ (comment_end ++ back) → ⊥
no_end_if x e front back t =
    let s = surrounded x in
    let whole : x ≡ (s.0 ++ front) ++ (42 ∷ 47 ∷ (back ++ s.1)) =
    s.2 ∙ ap (λ z. s.0 ++ (z ++ s.1)) t ∙ ap (λ z. s.0 ++ z) (append_assoc front (42 ∷ 47 ∷ back) s.1)
    ∙ sym (append_assoc s.0 front (42 ∷ 47 ∷ (back ++ s.1))) in
    offence_there (s.0 ++ front) (back ++ s.1) 0 (ap (λ z. comment_offence 0 z) (sym whole) ∙ e)

no_offence_if : (x : List ℕ) → IsCommentText x → comment_offence 0 x ≡ None
no_offence_if x h =
    free_no_offence x 0 h.printable (λ front rest e.
    let r = trimmed_keeps front 42 47 rest refl refl in h.no_end r.0 r.1 (ap trimmed e ∙ r.2))

-- a text that isn't refused is a comment's
pub comment_allowed : (x : List ℕ) → comment_syntax x ≡ None → IsCommentText x
comment_allowed x e =
    cond_both (bytes_eq (trimmed x) []) (Some (length x)) (cond (bytes_eq (trimmed x) comment_placeholder) (Some 0) (comment_offence 0 x))
    (λ z. z ≡ None → IsCommentText x) (λ t k. absurd (cc))
    (λ t. cond_both (bytes_eq (trimmed x) comment_placeholder) (Some 0) (comment_offence 0 x)
    (λ z. z ≡ None → IsCommentText x) (λ u k. absurd (cc))
    (λ u k. record {
      printable = no_offence_printable x 0 k;
      not_empty = λ q. absurd_true (bytes_eq (trimmed x) []) t ((bytes_eq-Decides (trimmed x) []).1 q);
      no_placeholder = λ q. absurd_true (bytes_eq (trimmed x) comment_placeholder) u ((bytes_eq-Decides (trimmed x) comment_placeholder).1 q);
      no_end = no_end_if x k;
    })) e

-- a comment's text isn't refused
pub comment_free : (x : List ℕ) → IsCommentText x → comment_syntax x ≡ None
comment_free x h =
    cond-false (bytes_eq (trimmed x) []) (Some (length x)) (cond (bytes_eq (trimmed x) comment_placeholder) (Some 0) (comment_offence 0 x))
    (false_from_ne_true (bytes_eq (trimmed x) []) (λ t. h.not_empty ((bytes_eq-Decides (trimmed x) []).0 t)))
    ∙ cond-false (bytes_eq (trimmed x) comment_placeholder) (Some 0) (comment_offence 0 x)
    (false_from_ne_true (bytes_eq (trimmed x) comment_placeholder) (λ t. h.no_placeholder ((bytes_eq-Decides (trimmed x) comment_placeholder).0 t)))
    ∙ no_offence_if x h

-- a refused text has no reading as a comment
no_comment : (x : List ℕ) (at : ℕ) → comment_syntax x ≡ Some at → Outline CommentText x → ⊥
no_comment x at e (p, inl (pieces, h)) = comment_no_form CommentText (tokens_of pieces) p refl h.form
no_comment x at e (p, inr h) = let k = comment_free x h.text in absurd (cc)

-- places of refused bytes lie in the text
offence_within : (x : List ℕ) (place at : ℕ) → comment_offence place x ≡ Some at → at ≤ place + length x
offence_within [] place at e = absurd (cc)
offence_within (b ∷ rest) place at e =
    cond_both (not (is_printable b) || ends (b ∷ rest)) (Some place) (comment_offence (place + 1) rest)
    (λ z. z ≡ Some at → at ≤ place + length (b ∷ rest))
    (λ t k. let same : place ≡ at = cc in omega (arith, same))
    (λ t k. omega (arith, offence_within rest (place + 1) at k)) e

-- the place where a comment's text is refused lies in the text, or at its end
pub comment_within : (x : List ℕ) (at : ℕ) → comment_syntax x ≡ Some at → at ≤ length x
comment_within x at e =
    cond_both (bytes_eq (trimmed x) []) (Some (length x)) (cond (bytes_eq (trimmed x) comment_placeholder) (Some 0) (comment_offence 0 x))
    (λ z. z ≡ Some at → at ≤ length x) (λ t k. let same : length x ≡ at = cc in omega (arith, same))
    (λ t. cond_both (bytes_eq (trimmed x) comment_placeholder) (Some 0) (comment_offence 0 x)
    (λ z. z ≡ Some at → at ≤ length x) (λ u k. let same : 0 ≡ at = cc in omega (arith, same))
    (λ u k. omega (arith, offence_within x 0 at k))) e

-- what the comment's text says of the whole text
pub comment_reads : (x bytes : List ℕ) → comment_syntax x ≡ None → bytes ≡ trimmed x → Reads CommentText x (PlainPhrase.comment bytes)
comment_reads x bytes e same = (
  inr (record { category_is = refl; text = comment_allowed x e; phrase_is = ap (λ z. PlainPhrase.comment z) same }),
  record { numbers_fit = All-from_recursion _ [] tt; nesting_fits = zero-le },
)

pub comment_refused : (x : List ℕ) (at : ℕ) → comment_syntax x ≡ Some at → FaultSays CommentText x (Syntax at)
comment_refused x at e = (no_comment x at e, inr (refl, e))
