-- The canonical text of a well-formed phrase can be shown in a part.
use Rattle.std.proofs.Common.{◌≡◌, ℕ, List, [], ◌∷◌, ◌++◌, codes, None, sym, ap, ◌∙◌, subst, inl, inr}
use Rattle.plcs_grammar.specs.declared.category.Category.{Category}
use Rattle.plcs_grammar.specs.declared.category.Category.TheVariants.{Assignment, Condition, Expression, ExpressionList, VariableList, Variable, CallRef, DeclaredList, ProcedureName, NameList, Length, CommentText}
use Rattle.plcs_grammar.specs.PlainPhrase.{PlainPhrase}
use Rattle.plcs_grammar.specs.Placeholder.{placeholder}
use Rattle.plcs_grammar.specs.Cuts.{tokens_of}
use Rattle.plcs_grammar.specs.TrimmedText.{trimmed}
use Rattle.plcs_grammar.specs.Comment.{IsCommentText}
use Rattle.plcs_grammar.specs.Reads.{HasReading}
use Rattle.plcs_grammar.specs.Canon.{Canon}
use Rattle.plcs_grammar.specs.ShownText.{IsShownText, CanonicalTextsShow}
use Rattle.plcs_grammar.proofs.SolidTexts.{IsSolid, BeginsWithEdge, EndsWithEdge}
use Rattle.plcs_grammar.proofs.FineTokens.{cuts_fine}
use Rattle.plcs_grammar.proofs.ShownPhrases.{solid_phrase}
use Rattle.plcs_grammar.proofs.TrimmedEnds.{trimmed_no_first, trimmed_no_last}

-- no placeholder begins as a phrase does, since that begins with no brace
no_edge : (category : Category) → ¬ (BeginsWithEdge (placeholder category))
no_edge Assignment h = cc
no_edge Condition h = cc
no_edge Expression h = cc
no_edge ExpressionList h = cc
no_edge VariableList h = cc
no_edge Variable h = cc
no_edge CallRef h = cc
no_edge DeclaredList h = cc
no_edge ProcedureName h = cc
no_edge NameList h = cc
no_edge Length h = cc
no_edge CommentText h = cc

-- no text with a blank at its end ends as a phrase does
ends_blank : (front : List ℕ) → ¬ (EndsWithEdge (front ++ codes " "))
ends_blank [] h = cc
ends_blank (byte ∷ []) h = cc
ends_blank (byte ∷ next ∷ front) h = ends_blank (next ∷ front) h

begins_blank : (rest : List ℕ) → ¬ (BeginsWithEdge (codes " " ++ rest))
begins_blank rest h = cc

solid_shown : (category : Category) (x : List ℕ) → IsSolid x → IsShownText category x
solid_shown category x solid = record {
  not_empty = λ e. subst BeginsWithEdge e solid.begins;
  printable = solid.printable;
  no_blank_first = λ rest e. begins_blank rest (subst BeginsWithEdge e solid.begins);
  no_blank_last = λ front e. ends_blank front (subst EndsWithEdge e solid.ends);
  no_placeholder = λ e. no_edge category (subst BeginsWithEdge e solid.begins);
}

-- the trimmed text of a comment can be shown
comment_shown : (category : Category) (x : List ℕ) → category ≡ CommentText → IsCommentText x → x ≡ trimmed x → IsShownText category x
comment_shown category x is text own = record {
  not_empty = λ e. text.not_empty (sym own ∙ e);
  printable = text.printable;
  no_blank_first = λ rest e. trimmed_no_first x rest own e;
  no_blank_last = λ front e. trimmed_no_last x front own e;
  no_placeholder = λ e. text.no_placeholder (sym own ∙ e ∙ ap placeholder is);
}

reading_shown : (category : Category) (phrase : PlainPhrase) → HasReading category (Canon phrase) phrase → IsShownText category (Canon phrase)
reading_shown category phrase (inl (pieces, cut)) =
    solid_shown category (Canon phrase) (solid_phrase phrase (tokens_of pieces) cut.form.1 (cuts_fine pieces 0 (Canon phrase) None cut.cuts))
reading_shown category phrase (inr comment) =
    comment_shown category (Canon phrase) comment.category_is comment.text (ap Canon comment.phrase_is)

pub shown_text : CanonicalTextsShow
shown_text category phrase well_formed = reading_shown category phrase well_formed.0
