-- The text of a comment, which is no tokens. Places count from the start of the whole text.
use Rattle.std.specs.Prelude.{◌≢◌, ℕ, ◌+◌, ◌||◌, not, nat_eq, if◌then◌else◌, List, [], ◌∷◌, ◌++◌, length, codes, Option, Some, None, IsTrue}
use Rattle.std.specs.Str.{bytes_eq}
use Rattle.std.specs.List.{list_all, starts_with}
use Rattle.plcs_base.specs.Byte.{is_printable}
use Rattle.plcs_grammar.specs.declared.category.Category.TheVariants.{CommentText}
use Rattle.plcs_grammar.specs.Placeholder.{placeholder}
use Rattle.plcs_grammar.specs.TrimmedText.{trimmed}

-- the bytes that would end the comment
abbrev pub comment_end : List ℕ
comment_end = codes "*/"

-- what is no text of a comment: the placeholder of one
abbrev pub comment_placeholder : List ℕ
comment_placeholder = placeholder CommentText

-- the text can stand in a comment
pub record IsCommentText (x : List ℕ) : Type 0 where
  pub printable : IsTrue (list_all is_printable x)
  pub not_empty : trimmed x ≢ []
  pub no_placeholder : trimmed x ≢ comment_placeholder
  pub no_end : (front back : List ℕ) → trimmed x ≢ front ++ (comment_end ++ back)

-- the first place at which the comment's end begins or a byte outside 32 to 126 stands, if there is one;
-- the first byte has the place that is given
abbrev pub comment_offence : ℕ → List ℕ → Option ℕ
comment_offence place [] = None
comment_offence place (byte ∷ rest) =
    if not (is_printable byte) || starts_with nat_eq (byte ∷ rest) comment_end then Some place
    else comment_offence (place + 1) rest

-- the place in the text of a comment that makes it none, if one does: its end where it is blank, 0 for the placeholder
abbrev pub comment_syntax : List ℕ → Option ℕ
comment_syntax x =
    if bytes_eq (trimmed x) [] then Some (length x)
    else (if bytes_eq (trimmed x) comment_placeholder then Some 0 else comment_offence 0 x)
