-- What is known of each canonical text, so that it can be shown in a part, and the law that it is so.
use Rattle.std.specs.Prelude.{◌≢◌, ℕ, List, [], ◌++◌, codes, IsTrue}
use Rattle.std.specs.List.{list_all}
use Rattle.plcs_base.specs.Byte.{is_printable}
use Rattle.plcs_grammar.specs.declared.category.Category.{Category}
use Rattle.plcs_grammar.specs.PlainPhrase.{PlainPhrase}
use Rattle.plcs_grammar.specs.Placeholder.{placeholder}
use Rattle.plcs_grammar.specs.Canon.{Canon, IsWellFormed}

-- the text can be shown in a part of the category: there is some of it, it is printable, no blank stands at either end,
-- and it isn't taken for an empty part
pub record IsShownText (category : Category) (x : List ℕ) : Type 0 where
  pub not_empty : x ≢ []
  pub printable : IsTrue (list_all is_printable x)
  pub no_blank_first : (rest : List ℕ) → x ≢ codes " " ++ rest
  pub no_blank_last : (front : List ℕ) → x ≢ front ++ codes " "
  pub no_placeholder : x ≢ placeholder category

-- the law that the canonical text of each well-formed phrase can be shown
abbrev pub CanonicalTextsShow : Type 0
CanonicalTextsShow =
    (category : Category) (phrase : PlainPhrase) → IsWellFormed category phrase → IsShownText category (Canon phrase)
