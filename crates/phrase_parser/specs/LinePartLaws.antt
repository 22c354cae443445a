-- The laws of the parts of lines.
use Rattle.std.specs.Prelude.{◌≡◌, ◌≢◌, ℕ, List, ◌++◌, codes, Some}
use Rattle.plcs_grammar.specs.declared.category.Category.{Category}
use Rattle.plcs_grammar.specs.declared.category.Category.TheVariants.{CommentText}
use Rattle.plcs_grammar.specs.Token.{EndsWord}
use Rattle.phrase_parser.specs.LineParts.{with_front, cut_at, Divides, IsPartOfLine, BeginsWithKeyword}

-- the law that a part of a line ends at the first divider outside of quotes, whatever stands behind that
abbrev pub PartEndsAtDivider : Type 0
PartEndsAtDivider =
    (category : Category) (divider x y : List ℕ) → Divides category divider → IsPartOfLine category x
    → cut_at divider (x ++ (divider ++ y)) ≡ Some (x, y)

-- the law that two texts, each of a part, the divider and a rest, are equal only where their parts and their rests are
abbrev pub DividedPartsTell : Type 0
DividedPartsTell =
    (category : Category) (divider x y z w : List ℕ) → Divides category divider → IsPartOfLine category x
    → IsPartOfLine category z
    → x ++ (divider ++ y) ≡ z ++ (divider ++ w) → (x ≡ z) × (y ≡ w)

-- the law that a text that is cut is what stands before the divider, the divider, and what stands behind it
abbrev pub CutTextsJoin : Type 0
CutTextsJoin = (divider text x y : List ℕ) → cut_at divider text ≡ Some (x, y) → text ≡ x ++ (divider ++ y)

-- the law that no keyword stands where a part begins that is no comment's, so a line's keywords tell its fixed head
abbrev pub NoKeywordBeginsPart : Type 0
NoKeywordBeginsPart =
    (category : Category) (x behind : List ℕ) → category ≢ CommentText → IsPartOfLine category x → EndsWord behind
    → ¬ (BeginsWithKeyword (x ++ behind))

-- the law that a part that is no comment's has no colon outside of quotes: what begins with it is cut at a colon only
-- behind it
abbrev pub PartHasNoColon : Type 0
PartHasNoColon =
    (category : Category) (x behind : List ℕ) → category ≢ CommentText → IsPartOfLine category x → EndsWord behind
    → cut_at (codes ":") (x ++ behind) ≡ with_front x (cut_at (codes ":") behind)
