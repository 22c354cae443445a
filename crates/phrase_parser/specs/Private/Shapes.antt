-- What the check keeps and sees, as the recognizer and the model of its findings have it.
use Rattle.std.specs.Prelude.{ℕ, ◌≤◌, List, reverse, Option, Some, None}
use Rattle.std.specs.List.{AllByRecursion}
use Rattle.plcs_grammar.specs.Builtin.{is_builtin_name}
use Rattle.phrase_parser.specs.declared.check.token_class.TokenClass.{TokenClass}
use Rattle.phrase_parser.specs.declared.check.ground.Ground.{Ground}
use Rattle.phrase_parser.specs.declared.check.nesting.Bracket.{Bracket}
use Rattle.phrase_parser.specs.declared.check.last.Last.{Last}
use Rattle.phrase_parser.specs.declared.check.shape.Shape.{Shape}
use Rattle.phrase_parser.specs.declared.check.shape.Shape.TheVariants.{Wanted, Had, NameWanted, NameHad, TargetHad, VariableHad, CallHad, SizeWanted, SizeHad, ItemHad, LengthWanted, LengthHad}
use Rattle.phrase_parser.specs.declared.token.TokenKind.{TokenKind}
use Rattle.phrase_parser.specs.declared.token.TokenKind.TheVariants as token
use Rattle.phrase_parser.specs.declared.token.Placed.{Placed}
use Rattle.phrase_parser.specs.Private.TokenIn.{bytes_in}
use Rattle.phrase_parser.specs.Private.Recognizer as model
use Rattle.phrase_parser.specs.Private.Findings.{Seen}

-- the shape of the recognizer that the check's shape stands for; the recognizer has the innermost parenthesis first
abbrev pub shape_of : Shape → model.Shape
shape_of (Wanted nesting level) = model.Shape.wanted nesting.place (reverse nesting.brackets.items) level
shape_of (Had last nesting) = model.Shape.had last nesting.place (reverse nesting.brackets.items)
shape_of (NameWanted role) = model.Shape.name_wanted role
shape_of (NameHad role) = model.Shape.name_had role
shape_of TargetHad = model.Shape.target_had
shape_of VariableHad = model.Shape.variable_had
shape_of CallHad = model.Shape.call_had
shape_of SizeWanted = model.Shape.size_wanted
shape_of SizeHad = model.Shape.size_had
shape_of ItemHad = model.Shape.item_had
shape_of LengthWanted = model.Shape.length_wanted
shape_of LengthHad = model.Shape.length_had

-- the shape of the recognizer that the check's shape stands for, if there is one
abbrev pub shape_if : Option Shape → Option model.Shape
shape_if None = None
shape_if (Some shape) = Some (shape_of shape)

-- the class of a token of the kind whose bytes are these, as the check sees it
abbrev pub class_from : TokenKind → List ℕ → TokenClass
class_from token.Name bytes = TokenClass.Name (is_builtin_name bytes)
class_from token.Keyword bytes = TokenClass.Keyword
class_from (token.Number n) bytes = TokenClass.Number n
class_from token.Text bytes = TokenClass.Constant
class_from (token.Bit value) bytes = TokenClass.Constant
class_from (token.Sign sign) bytes = TokenClass.Sign sign

-- what the check sees of a token that stands in the text
abbrev pub seen_in : List ℕ → Placed → Seen
seen_in text placed = record { class = class_from placed.kind (bytes_in text placed); start = placed.start }

-- the deepest level that the check may keep, so that one more can still be counted
abbrev pub deepest_level : ℕ
deepest_level = 4294967294

-- the level that the check keeps of the last name is not over the limit
abbrev pub LastWithin : ℕ → Last → Type 0
LastWithin limit Last.Operand = Unit {0}
LastWithin limit (Last.Named is_builtin level) = level ≤ limit

-- the levels that the check keeps of the open parentheses of an expression are not over the limit
abbrev pub NestingWithin : ℕ → Ground → List Bracket → Type 0
NestingWithin limit at brackets =
    (model.ground_level at ≤ limit) × AllByRecursion (λ bracket. bracket.level ≤ limit) brackets

-- what the check keeps is within the limit: no level of all that is open in its shape, as the model of its findings has
-- it, is over that
abbrev pub Within : ℕ → model.Shape → Type 0
Within limit (model.Shape.wanted at brackets level) = (level ≤ limit) × NestingWithin limit at brackets
Within limit (model.Shape.had last at brackets) = LastWithin limit last × NestingWithin limit at brackets
Within limit (model.Shape.name_wanted role) = Unit {0}
Within limit (model.Shape.name_had role) = Unit {0}
Within limit model.Shape.target_had = Unit {0}
Within limit model.Shape.variable_had = Unit {0}
Within limit model.Shape.call_had = Unit {0}
Within limit model.Shape.size_wanted = Unit {0}
Within limit model.Shape.size_had = Unit {0}
Within limit model.Shape.item_had = Unit {0}
Within limit model.Shape.length_wanted = Unit {0}
Within limit model.Shape.length_had = Unit {0}
