-- What is read of the text of a line.
use Rattle.std.specs.Prelude.{◌≡◌, ◌≢◌, ℕ, ◌≤◌, ◌*◌, Bool, true, false, if◌then◌else◌, ◌==◌, List, [], ◌∷◌, ◌++◌, length, replicate, Option, Some, None}
use Rattle.plcs_grammar.specs.declared.category.Category.{Category}
use Rattle.plcs_grammar.specs.declared.node_kind.NodeKind.{NodeKind}
use Rattle.plcs_grammar.specs.declared.template.Template.{Template}
use Rattle.plcs_grammar.specs.PlainPhrase.{PlainPhrase}
use Rattle.plcs_grammar.specs.Template.{PlainSegment, row_of}
use Rattle.phrase_parser.specs.LineParts.{Divides}
use Rattle.template_tree.specs.Listings.Line.{part_text, segments_text}
use Rattle.template_tree.specs.Programs.Program.{AreParts, IsPart, parts_of}
use Rattle.file_store.specs.Private.Reader.{Said, IsSaying, text_of}

-- the blanks that are read at the front of the text of a line of the level
abbrev pub blank_bytes : ℕ → List ℕ
blank_bytes level = replicate (2 * level) 32

-- the text of a line that says this: its blanks and what is written behind them
abbrev pub said_bytes : Said → List ℕ
said_bytes said = blank_bytes said.level ++ text_of said.saying

-- ---- parts

-- the text of a line is read as the part: it is what is written for it
abbrev pub IsPartText : Category → List ℕ → Option PlainPhrase → Type 0
IsPartText category x part = IsPart category part × (part_text category part ≡ x)

-- the text of a line is read as no part of the category
abbrev pub IsNoPart : Category → List ℕ → Type 0
IsNoPart category x = (part : Option PlainPhrase) → IsPart category part → part_text category part ≢ x

-- the text is read as these parts of the segments: it is what is written for the segments with them
abbrev pub IsSegmentsText : List PlainSegment → List ℕ → List (Option PlainPhrase) → Type 0
IsSegmentsText segments x parts = AreParts (parts_of segments) parts × (segments_text segments parts ≡ x)

-- the text is read as no parts of the segments
abbrev pub AreNoSegments : List PlainSegment → List ℕ → Type 0
AreNoSegments segments x =
    (parts : List (Option PlainPhrase)) → AreParts (parts_of segments) parts → segments_text segments parts ≢ x

-- the parts that the text is read as, behind these that were read before, are all
abbrev pub AreReadAfter : List PlainSegment → List ℕ → List (Option PlainPhrase) → List (Option PlainPhrase) → Type 0
AreReadAfter segments x parts all =
    (more : List (Option PlainPhrase)) × (all ≡ parts ++ more) × IsSegmentsText segments x more

-- each part of a line that is read ends where the words behind it begin
abbrev pub IsCut : List PlainSegment → Type 0
IsCut [] = Unit {0}
IsCut (PlainSegment.words w ∷ segments) = IsCut segments
IsCut (PlainSegment.part category ∷ []) = ⊥
IsCut (PlainSegment.part category ∷ (PlainSegment.part other ∷ segments)) = ⊥
IsCut (PlainSegment.part category ∷ (PlainSegment.words w ∷ [])) = Unit {0}
IsCut (PlainSegment.part category ∷ (PlainSegment.words w ∷ (segment ∷ segments))) =
    Divides category w × IsCut (segment ∷ segments)

-- the text of a line is read as one part more behind these that were read before: all of them are next
pub record IsPartAfter (category : Category) (x : List ℕ) (parts next : List (Option PlainPhrase)) : Type 0 where
  pub part : Option PlainPhrase
  pub pushed : next ≡ parts ++ (part ∷ [])
  pub read : IsPartText category x part

-- parts are read up to the front of a text for these segments: those that are read behind them of what is left, for the
-- segments that are left, make the whole, and no others do
pub record IsFrontAfter (category : Category) (segments : List PlainSegment) (x : List ℕ)
    (parts next : List (Option PlainPhrase)) (later : List PlainSegment) (rest : List ℕ) : Type 0 where
  pub whole : (all : List (Option PlainPhrase)) → AreReadAfter later rest next all →
      AreReadAfter (PlainSegment.part category ∷ segments) x parts all
  pub only : AreNoSegments later rest → AreNoSegments (PlainSegment.part category ∷ segments) x
  pub cut : IsCut later
  pub fewer : length later ≤ length segments

-- ---- lines

-- the kinds of nodes as their first lines tell them that are read, those first whose lines begin with words
abbrev pub shapes : List NodeKind
shapes =
    NodeKind.StatementHole ∷ NodeKind.DeclarationHole ∷ NodeKind.ProcedureHole ∷ NodeKind.Main ∷
    NodeKind.Filled Template.IfElse ∷ NodeKind.Filled Template.While ∷ NodeKind.Filled Template.Group ∷
    NodeKind.Filled Template.Until ∷ NodeKind.Filled Template.For ∷ NodeKind.Filled Template.Get ∷
    NodeKind.Filled Template.Put ∷ NodeKind.Filled Template.PutSkip ∷ NodeKind.Filled Template.Call ∷
    NodeKind.Filled Template.Return ∷ NodeKind.Filled Template.Comment ∷ NodeKind.Filled Template.Fixed ∷
    NodeKind.Filled Template.Bit ∷ NodeKind.Filled Template.Char ∷ NodeKind.Assign ∷
    NodeKind.Filled Template.ProcP ∷ NodeKind.Filled Template.Proc ∷ []

-- whether a line of these segments that is read may begin with the byte
abbrev pub may_begin : ℕ → List PlainSegment → Bool
may_begin byte (PlainSegment.words (first ∷ w) ∷ later) = byte == first
may_begin byte segments = true

-- those of the kinds of nodes whose first line may begin with the byte with which a line begins that is read
abbrev pub from_byte : ℕ → List NodeKind → List NodeKind
from_byte byte [] = []
from_byte byte (kind ∷ kinds) =
    if may_begin byte (row_of kind).line then kind ∷ from_byte byte kinds else from_byte byte kinds

-- this holds of each of the kinds of nodes whose first line a text is read as
abbrev pub OfEach : (NodeKind → Type 0) → List NodeKind → Type 0
OfEach P [] = Unit {0}
OfEach P (kind ∷ kinds) = P kind × OfEach P kinds

-- the text of the line says this
abbrev pub Says : List ℕ → Said → Type 0
Says line said = IsSaying said.saying × (said_bytes said ≡ line)

-- the text of the line says nothing that a listing may have
abbrev pub SaysNothing : List ℕ → Type 0
SaysNothing line = (said : Said) → IsSaying said.saying → said_bytes said ≢ line

-- ---- comparing

-- what is left of the text of a line that is awaited, where it is the same as what was put so far
abbrev pub left_if : Bool → List ℕ → Option (List ℕ)
left_if false left = None
left_if true left = Some left

-- a byte that is put is taken off the text of a line that is awaited, if it is its first
abbrev pub taken_off : ℕ → Option (List ℕ) → Option (List ℕ)
taken_off byte None = None
taken_off byte (Some []) = None
taken_off byte (Some (first ∷ rest)) = if first == byte then Some rest else None
