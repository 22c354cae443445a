-- The verdict of each phrase of a program, and its marks: the phrases with an offence, and the kind of each one's
-- first. Elision plays no part.
use Rattle.std.specs.Prelude.{ℕ, ◌+◌, ◌==◌, Bool, if◌then◌else◌, List, [], ◌∷◌, ◌++◌, Option, Some, None, is_some, option_map}
use Rattle.std.specs.FinMap.{FinMap, entries, from_entries, get}
use Rattle.std.specs.List.{filter_map}
use Rattle.plcs_base.specs.Mark.{MarkMap, phrase_cmp}
use Rattle.plcs_base.specs.declared.declared.Declared.{Declared}
use Rattle.plcs_base.specs.declared.declared.ItemType.{ItemType}
use Rattle.plcs_base.specs.declared.mark.MarkKind.{MarkKind}
use Rattle.plcs_base.specs.declared.place.PhraseAt.{PhraseAt}
use Rattle.plcs_grammar.specs.PlainPhrase.{PlainPhrase}
use Rattle.template_tree.specs.Checks.Environment.{Sig, declares, effective, items_inside, type_given}
use Rattle.template_tree.specs.Checks.Mention.{phrase_at}
use Rattle.template_tree.specs.Programs.PlainTree.{Forest, PlainNode}
use Rattle.template_tree.specs.Checks.Verdict.{Surroundings, verdict}

-- ---- what a phrase is checked against

-- what nodes declare before the one in the slot, as the verdicts of its phrases ask; all that they declare, where
-- none of them has it
abbrev pub declared_before : Forest → (slot : ℕ) → List Declared
declared_before Forest.nil slot = []
declared_before (Forest.cons label inner rest) slot =
    if label.slot == slot then [] else declares label ++ declared_before rest slot

-- the type that the declaration in the slot gives to its names, as the verdict of each phrase of a program asks, where
-- it is one of these nodes
abbrev pub type_in : Forest → (slot : ℕ) → Option ItemType
type_in Forest.nil slot = None
type_in (Forest.cons label inner rest) slot =
    if label.slot == slot then type_given label.kind label.parts else type_in rest slot

-- for the verdict of each phrase of a program, main and the procedures before the one in the slot in which the phrase
-- stands
abbrev pub procedures_before : (program : Forest) → (slot : ℕ) → Forest
procedures_before Forest.nil slot = Forest.nil
procedures_before (Forest.cons label inner rest) slot =
    if label.slot == slot then Forest.nil else Forest.cons label inner (procedures_before rest slot)

-- the surroundings by which the phrases of the node in the slot have their verdicts; it stands in main or the
-- procedure, or is it
abbrev pub surroundings : (program : Forest) (procedure : PlainNode) (slot : ℕ) → Surroundings
surroundings program procedure slot =
    record {
      items = items_inside procedure.inner;
      before = effective [] (declared_before procedure.inner slot);
      gives = type_in procedure.inner slot;
      headings = Sig program;
      earlier = Sig (procedures_before program procedure.label.slot);
    }

-- ---- the verdict of each phrase

-- a list of phrases of a program, each by its place and with its verdict
abbrev pub VerdictList : Type 0
VerdictList = List (PhraseAt × Option MarkKind)

-- the verdicts of the phrases in a node's parts, from the part of this number on
abbrev pub part_verdicts : Surroundings → (slot part : ℕ) → List (Option PlainPhrase) → VerdictList
part_verdicts s slot part [] = []
part_verdicts s slot part (None ∷ parts) = part_verdicts s slot (part + 1) parts
part_verdicts s slot part (Some phrase ∷ parts) =
    (phrase_at slot part, verdict s phrase) ∷ part_verdicts s slot (part + 1) parts

-- the verdicts of the phrases of nodes that stand in main or a procedure, or are it
abbrev pub node_verdicts : (program : Forest) (procedure : PlainNode) → Forest → VerdictList
node_verdicts program procedure Forest.nil = []
node_verdicts program procedure (Forest.cons label inner rest) =
    part_verdicts (surroundings program procedure label.slot) label.slot 0 label.parts
    ++ (node_verdicts program procedure inner ++ node_verdicts program procedure rest)

-- the verdict of each phrase of main and of procedures of the program
abbrev pub procedure_verdicts : (program : Forest) → Forest → VerdictList
procedure_verdicts program Forest.nil = []
procedure_verdicts program (Forest.cons label inner rest) =
    node_verdicts program record { label = label; inner = inner } (Forest.cons label inner Forest.nil)
    ++ procedure_verdicts program rest

-- the verdict of each phrase of a program in a map, by the place of the phrase
abbrev pub VerdictMap : Type 0
VerdictMap = FinMap phrase_cmp (Option MarkKind)

-- the verdict of each phrase of a program: each part that is filled is in the map, and no other
abbrev pub Verdicts : (program : Forest) → VerdictMap
Verdicts program = from_entries (procedure_verdicts program program)

-- ---- the marks

-- the place of a phrase with its offence, if its verdict is one
abbrev pub offence_at : PhraseAt × Option MarkKind → Option (PhraseAt × MarkKind)
offence_at entry = option_map (λ kind. (entry.0, kind)) entry.1

-- the offences among verdicts
abbrev pub offences : VerdictMap → MarkMap
offences verdicts = from_entries (filter_map offence_at (entries verdicts))

-- the marks of a program: its phrases with an offence, and the kind of each one's first
abbrev pub Marks : (program : Forest) → MarkMap
Marks program = offences (Verdicts program)

-- whether a phrase of the program is marked
abbrev pub is_phrase_marked : (program : Forest) → (slot part : ℕ) → Bool
is_phrase_marked program slot part = is_some (get (Marks program) (phrase_at slot part))
