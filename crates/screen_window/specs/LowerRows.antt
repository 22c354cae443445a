-- The rows below the window: the output, the message or mark, the prompt and the typed line.
use Rattle.std.specs.Prelude.{ℕ, ◌-◌, List, [], ◌∷◌, ◌++◌, length, drop, slice_index_or, Option, Some, None, is_some, if◌then◌else◌, codes}
use Rattle.std.specs.FinMap.{get}
use Rattle.plcs_base.specs.declared.mark.MarkKind.{MarkKind}
use Rattle.plcs_base.specs.declared.mark.MarkKind.TheVariants.{Undeclared, TypeMismatch, NotArray, NeedsSubscript, Duplicate, UnknownProcedure, WrongCount, ArgumentType, ParameterUndeclared, TooManyCells, Reserved}
use Rattle.plcs_base.specs.Mark.{MarkMap}
use Rattle.plcs_grammar.specs.declared.node_kind.NodeKind.{NodeKind}
use Rattle.template_tree.specs.Listings.Listing.{split_at_ends}
use Rattle.template_tree.specs.Programs.Part.{part_at}
use Rattle.template_tree.specs.Positions.Path.{node_at}
use Rattle.template_tree.specs.Programs.PlainTree.{PlainNode}
use Rattle.screen_window.specs.declared.lower_rows.TheConstants.{OUTPUT_ROWS}
use Rattle.screen_window.specs.PlainView.{PlainView}

-- ---- the output

-- the lines of an output, which is split at each byte 10; an empty one has none
abbrev pub output_lines : List ℕ → List (List ℕ)
output_lines [] = []
output_lines (byte ∷ bytes) = split_at_ends [] (byte ∷ bytes)

-- the last ones of the output's lines, or of the typed line's bytes, at most as many as there is room for
abbrev pub last_ones : {X : Type 0} → ℕ → List X → List X
last_ones room items = drop (length items - room) items

-- how many rows below the window show the output
abbrev pub output_rows : ℕ
output_rows = OUTPUT_ROWS

-- a row of the output, which counts from 0: its last lines, from the top
abbrev pub output_row : List ℕ → ℕ → List ℕ
output_row output row = slice_index_or (last_ones output_rows (output_lines output)) row []

-- ---- the message

-- the text of each mark in the row of the message
abbrev pub mark_text : MarkKind → List ℕ
mark_text Undeclared = codes "UNDECLARED"
mark_text TypeMismatch = codes "TYPE MISMATCH"
mark_text NotArray = codes "NOT AN ARRAY"
mark_text NeedsSubscript = codes "NEEDS SUBSCRIPT"
mark_text Duplicate = codes "DUPLICATE"
mark_text UnknownProcedure = codes "UNKNOWN PROCEDURE"
mark_text WrongCount = codes "WRONG COUNT"
mark_text ArgumentType = codes "ARGUMENT TYPE"
mark_text ParameterUndeclared = codes "PARAMETER UNDECLARED"
mark_text TooManyCells = codes "TOO MANY CELLS"
mark_text Reserved = codes "RESERVED"

-- the text of a mark in the row of the message, if there is a mark
abbrev pub marked_text : Option MarkKind → List ℕ
marked_text None = []
marked_text (Some mark) = mark_text mark

-- the number of the part at the cursor, whose mark the row of the message shows: that of the stop, or at the node of an
-- assignment its only part
abbrev pub cursor_part : NodeKind → Option ℕ → Option ℕ
cursor_part kind (Some part) = Some part
cursor_part NodeKind.Assign None = Some 0
cursor_part NodeKind.DeclarationHole None = None
cursor_part NodeKind.StatementHole None = None
cursor_part NodeKind.ProcedureHole None = None
cursor_part NodeKind.Main None = None
cursor_part (NodeKind.Filled template) None = None

-- the mark of the phrase in a part of the node at the cursor, if a phrase stands there and has one
abbrev pub part_mark : MarkMap → PlainNode → Option ℕ → Option MarkKind
part_mark marks node None = None
part_mark marks node (Some part) =
    if is_some (part_at node.label.parts part)
    then get marks record { slot = record { 0 = node.label.slot }; part = part } else None

-- the mark of the phrase or the assignment at the cursor, if it has one
abbrev pub cursor_mark : MarkMap → Option ℕ → Option PlainNode → Option MarkKind
cursor_mark marks part None = None
cursor_mark marks part (Some node) = part_mark marks node (cursor_part node.label.kind part)

-- the message, or where it is empty the text of the mark at the cursor
abbrev pub message_or : List ℕ → List ℕ → List ℕ
message_or [] mark = mark
message_or (byte ∷ bytes) mark = byte ∷ bytes

-- the row of the message of a view, in which the mark at the cursor may stand
abbrev pub message_row : PlainView → List ℕ
message_row view =
    message_or view.message (marked_text (cursor_mark view.marks view.stop.part (node_at view.items view.stop.path)))

-- ---- the prompt and the typed line

-- the last bytes of the typed line, as many as there are columns, less the prompt's and two
abbrev pub typed_end : ℕ → PlainView → List ℕ
typed_end cols view = last_ones (cols - 2 - length view.prompt) view.typed

-- the row of the prompt and the typed line
abbrev pub input_row : ℕ → PlainView → List ℕ
input_row cols view = view.prompt ++ typed_end cols view
