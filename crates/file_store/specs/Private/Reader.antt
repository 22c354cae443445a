-- The reader of lines as a machine over plain data: how far the open lists have come, and what each line does to them.
use Rattle.std.specs.Prelude.{◌≡◌, ℕ, suc, ◌+◌, ◌-◌, Bool, true, false, ◌&&◌, ◌==◌, nat_le, if◌then◌else◌, bytes_eq, List, [], ◌∷◌, ◌++◌, length, codes, Option, Some, None, option_map, option_and_then, is_none, is_some}
use Rattle.plcs_grammar.specs.declared.node_kind.NodeKind.{NodeKind}
use Rattle.plcs_grammar.specs.declared.node_kind.Sort.{Sort}
use Rattle.plcs_grammar.specs.declared.row.Amount.{Amount}
use Rattle.plcs_grammar.specs.declared.template.Template.{Template}
use Rattle.plcs_grammar.specs.PlainPhrase.{PlainPhrase}
use Rattle.plcs_grammar.specs.Template.{PlainSection, row_of, program_sections}
use Rattle.template_tree.specs.Programs.Build.{built_label}
use Rattle.template_tree.specs.Listings.Line.{segments_text}
use Rattle.template_tree.specs.Programs.PlainTree.{Forest, join}
use Rattle.template_tree.specs.Programs.Program.{AreParts, parts_of, sort_of}
use Rattle.template_tree.specs.Listings.Section.{same_sort, left_for, left_after, next_lead}

-- ---- what a line says

-- the kind of a node as the reader knows it by its first line: an IF may still become one with an ELSE
abbrev pub shape : NodeKind → NodeKind
shape (NodeKind.Filled Template.If) = NodeKind.Filled Template.IfElse
shape kind = kind

-- what a line says to the machine that the reader of lines is: it is the first line of a node of the shape with these
-- parts, the line before a section, or the last line of a node
pub data Saying : Type 0 where
  head : NodeKind → List (Option PlainPhrase) → Saying
  lead : List ℕ → Saying
  last : List ℕ → Saying

-- what is written behind the blanks of a line that says this to the machine that the reader of lines is
abbrev pub text_of : Saying → List ℕ
text_of (head kind parts) = segments_text (row_of kind).line parts
text_of (lead text) = text
text_of (last text) = text

-- whether a node begins in a line that says this to the reader
abbrev pub opens : Saying → Bool
opens (head kind parts) = true
opens (lead text) = false
opens (last text) = false

-- some listing may have a line that says this to the reader
abbrev pub IsSaying : Saying → Type 0
IsSaying (head kind parts) = (shape kind ≡ kind) × AreParts (parts_of (row_of kind).line) parts
IsSaying (lead text) = text ≡ codes "ELSE"
IsSaying (last text) = text ≡ codes "END;"

-- what the reader has of a line: its level, and what it says
pub record Said : Type 0 where
  pub level : ℕ
  pub saying : Saying

-- ---- how far a list has come

-- how far the reader's list has come: the sort of the list that goes on, if one does, and the sections that are left
-- behind it
pub record Filling : Type 0 where
  pub going : Option Sort
  pub left : List PlainSection

-- how far the reader's list has come into which no item came yet
abbrev pub unfilled : List PlainSection → Filling
unfilled sections = record { going = None; left = sections }

-- how far the reader's list has come behind an item of the section
abbrev pub filling_after : Amount → Sort → List PlainSection → Filling
filling_after Amount.One sort left = record { going = None; left = left }
filling_after Amount.Many sort left = record { going = Some sort; left = left }

-- how an item comes into the reader's list: the line before it, if there is one, and how far the list has come behind
-- it
pub record Entry : Type 0 where
  pub before : Option (List ℕ)
  pub next : Filling

-- how an item of the sort comes into the first of the sections of the reader's list
abbrev pub first_entry : Sort → List PlainSection → Option Entry
first_entry sort [] = None
first_entry sort (section ∷ left) =
    if same_sort section.sort sort
    then Some (record { before = section.lead; next = filling_after section.amount section.sort left })
    else None

-- whether a list of this sort goes on, as the reader counts how far it has come
abbrev pub goes_on : Option Sort → Sort → Bool
goes_on None sort = false
goes_on (Some own) sort = same_sort own sort

-- how an item of the sort comes into the reader's list, if it may
abbrev pub item_entry : Sort → Filling → Option Entry
item_entry sort filling =
    if goes_on filling.going sort then Some (record { before = None; next = filling })
    else first_entry sort filling.left

-- how far the reader's list has come behind an item, if no line is wanted before that
abbrev pub unled : Entry → Option Filling
unled item = if is_none item.before then Some item.next else None

-- how far the reader's list has come behind an item of the sort, if one may come without a line before it
abbrev pub advanced : Sort → Filling → Option Filling
advanced sort filling = option_and_then unled (item_entry sort filling)

-- whether the reader of lines takes a text for that line of the table, if there is one: the two are equal
abbrev pub is_text : List ℕ → Option (List ℕ) → Bool
is_text text None = false
is_text text (Some own) = bytes_eq text own

-- how far the reader's list has come behind the line before the first of these sections, if the text is that line
abbrev pub led_sections : List ℕ → List PlainSection → Option Filling
led_sections text [] = None
led_sections text (section ∷ left) =
    if is_text text section.lead then Some (unfilled (record section { lead = None } ∷ left)) else None

-- whether the reader's list for which these sections are left may end: a section with a line before it may be absent
abbrev pub optional : List PlainSection → Bool
optional [] = true
optional (section ∷ left) = is_some section.lead && optional left

-- ---- open lists

-- a list that is open: its items so far, and how far it has come
pub record OpenList : Type 0 where
  pub items : Forest
  pub filling : Filling

-- a node that is open, and the list in which it stands, which has come behind it already
pub record OpenNode : Type 0 where
  pub kind : NodeKind
  pub parts : List (Option PlainPhrase)
  pub around : OpenList

-- the innermost open list, and the open nodes from the innermost one outward
pub record OpenNodes : Type 0 where
  pub own : OpenList
  pub outer : List OpenNode

-- the open lists where no line was read yet
abbrev pub unread : OpenNodes
unread = record { own = record { items = Forest.nil; filling = unfilled program_sections }; outer = [] }

-- the kind of a node of the shape that the reader has with these items: an IF with one body alone has no ELSE
abbrev pub kind_with : NodeKind → Forest → NodeKind
kind_with (NodeKind.Filled Template.IfElse) (Forest.cons label inner Forest.nil) = NodeKind.Filled Template.If
kind_with kind items = kind

-- the node that the reader's open one becomes with these items
abbrev pub node_of : OpenNode → Forest → Forest
node_of frame items = Forest.cons (built_label (kind_with frame.kind items) frame.parts 0) items Forest.nil

-- the reader's list around an open node, once the node has ended in it
abbrev pub closed : OpenList → OpenNode → OpenList
closed own frame = record frame.around { items = join frame.around.items (node_of frame own.items) }

-- the reader's list around the innermost open node, once that has ended without a line of its own, if it may
abbrev pub shut : OpenList → OpenNode → Option OpenList
shut own frame =
    if is_none (row_of frame.kind).last && optional own.filling.left then Some (closed own frame) else None

-- the open lists once nodes have ended until no more than so many are open, if they may
abbrev pub lowered : ℕ → OpenList → List OpenNode → Option OpenNodes
lowered level own [] = Some (record { own = own; outer = [] })
lowered level own (frame ∷ outer) =
    if nat_le (suc (length outer)) level
    then Some (record { own = own; outer = frame ∷ outer })
    else option_and_then (λ list. lowered level list outer) (shut own frame)

-- the open lists, if exactly so many nodes are open
abbrev pub at_height : ℕ → OpenNodes → Option OpenNodes
at_height level stack = if length stack.outer == level then Some stack else None

-- the open lists once nodes have ended until exactly so many are open, if they may
abbrev pub lowered_to : ℕ → OpenNodes → Option OpenNodes
lowered_to level stack = option_and_then (at_height level) (lowered level stack.own stack.outer)

-- ---- what a line does

-- the open lists once a node is opened in the innermost one, which has then come so far
abbrev pub with_open_node : NodeKind → List (Option PlainPhrase) → OpenNodes → Filling → OpenNodes
with_open_node kind parts stack filling =
    record {
      own = record { items = Forest.nil; filling = unfilled (row_of kind).sections };
      outer = record { kind = kind; parts = parts; around = record stack.own { filling = filling } } ∷ stack.outer;
    }

-- the open lists once a node is opened in the innermost one, if it may come there
abbrev pub begun : NodeKind → List (Option PlainPhrase) → OpenNodes → Option OpenNodes
begun kind parts stack = option_map (with_open_node kind parts stack) (advanced (sort_of kind) stack.own.filling)

-- the open lists, of which the innermost has come so far
abbrev pub with_filling : OpenNodes → Filling → OpenNodes
with_filling stack filling = record stack { own = record stack.own { filling = filling } }

-- the open lists behind the line before a section of the innermost node, if it is wanted
abbrev pub led_in : List ℕ → OpenNodes → List OpenNode → Option OpenNodes
led_in text stack [] = None
led_in text stack (frame ∷ outer) = option_map (with_filling stack) (led_sections text stack.own.filling.left)

-- the open lists behind the last line of the innermost node, if that may end
abbrev pub ended_in : List ℕ → OpenList → List OpenNode → Option OpenNodes
ended_in text own [] = None
ended_in text own (frame ∷ outer) =
    if is_text text (row_of frame.kind).last && optional own.filling.left
    then Some (record { own = closed own frame; outer = outer })
    else None

-- what a line at the level does to the open lists, if some listing may go on with it
abbrev pub line_taken_at : OpenNodes → ℕ → Saying → Option OpenNodes
line_taken_at stack level (head kind parts) = option_and_then (begun kind parts) (lowered_to level stack)
line_taken_at stack level (lead text) = option_and_then (λ s. led_in text s s.outer) (lowered_to (suc level) stack)
line_taken_at stack level (last text) =
    option_and_then (λ s. ended_in text s.own s.outer) (lowered_to (suc level) stack)

-- what a line does to the open lists, by its level and what it says
abbrev pub line_taken : OpenNodes → Said → Option OpenNodes
line_taken stack said = line_taken_at stack said.level said.saying

-- what lines do to the open lists, one after the other
abbrev pub lines_taken : OpenNodes → List Said → Option OpenNodes
lines_taken stack [] = Some stack
lines_taken stack (said ∷ rest) = option_and_then (λ s. lines_taken s rest) (line_taken stack said)

-- the items of the reader's outermost list, if it may end
abbrev pub finished : OpenList → Option Forest
finished own = if optional own.filling.left then Some own.items else None

-- the program in the open lists, if the lines are its whole listing
abbrev pub program_of : OpenNodes → Option Forest
program_of stack = option_and_then (λ s. finished s.own) (lowered 0 stack.own stack.outer)

-- ---- the lines of nodes in this form

-- what the line before a section says to the reader, if the table has one
abbrev pub said_lead : ℕ → Option (List ℕ) → List Said
said_lead level None = []
said_lead level (Some text) = record { level = level; saying = lead text } ∷ []

-- what the last line of a node says to the reader, if the table has one
abbrev pub said_last : ℕ → Option (List ℕ) → List Said
said_last level None = []
said_last level (Some text) = record { level = level; saying = last text } ∷ []

-- what the lines say to the reader that nodes in order have at a level, where these sections are left for them
abbrev pub sayings : (level : ℕ) (left : List PlainSection) → Forest → List Said
sayings level left Forest.nil = []
sayings level left (Forest.cons label inner rest) =
    let here = left_for (sort_of label.kind) left in
    said_lead (level - 1) (next_lead here)
    ++ (record { level = level; saying = head (shape label.kind) label.parts }
    ∷ (sayings (level + 1) (row_of label.kind).sections inner
    ++ (said_last level (row_of label.kind).last
    ++ sayings level (left_after here) rest)))
