-- The table of templates: for each kind of node what is written, and what stands inside it.
use Rattle.std.specs.Prelude.{ℕ, Bool, false, List, [], ◌∷◌, codes, map, bytes_eq, find, Option, Some, None, option_map}
use Rattle.plcs_grammar.specs.declared.category.Category.{Category}
use Rattle.plcs_grammar.specs.declared.node_kind.NodeKind.{NodeKind}
use Rattle.plcs_grammar.specs.declared.node_kind.NodeKind.TheVariants.{DeclarationHole, StatementHole, ProcedureHole, Main, Assign, Filled}
use Rattle.plcs_grammar.specs.declared.node_kind.Sort.{Sort}
use Rattle.plcs_grammar.specs.declared.row.Amount.{Amount}
use Rattle.plcs_grammar.specs.declared.row.Segment.{Segment}
use Rattle.plcs_grammar.specs.declared.row.Section.{Section}
use Rattle.plcs_grammar.specs.declared.row.Row.{Row}
use Rattle.plcs_grammar.specs.declared.template.Template.{Template}
use Rattle.plcs_grammar.specs.Placeholder.{placeholder}

-- a segment of a template's line: bytes as they stand, or a part that holds a phrase of the category
pub data PlainSegment : Type 0 where
  words : List ℕ → PlainSegment
  part : Category → PlainSegment

-- what stands inside a node in one stretch: the line before it, if there is one, the sort of its items, and whether
-- there is one item or a list of one or more
pub record PlainSection : Type 0 where
  pub lead : Option (List ℕ)
  pub sort : Sort
  pub amount : Amount

-- a row of the table of templates: the sort of the node, the word of the command that fills a hole with it, the
-- segments of its first line, what stands inside it one level deeper, and its last line, if it has one; a lead and a
-- last line stand at the node's level
pub record PlainRow : Type 0 where
  pub sort : Sort
  pub command : Option (List ℕ)
  pub line : List PlainSegment
  pub sections : List PlainSection
  pub last : Option (List ℕ)

-- the section of a template that is a list: one item of the sort or more
abbrev pub list_of : Sort → PlainSection
list_of sort = record { lead = None; sort = sort; amount = Amount.Many }

-- the section of a template that is one statement, without a line before it
abbrev pub body : PlainSection
body = record { lead = None; sort = Sort.Statement; amount = Amount.One }

-- the section of a template that is one statement behind a line of its own
abbrev pub body_after : List ℕ → PlainSection
body_after lead = record { lead = Some lead; sort = Sort.Statement; amount = Amount.One }

-- the sections that stand inside a procedure, by the table of templates
abbrev pub procedure_sections : List PlainSection
procedure_sections = list_of Sort.Declaration ∷ list_of Sort.Statement ∷ []

-- the last line of each template that encloses a list
abbrev pub closing : Option (List ℕ)
closing = Some (codes "END;")

-- the row of the table of templates for a hole: its word alone
abbrev pub hole_row : Sort → List ℕ → PlainRow
hole_row sort word =
    record { sort = sort; command = None; line = PlainSegment.words word ∷ []; sections = []; last = None }

-- the row of the table of templates for a procedure
abbrev pub procedure_row : List ℕ → List PlainSegment → PlainRow
procedure_row command line =
    record { sort = Sort.Procedure; command = Some command; line = line; sections = procedure_sections; last = closing }

-- the row of the table of templates for a declaration
abbrev pub declaration_row : List ℕ → List PlainSegment → PlainRow
declaration_row command line =
    record { sort = Sort.Declaration; command = Some command; line = line; sections = []; last = None }

-- the row of the table of templates for a statement with nothing inside
abbrev pub simple_row : List ℕ → List PlainSegment → PlainRow
simple_row command line =
    record { sort = Sort.Statement; command = Some command; line = line; sections = []; last = None }

-- the row of the table of templates for a statement that a body or two follow
abbrev pub choice_row : List ℕ → List PlainSegment → List PlainSection → PlainRow
choice_row command line sections =
    record { sort = Sort.Statement; command = Some command; line = line; sections = sections; last = None }

-- the row of the table of templates for a statement with a list of statements and an end
abbrev pub loop_row : List ℕ → List PlainSegment → PlainRow
loop_row command line =
    record {
      sort = Sort.Statement;
      command = Some command;
      line = line;
      sections = list_of Sort.Statement ∷ [];
      last = closing;
    }

-- the rows of the table for the templates
abbrev pub template_row : Template → PlainRow
template_row Template.Fixed =
    declaration_row (codes "fixed")
    (PlainSegment.words (codes "DECLARE ( ")
    ∷ PlainSegment.part Category.DeclaredList ∷ PlainSegment.words (codes " ) FIXED;") ∷ [])
template_row Template.Bit =
    declaration_row (codes "bit")
    (PlainSegment.words (codes "DECLARE ( ")
    ∷ PlainSegment.part Category.DeclaredList ∷ PlainSegment.words (codes " ) BIT;") ∷ [])
template_row Template.Char =
    declaration_row (codes "char")
    (PlainSegment.words (codes "DECLARE ( ") ∷ PlainSegment.part Category.DeclaredList
    ∷ PlainSegment.words (codes " ) CHARACTER ( ") ∷ PlainSegment.part Category.Length
    ∷ PlainSegment.words (codes " ) VARYING;") ∷ [])
template_row Template.If =
    choice_row (codes "if")
    (PlainSegment.words (codes "IF ( ")
    ∷ PlainSegment.part Category.Condition ∷ PlainSegment.words (codes " ) THEN") ∷ [])
    (body ∷ [])
template_row Template.IfElse =
    choice_row (codes "ifelse")
    (PlainSegment.words (codes "IF ( ")
    ∷ PlainSegment.part Category.Condition ∷ PlainSegment.words (codes " ) THEN") ∷ [])
    (body ∷ body_after (codes "ELSE") ∷ [])
template_row Template.While =
    loop_row (codes "while")
    (PlainSegment.words (codes "DO WHILE ( ")
    ∷ PlainSegment.part Category.Condition ∷ PlainSegment.words (codes " );") ∷ [])
template_row Template.For =
    loop_row (codes "for")
    (PlainSegment.words (codes "DO ") ∷ PlainSegment.part Category.Variable
    ∷ PlainSegment.words (codes " = ") ∷ PlainSegment.part Category.Expression
    ∷ PlainSegment.words (codes " TO ") ∷ PlainSegment.part Category.Expression
    ∷ PlainSegment.words (codes " BY ") ∷ PlainSegment.part Category.Expression
    ∷ PlainSegment.words (codes ";") ∷ [])
template_row Template.Until =
    loop_row (codes "until")
    (PlainSegment.words (codes "DO UNTIL ( ")
    ∷ PlainSegment.part Category.Condition ∷ PlainSegment.words (codes " );") ∷ [])
template_row Template.Group = loop_row (codes "group") (PlainSegment.words (codes "DO;") ∷ [])
template_row Template.Get =
    simple_row (codes "get")
    (PlainSegment.words (codes "GET LIST ( ")
    ∷ PlainSegment.part Category.VariableList ∷ PlainSegment.words (codes " );") ∷ [])
template_row Template.Put =
    simple_row (codes "put")
    (PlainSegment.words (codes "PUT LIST ( ")
    ∷ PlainSegment.part Category.ExpressionList ∷ PlainSegment.words (codes " );") ∷ [])
template_row Template.PutSkip =
    simple_row (codes "puts")
    (PlainSegment.words (codes "PUT SKIP LIST ( ") ∷ PlainSegment.part Category.ExpressionList
    ∷ PlainSegment.words (codes " );") ∷ [])
template_row Template.Call =
    simple_row (codes "call")
    (PlainSegment.words (codes "CALL ") ∷ PlainSegment.part Category.CallRef ∷ PlainSegment.words (codes ";") ∷ [])
template_row Template.Return = simple_row (codes "return") (PlainSegment.words (codes "RETURN;") ∷ [])
template_row Template.Comment =
    choice_row (codes "comment")
    (PlainSegment.words (codes "/* ") ∷ PlainSegment.part Category.CommentText ∷ PlainSegment.words (codes " */") ∷ [])
    (list_of Sort.Statement ∷ [])
template_row Template.Proc =
    procedure_row (codes "proc")
    (PlainSegment.part Category.ProcedureName ∷ PlainSegment.words (codes ": PROCEDURE;") ∷ [])
template_row Template.ProcP =
    procedure_row (codes "procp")
    (PlainSegment.part Category.ProcedureName ∷ PlainSegment.words (codes ": PROCEDURE ( ")
    ∷ PlainSegment.part Category.NameList ∷ PlainSegment.words (codes " );") ∷ [])

-- all templates
abbrev pub templates : List Template
templates =
    Template.Fixed ∷ Template.Bit ∷ Template.Char ∷ Template.If ∷ Template.IfElse ∷ Template.While ∷ Template.For
    ∷ Template.Until ∷ Template.Group ∷ Template.Get ∷ Template.Put ∷ Template.PutSkip ∷ Template.Call ∷ Template.Return
    ∷ Template.Comment ∷ Template.Proc ∷ Template.ProcP ∷ []

-- whether the word is that of the command of a row of the table of templates, if the row has one
abbrev pub is_command : List ℕ → Option (List ℕ) → Bool
is_command word None = false
is_command word (Some own) = bytes_eq word own

-- the template whose command has the word, if one has
unfoldable pub template_of : List ℕ → Option Template
template_of word = find (λ template. is_command word (template_row template).command) templates

-- the table of templates: the row of each kind of node
abbrev pub row_of : NodeKind → PlainRow
row_of DeclarationHole = hole_row Sort.Declaration (codes "{declaration}")
row_of StatementHole = hole_row Sort.Statement (placeholder Category.Assignment)
row_of ProcedureHole = hole_row Sort.Procedure (codes "{procedure}")
row_of Main =
    record {
      sort = Sort.Main;
      command = None;
      line = PlainSegment.words (codes "main: PROCEDURE OPTIONS ( MAIN );") ∷ [];
      sections = procedure_sections;
      last = closing;
    }
row_of Assign =
    record {
      sort = Sort.Statement;
      command = None;
      line = PlainSegment.part Category.Assignment ∷ PlainSegment.words (codes ";") ∷ [];
      sections = [];
      last = None;
    }
row_of (Filled template) = template_row template

-- the sections of a program, beside the table: main and a list of procedures
abbrev pub program_sections : List PlainSection
program_sections =
    record { lead = None; sort = Sort.Main; amount = Amount.One }
    ∷ list_of Sort.Procedure ∷ []

-- the plain form of a segment of a line in the code's table of templates
abbrev pub plain_segment : Segment → PlainSegment
plain_segment (Segment.Words bytes) = PlainSegment.words bytes.now
plain_segment (Segment.Part category) = PlainSegment.part category

-- the plain form of a section in the code's table of templates
abbrev pub plain_section : Section → PlainSection
plain_section section =
    record { lead = option_map (λ bytes. bytes.now) section.lead; sort = section.sort; amount = section.amount }

-- the plain form of a row of the code's table of templates
abbrev pub plain_row : Row → PlainRow
plain_row row =
    record {
      sort = row.sort;
      command = option_map (λ bytes. bytes.now) row.command;
      line = map plain_segment row.line.now;
      sections = map plain_section row.sections.now;
      last = option_map (λ bytes. bytes.now) row.last;
    }
