-- Which plain data are programs: each node has the parts and holds the nodes that its row of the table of templates
-- asks for.
use Rattle.std.specs.Prelude.{◌≡◌, ◌≤◌, Bool, true, false, IsTrue, List, [], ◌∷◌, ◌++◌, length, All, Option, Some, None}
use Rattle.plcs_grammar.specs.declared.category.Category.{Category}
use Rattle.plcs_grammar.specs.declared.category.Category.TheVariants.{Assignment, Condition, Expression, ExpressionList, VariableList, Variable, CallRef, DeclaredList, ProcedureName, NameList, Length, CommentText}
use Rattle.plcs_grammar.specs.declared.node_kind.NodeKind.{NodeKind}
use Rattle.plcs_grammar.specs.declared.node_kind.Sort.{Sort}
use Rattle.plcs_grammar.specs.declared.row.Amount.{Amount}
use Rattle.plcs_grammar.specs.declared.template.Template.{Template}
use Rattle.plcs_grammar.specs.PlainPhrase.{PlainPhrase}
use Rattle.plcs_grammar.specs.Canon.{Canon, IsWellFormed}
use Rattle.plcs_grammar.specs.Template.{PlainSegment, PlainSection, row_of, program_sections}
use Rattle.template_tree.specs.Programs.Limit.{longest_phrase}
use Rattle.template_tree.specs.Programs.PlainTree.{Label, Forest, PlainNode}

-- the categories of the parts that a node of a program has, as the line of its row asks for them, one after the other
abbrev pub parts_of : List PlainSegment → List Category
parts_of [] = []
parts_of (PlainSegment.words bytes ∷ segments) = parts_of segments
parts_of (PlainSegment.part category ∷ segments) = category ∷ parts_of segments

-- the sort that nodes of a kind have in a program, by the kind's row: that of main, procedures, declarations or
-- statements
abbrev pub sort_of : NodeKind → Sort
sort_of kind = (row_of kind).sort

-- the sorts of nodes in order, for which the row of a node asks where plain data are a program
abbrev pub sorts : Forest → List Sort
sorts Forest.nil = []
sorts (Forest.cons label inner rest) = sort_of label.kind ∷ sorts rest

-- which plain data a part of a program holds as a phrase of the category: one that is well formed, and whose canonical
-- text isn't too long
pub record IsPartPhrase (category : Category) (phrase : PlainPhrase) : Type 0 where
  pub well_formed : IsWellFormed category phrase
  pub short : length (Canon phrase) ≤ longest_phrase

-- whether plain data in which a part of the category is empty may be a program: an assignment never is empty
abbrev pub may_be_empty : Category → Bool
may_be_empty Assignment = false
may_be_empty Condition = true
may_be_empty Expression = true
may_be_empty ExpressionList = true
may_be_empty VariableList = true
may_be_empty Variable = true
may_be_empty CallRef = true
may_be_empty DeclaredList = true
may_be_empty ProcedureName = true
may_be_empty NameList = true
may_be_empty Length = true
may_be_empty CommentText = true

-- what plain data that are a program may hold in a part of the category: a phrase, or nothing where it may be empty
abbrev pub IsPart : Category → Option PlainPhrase → Type 0
IsPart category None = IsTrue (may_be_empty category)
IsPart category (Some phrase) = IsPartPhrase category phrase

-- the parts of a node hold what their row asks for: a phrase of each of the categories, one by one, or nothing
abbrev pub AreParts : List Category → List (Option PlainPhrase) → Type 0
AreParts [] [] = Unit {0}
AreParts [] (part ∷ parts) = ⊥
AreParts (category ∷ categories) [] = ⊥
AreParts (category ∷ categories) (part ∷ parts) = IsPart category part × AreParts categories parts

-- the items are what one section of a row asks for: one of its sort, or one or more
abbrev pub AreItems : Amount → Sort → List Sort → Type 0
AreItems Amount.One sort items = items ≡ sort ∷ []
AreItems Amount.Many sort items = (1 ≤ length items) × All (λ item. item ≡ sort) items

-- the items are what the sections of a row ask for, one section after the other
abbrev pub Fill : List PlainSection → List Sort → Type 0
Fill [] items = items ≡ []
Fill (section ∷ sections) items =
    (own others : List Sort) × (items ≡ own ++ others) × AreItems section.amount section.sort own × Fill sections others

-- a node is what its row asks for, where what stands inside it has these sorts; a comment alone may be elided
pub record IsNode (label : Label) (items : List Sort) : Type 0 where
  pub parts : AreParts (parts_of (row_of label.kind).line) label.parts
  pub inner : Fill (row_of label.kind).sections items
  pub elision : label.elided ≡ true → label.kind ≡ NodeKind.Filled Template.Comment

-- each of the nodes, and each that stands inside them, is what its row asks for
abbrev pub AreNodes : Forest → Type 0
AreNodes Forest.nil = Unit {0}
AreNodes (Forest.cons label inner rest) = IsNode label (sorts inner) × AreNodes inner × AreNodes rest

-- the node, with what stands inside it, is a part of a program
abbrev pub IsSubtree : PlainNode → Type 0
IsSubtree node = IsNode node.label (sorts node.inner) × AreNodes node.inner

-- the nodes are a program: main, and a list of procedures, each node what its row asks for
pub record IsProgram (items : Forest) : Type 0 where
  pub listed : Fill program_sections (sorts items)
  pub sound : AreNodes items
