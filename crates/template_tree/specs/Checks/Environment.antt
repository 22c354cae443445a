-- What the declarations and headings of a program say: the effective items of each procedure, and the effective heading
-- of each name.
use Rattle.std.specs.Prelude.{ℕ, ◌+◌, ◌==◌, Bool, not, ◌&&◌, nat_lt, if◌then◌else◌, bytes_eq, List, [], ◌∷◌, ◌++◌, codes, find, map, sum_by, Option, Some, None, is_some, option_and_then, option_map, unwrap_or}
use Rattle.std.specs.List.{list_any}
use Rattle.std.specs.Option.{option_or}
use Rattle.plcs_base.specs.declared.declared.Declared.{Declared}
use Rattle.plcs_base.specs.declared.declared.ItemType.{ItemType}
use Rattle.plcs_base.specs.declared.mark.MarkKind.{MarkKind}
use Rattle.plcs_base.specs.declared.value.Kind.{Kind}
use Rattle.plcs_grammar.specs.declared.item.Item.{Item}
use Rattle.plcs_grammar.specs.declared.node_kind.NodeKind.{NodeKind}
use Rattle.plcs_grammar.specs.declared.template.Template.{Template}
use Rattle.plcs_grammar.specs.Builtin.{is_builtin_name}
use Rattle.plcs_grammar.specs.PlainPhrase.{PlainPhrase}
use Rattle.template_tree.specs.Programs.Limit.{most_cells}
use Rattle.template_tree.specs.Programs.Part.{part_at}
use Rattle.template_tree.specs.Programs.PlainTree.{Label, Forest, PlainNode}

-- ---- what a declaration declares

-- the items of a declared list, as its phrase has them
abbrev pub items_of_list : PlainPhrase → List Item
items_of_list (PlainPhrase.declared_list items) = items
items_of_list other = []

-- the items that stand in the first part of a declaration
abbrev pub list_items : List (Option PlainPhrase) → List Item
list_items parts = unwrap_or (option_map items_of_list (part_at parts 0)) []

-- the number that the phrase of a greatest length says in a declaration
abbrev pub number_of_length : PlainPhrase → Option ℕ
number_of_length (PlainPhrase.greatest_length n) = Some n
number_of_length other = None

-- the greatest length that stands in the second part of a declaration of texts, if one does
abbrev pub length_given : List (Option PlainPhrase) → Option ℕ
length_given parts = option_and_then number_of_length (part_at parts 1)

-- the type that a declaration by the template gives to its names, if it gives one: a declaration of texts gives none as
-- long as their length isn't there
abbrev pub template_type : Template → List (Option PlainPhrase) → Option ItemType
template_type Template.Fixed parts = Some ItemType.Fixed
template_type Template.Bit parts = Some ItemType.Bit
template_type Template.Char parts = option_map ItemType.Text (length_given parts)
template_type Template.If parts = None
template_type Template.IfElse parts = None
template_type Template.While parts = None
template_type Template.For parts = None
template_type Template.Until parts = None
template_type Template.Group parts = None
template_type Template.Get parts = None
template_type Template.Put parts = None
template_type Template.PutSkip parts = None
template_type Template.Call parts = None
template_type Template.Return parts = None
template_type Template.Comment parts = None
template_type Template.Proc parts = None
template_type Template.ProcP parts = None

-- the type that a node of the kind gives to the names that it declares, if it gives one: what is no declaration gives
-- none
abbrev pub type_given : NodeKind → List (Option PlainPhrase) → Option ItemType
type_given NodeKind.DeclarationHole parts = None
type_given NodeKind.StatementHole parts = None
type_given NodeKind.ProcedureHole parts = None
type_given NodeKind.Main parts = None
type_given NodeKind.Assign parts = None
type_given (NodeKind.Filled template) parts = template_type template parts

-- an item with the type that its declaration gives; a scalar has the size 0
abbrev pub declared_as : ItemType → Item → Declared
declared_as ty item = record { name = item.name; ty = ty; size = unwrap_or item.size 0 }

-- the items of a declared list with the type that their declaration gives, or none where it gives none
abbrev pub with_type : Option ItemType → List Item → List Declared
with_type None items = []
with_type (Some ty) items = map (declared_as ty) items

-- what a node declares, in order, effective or not
abbrev pub declares : Label → List Declared
declares label = with_type (type_given label.kind label.parts) (list_items label.parts)

-- what nodes in order declare; what stands inside them declares nothing
abbrev pub all_declared : Forest → List Declared
all_declared Forest.nil = []
all_declared (Forest.cons label inner rest) = declares label ++ all_declared rest

-- ---- which items are effective

-- how many cells an item has by the size that the declarations of a program say of it: one as a scalar, whose size is
-- 0, and as an array its size
abbrev pub cells_in : (size : ℕ) → ℕ
cells_in size = if size == 0 then 1 else size

-- how many cells an item has that declarations of a program say
abbrev pub cells_of : Declared → ℕ
cells_of item = cells_in item.size

-- how many cells declared items have together
abbrev pub cells : List Declared → ℕ
cells items = sum_by cells_of items

-- the item of the name among those that declarations of a program say, if one has it
abbrev pub item_named : List ℕ → List Declared → Option Declared
item_named name items = find (λ item. bytes_eq name item.name) items

-- why an item isn't effective behind those that are, if it isn't: its name is reserved, an earlier effective item has
-- its name, or its cells are too many with theirs
abbrev pub item_offence : (before : List Declared) → Declared → Option MarkKind
item_offence before item =
    if is_builtin_name item.name then Some MarkKind.Reserved
    else (if is_some (item_named item.name before) then Some MarkKind.Duplicate
    else (if nat_lt most_cells (cells before + cells_of item) then Some MarkKind.TooManyCells else None))

-- the effective items once one more is declared behind them
abbrev pub with_declared : (before : List Declared) → Declared → List Declared
with_declared before item = if is_some (item_offence before item) then before else before ++ (item ∷ [])

-- the effective items once some more are declared behind them, one after the other
abbrev pub effective : (before : List Declared) → List Declared → List Declared
effective before [] = before
effective before (item ∷ rest) = effective (with_declared before item) rest

-- what the declarations among the nodes of a procedure say: its effective items, in listing order
abbrev pub items_inside : Forest → List Declared
items_inside inner = effective [] (all_declared inner)

-- main or the procedure in the slot, whose effective items are asked for, if one of them has it
abbrev pub procedure_at : (program : Forest) → (slot : ℕ) → Option PlainNode
procedure_at Forest.nil slot = None
procedure_at (Forest.cons label inner rest) slot =
    if label.slot == slot then Some record { label = label; inner = inner } else procedure_at rest slot

-- the effective items of the procedure in the slot: none where no procedure has it
abbrev pub Items : (program : Forest) → (slot : ℕ) → List Declared
Items program slot = unwrap_or (option_map (λ node. items_inside node.inner) (procedure_at program slot)) []

-- ---- which headings are effective

-- the name and the parameters of a whole heading
pub record Heading : Type 0 where
  pub name : List ℕ
  pub parameters : List (List ℕ)

-- the name that the phrase in a heading gives to its procedure
abbrev pub name_of_procedure : PlainPhrase → Option (List ℕ)
name_of_procedure (PlainPhrase.procedure_name name) = Some name
name_of_procedure other = None

-- the names that the phrase in a heading gives to its parameters
abbrev pub names_of_list : PlainPhrase → Option (List (List ℕ))
names_of_list (PlainPhrase.name_list names) = Some names
names_of_list other = None

-- the name in the first part of a heading, if it is there
abbrev pub name_given : List (Option PlainPhrase) → Option (List ℕ)
name_given parts = option_and_then name_of_procedure (part_at parts 0)

-- the parameters in the second part of a heading, if they are there
abbrev pub parameters_given : List (Option PlainPhrase) → Option (List (List ℕ))
parameters_given parts = option_and_then names_of_list (part_at parts 1)

-- the heading of this name and these parameters, if both are there
abbrev pub heading_with : Option (List ℕ) → Option (List (List ℕ)) → Option Heading
heading_with None parameters = None
heading_with (Some name) None = None
heading_with (Some name) (Some parameters) = Some record { name = name; parameters = parameters }

-- the heading of a procedure by the template, if all its parts are filled
abbrev pub template_heading : Template → List (Option PlainPhrase) → Option Heading
template_heading Template.Fixed parts = None
template_heading Template.Bit parts = None
template_heading Template.Char parts = None
template_heading Template.If parts = None
template_heading Template.IfElse parts = None
template_heading Template.While parts = None
template_heading Template.For parts = None
template_heading Template.Until parts = None
template_heading Template.Group parts = None
template_heading Template.Get parts = None
template_heading Template.Put parts = None
template_heading Template.PutSkip parts = None
template_heading Template.Call parts = None
template_heading Template.Return parts = None
template_heading Template.Comment parts = None
template_heading Template.Proc parts = heading_with (name_given parts) (Some [])
template_heading Template.ProcP parts = heading_with (name_given parts) (parameters_given parts)

-- the heading of a node of the kind, if it is a procedure's and all its parts are filled
abbrev pub heading_of : NodeKind → List (Option PlainPhrase) → Option Heading
heading_of NodeKind.DeclarationHole parts = None
heading_of NodeKind.StatementHole parts = None
heading_of NodeKind.ProcedureHole parts = None
heading_of NodeKind.Main parts = None
heading_of NodeKind.Assign parts = None
heading_of (NodeKind.Filled template) parts = template_heading template parts

-- whether a procedure may be called by the name in its heading: that is neither reserved nor that of main
abbrev pub may_be_called : List ℕ → Bool
may_be_called name = not (is_builtin_name name) && not (bytes_eq name (codes "main"))

-- the kind of the values of an item, by the type that its declaration says
abbrev pub kind_of_type : ItemType → Kind
kind_of_type ItemType.Fixed = Kind.Fixed
kind_of_type ItemType.Bit = Kind.Bit
kind_of_type (ItemType.Text n) = Kind.Text

-- what the declaration of an item says of its kind, if the item is a scalar
abbrev pub scalar_kind : Declared → Option Kind
scalar_kind item = if item.size == 0 then Some (kind_of_type item.ty) else None

-- what a heading and the effective items say of a parameter behind earlier ones: its kind, if it is named here first,
-- and an effective item of the name is a scalar
abbrev pub parameter_kind : (items : List Declared) (earlier : List (List ℕ)) → List ℕ → Option Kind
parameter_kind items earlier name =
    if list_any (bytes_eq name) earlier then None else option_and_then scalar_kind (item_named name items)

-- the kinds of the parameters of a heading behind earlier ones
abbrev pub parameter_kinds : (items : List Declared) (earlier names : List (List ℕ)) → List (Option Kind)
parameter_kinds items earlier [] = []
parameter_kinds items earlier (name ∷ rest) =
    parameter_kind items earlier name ∷ parameter_kinds items (earlier ++ (name ∷ [])) rest

-- what a call needs of a procedure: the slot of its heading, and the kind of each parameter, if it has one
pub record Signature : Type 0 where
  pub slot : ℕ
  pub parameters : List (Option Kind)

-- the signature of a procedure's heading
abbrev pub signature_of : PlainNode → Heading → Signature
signature_of node heading =
    record { slot = node.label.slot; parameters = parameter_kinds (items_inside node.inner) [] heading.parameters }

-- the signature of a procedure of the name, if its heading is whole and has the name, and the name may be called
abbrev pub signature_for : List ℕ → PlainNode → Option Signature
signature_for name node =
    option_and_then
    (λ heading. if bytes_eq name heading.name && may_be_called name then Some (signature_of node heading) else None)
    (heading_of node.label.kind node.label.parts)

-- the signature of the first effective heading of the name, if there is one. The first whole heading of a name that may
-- be called is effective, and later ones of the name are not
abbrev pub Sig : (program : Forest) → (name : List ℕ) → Option Signature
Sig Forest.nil name = None
Sig (Forest.cons label inner rest) name =
    option_or (signature_for name record { label = label; inner = inner }) (Sig rest name)
