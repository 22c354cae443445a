-- What may be done at a stop: which phrase text is wanted there, what can be taken out or put in, and beside what.
use Rattle.std.specs.Prelude.{ℕ, zero, suc, Bool, true, false, ◌&&◌, nat_lt, if◌then◌else◌, List, length, take, Option, Some, None, is_some, is_none, option_and_then}
use Rattle.std.specs.Option.{option_map_or}
use Rattle.plcs_grammar.specs.Template.{program_sections}
use Rattle.plcs_grammar.specs.declared.category.Category.{Category}
use Rattle.plcs_grammar.specs.declared.node_kind.NodeKind.{NodeKind}
use Rattle.plcs_grammar.specs.PlainPhrase.{PlainPhrase, category_of}
use Rattle.plcs_grammar.specs.Category.{same_category}
use Rattle.template_tree.specs.Edits.Hole.{hole_left, is_hole}
use Rattle.template_tree.specs.Edits.ListItem.{how_many, is_listed, sections_at, siblings_at}
use Rattle.template_tree.specs.Programs.Part.{part_at, part_category}
use Rattle.template_tree.specs.Positions.Path.{node_at}
use Rattle.template_tree.specs.Programs.PlainTree.{Forest, PlainNode, PlainTree}
use Rattle.template_tree.specs.Programs.Program.{sort_of, sorts}
use Rattle.template_tree.specs.Listings.Section.{same_sort}
use Rattle.template_tree.specs.Positions.Stop.{PlainStop}

-- whether an assignment is typed at nodes of the kind
abbrev pub is_typed : NodeKind → Bool
is_typed NodeKind.DeclarationHole = false
is_typed NodeKind.StatementHole = true
is_typed NodeKind.ProcedureHole = false
is_typed NodeKind.Main = false
is_typed NodeKind.Assign = true
is_typed (NodeKind.Filled template) = false

-- the category that phrase text has at a part of a node of the kind, or at the node itself: there it is an assignment
abbrev pub category_in : Option ℕ → NodeKind → Option Category
category_in None kind = if is_typed kind then Some Category.Assignment else None
category_in (Some part) kind = part_category kind part

-- the category that phrase text has at the stop; where it has none, phrase text is not entered there
unfoldable pub category_at : PlainTree → PlainStop → Option Category
category_at tree stop = option_and_then (λ node. category_in stop.part node.label.kind) (node_at tree.items stop.path)

-- whether the phrase is wanted at a stop: it is of the category that phrase text has there, if it has one
abbrev pub is_wanted : PlainPhrase → Option Category → Bool
is_wanted phrase None = false
is_wanted phrase (Some category) = same_category (category_of phrase) category

-- whether something can be taken out at a part of a node, or at the node itself: a phrase, or the node where it is
-- neither main nor a hole
abbrev pub can_take : Option ℕ → PlainNode → Bool
can_take None node = is_some (hole_left node.label.kind)
can_take (Some part) node = is_some (part_at node.label.parts part)

-- whether something can be taken out at the stop
unfoldable pub takes_at : PlainTree → PlainStop → Bool
takes_at tree stop = option_map_or (can_take stop.part) (node_at tree.items stop.path) false

-- whether nodes of the kind can be put in at the node: the cursor stands on it, and it is a hole of their sort
abbrev pub takes_nodes : NodeKind → Option ℕ → PlainNode → Bool
takes_nodes kind part node =
    is_none part && (is_hole node.label.kind && same_sort (sort_of node.label.kind) (sort_of kind))

-- whether the phrase can be put in at the part of the node: the part is empty and of the category of the phrase
abbrev pub takes_phrase : PlainPhrase → ℕ → PlainNode → Bool
takes_phrase phrase part node =
    is_none (part_at node.label.parts part) && is_wanted phrase (part_category node.label.kind part)

-- whether at the stop of the cursor a hole can come beside the node at this path: it is an item of a list
abbrev pub is_list_item : Forest → List ℕ → Bool
is_list_item items path =
    option_map_or (λ node. is_listed (sort_of node.label.kind) (sections_at program_sections items path))
    (node_at items path) false

-- whether the node at the path is a hole in a list of two or more, and the cursor stands on it
abbrev pub is_spare_hole : Forest → PlainStop → PlainNode → Bool
is_spare_hole items stop node =
    (is_none stop.part && is_hole node.label.kind)
    && (is_list_item items stop.path
    && nat_lt 1 (how_many (sort_of node.label.kind) (sorts (siblings_at items stop.path))))

-- beside what a hole can come at a stop: the nearest item of a list, whose path is the longest of the first so many
-- numbers of a path that leads to one
abbrev pub nearest_item : Forest → List ℕ → ℕ → Option (List ℕ)
nearest_item items path zero = None
nearest_item items path (suc n) =
    if is_list_item items (take (suc n) path) then Some (take (suc n) path) else nearest_item items path n

-- the path of the item of a list beside which a hole comes: the nearest one that the node at the path is, or in which
-- it stands
abbrev pub enclosing_item : Forest → List ℕ → Option (List ℕ)
enclosing_item items path = nearest_item items path (length path)
