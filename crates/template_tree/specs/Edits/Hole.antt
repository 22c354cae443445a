-- Holes: which kind stands for which sort, and the nodes that edits bring in or leave as holes.
use Rattle.std.specs.Prelude.{ℕ, Bool, true, false, if◌then◌else◌, List, [], ◌∷◌, Option, Some, None}
use Rattle.plcs_grammar.specs.declared.node_kind.NodeKind.{NodeKind}
use Rattle.plcs_grammar.specs.declared.node_kind.Sort.{Sort}
use Rattle.template_tree.specs.Programs.PlainTree.{Forest, PlainNode}
use Rattle.template_tree.specs.Programs.Program.{sort_of}

-- the kind of the hole that stands where nodes of the sort stand; main has none
abbrev pub hole_of : Sort → Option NodeKind
hole_of Sort.Main = None
hole_of Sort.Procedure = Some NodeKind.ProcedureHole
hole_of Sort.Declaration = Some NodeKind.DeclarationHole
hole_of Sort.Statement = Some NodeKind.StatementHole

-- whether nodes of the kind are holes
abbrev pub is_hole : NodeKind → Bool
is_hole NodeKind.DeclarationHole = true
is_hole NodeKind.StatementHole = true
is_hole NodeKind.ProcedureHole = true
is_hole NodeKind.Main = false
is_hole NodeKind.Assign = false
is_hole (NodeKind.Filled template) = false

-- the kind of the hole that stays where a node of the kind is taken out; main isn't taken out, and neither is a hole
abbrev pub hole_left : NodeKind → Option NodeKind
hole_left kind = if is_hole kind then None else hole_of (sort_of kind)

-- a hole as an edit brings it in: a node of the kind with no parts and nothing inside
abbrev pub lone : ℕ → NodeKind → PlainNode
lone slot kind =
    record { label = record { slot = slot; kind = kind; parts = []; elided = false; spare = 0 }; inner = Forest.nil }

-- the hole of the kind in the slot as a list of items, which is empty where there is no kind
abbrev pub hole_list : ℕ → Option NodeKind → List PlainNode
hole_list slot None = []
hole_list slot (Some kind) = lone slot kind ∷ []
