-- The new program.
use Rattle.std.specs.Prelude.{ℕ, false, []}
use Rattle.plcs_grammar.specs.declared.node_kind.NodeKind.{NodeKind}
use Rattle.template_tree.specs.Programs.PlainTree.{Label, Forest, PlainTree}

-- the label of a node of the new program: the kind in the slot, with no parts
abbrev pub bare_label : ℕ → NodeKind → Label
bare_label slot kind = record { slot = slot; kind = kind; parts = []; elided = false; spare = 0 }

-- the new program: main in slot 0 with a declaration hole in 1 and a statement hole in 2, and a procedure hole in 3
abbrev pub new_items : Forest
new_items =
    Forest.cons (bare_label 0 NodeKind.Main)
    (Forest.cons (bare_label 1 NodeKind.DeclarationHole) Forest.nil
    (Forest.cons (bare_label 2 NodeKind.StatementHole) Forest.nil Forest.nil))
    (Forest.cons (bare_label 3 NodeKind.ProcedureHole) Forest.nil Forest.nil)

-- the new tree: the new program, with four slots drawn, all of them live, and no room in its list
abbrev pub new_tree : PlainTree
new_tree = record { items = new_items; spare = 0; drawn = 4; live = 4 }
