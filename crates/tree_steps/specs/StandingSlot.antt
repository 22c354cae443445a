-- Where a slot stands: in a node of which kind, and in which nodes that one is enclosed.
use Rattle.std.specs.Prelude.{◌≡◌, ℕ, ◌⊎◌, List, [], ◌∷◌, ◌++◌}
use Rattle.plcs_grammar.specs.declared.node_kind.NodeKind.{NodeKind}
use Rattle.plcs_grammar.specs.declared.template.Template.{Template}
use Rattle.template_tree.specs.Programs.PlainTree.{Forest}

-- the nodes that enclose a node, each by its slot and its kind, the innermost first
abbrev pub Around : Type 0
Around = List (ℕ × NodeKind)

-- among nodes that these enclose, or inside one of them, a node of the kind stands in the slot, with those around it
abbrev pub StandsBelow : (above : Around) → Forest → (slot : ℕ) → NodeKind → (around : Around) → Type 0
StandsBelow above Forest.nil slot kind around = ⊥
StandsBelow above (Forest.cons label inner rest) slot kind around =
    ((label.slot ≡ slot) × (label.kind ≡ kind) × (above ≡ around))
    ⊎ (StandsBelow ((label.slot, label.kind) ∷ above) inner slot kind around ⊎ StandsBelow above rest slot kind around)

-- in a program a node of the kind stands in the slot, with those around it
abbrev pub StandsInside : Forest → (slot : ℕ) → NodeKind → (around : Around) → Type 0
StandsInside items slot kind around = StandsBelow [] items slot kind around

-- the slot of the outermost node round a slot, or that slot itself where nothing is around it: that of main or its
-- procedure
abbrev pub outermost_slot : (slot : ℕ) → Around → ℕ
outermost_slot slot [] = slot
outermost_slot slot (node ∷ around) = outermost_slot node.0 around

-- of a node that encloses a standing slot, by its template: its own slot as a list of loops, if it is a loop that a run
-- keeps, as a For alone is; a While and an Until test anew each time
abbrev pub loop_by_template : Template → (slot : ℕ) → List ℕ
loop_by_template Template.Fixed slot = []
loop_by_template Template.Bit slot = []
loop_by_template Template.Char slot = []
loop_by_template Template.If slot = []
loop_by_template Template.IfElse slot = []
loop_by_template Template.While slot = []
loop_by_template Template.For slot = slot ∷ []
loop_by_template Template.Until slot = []
loop_by_template Template.Group slot = []
loop_by_template Template.Get slot = []
loop_by_template Template.Put slot = []
loop_by_template Template.PutSkip slot = []
loop_by_template Template.Call slot = []
loop_by_template Template.Return slot = []
loop_by_template Template.Comment slot = []
loop_by_template Template.Proc slot = []
loop_by_template Template.ProcP slot = []

-- of a node that encloses a standing slot, by its kind: its own slot as a list of loops, if it is a loop that a run
-- keeps
abbrev pub loop_by_kind : NodeKind → (slot : ℕ) → List ℕ
loop_by_kind (NodeKind.Filled template) slot = loop_by_template template slot
loop_by_kind NodeKind.DeclarationHole slot = []
loop_by_kind NodeKind.StatementHole slot = []
loop_by_kind NodeKind.ProcedureHole slot = []
loop_by_kind NodeKind.Main slot = []
loop_by_kind NodeKind.Assign slot = []

-- the slots of the loops that a run keeps among the nodes in which a slot is enclosed, the outermost first
abbrev pub loops_around : Around → List ℕ
loops_around [] = []
loops_around (node ∷ around) = loops_around around ++ loop_by_kind node.1 node.0
