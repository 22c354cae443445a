-- Programs, configurations and answers of examples, written shortly.
use Rattle.std.specs.Prelude.{ℕ, pos, Bool, false, List, [], ◌∷◌, Option, Some}
use Rattle.plcs_base.specs.declared.declared.ItemType.{ItemType}
use Rattle.plcs_grammar.specs.declared.node_kind.NodeKind.{NodeKind}
use Rattle.plcs_grammar.specs.declared.template.Template.{Template}
use Rattle.plcs_grammar.specs.PlainPhrase.{PlainExpr, PlainExprs, PlainPhrase, PlainVarRef}
use Rattle.template_tree.specs.Positions.Place.{PlainPlace}
use Rattle.template_tree.specs.Programs.PlainTree.{Forest, Label}
use Rattle.plcs_store.specs.declared.cell.Cell.{Cell}
use Rattle.plcs_store.specs.declared.fault_kind.FaultKind.{FaultKind}
use Rattle.plcs_store.specs.declared.frame.Frame.{Frame}
use Rattle.plcs_store.specs.declared.kept_loop.KeptLoop.{KeptLoop}
use Rattle.plcs_store.specs.declared.reason.Reason.{Reason}
use Rattle.plcs_store.specs.declared.variable.Variable.{Variable}
use Rattle.plcs_store.specs.CellAt.{Variables}
use Rattle.plcs_store.specs.Configuration.{PlainConfiguration}
use Rattle.plcs_store.specs.NewFrame.{new_frame}
use Rattle.plcs_store.specs.Step.{PlainStepAnswer}
use Rattle.plcs_store.proofs.Examples.Row.{num}

-- ---- programs

-- a node of a template
abbrev pub filled : ℕ → Template → List (Option PlainPhrase) → Label
filled slot template parts = record { slot = slot; kind = NodeKind.Filled template; parts = parts; elided = false; spare = 0 }

-- a node with nothing inside, before others
abbrev pub leaf : Label → Forest → Forest
leaf label rest = Forest.cons label Forest.nil rest

-- the parts of a node that has this one alone
abbrev pub one_part : PlainPhrase → List (Option PlainPhrase)
one_part phrase = Some phrase ∷ []

-- a variable without a subscript
abbrev pub reference : List ℕ → PlainVarRef
reference name = PlainVarRef.simple name

-- a number as an expression
abbrev pub number : ℕ → PlainExpr
number n = PlainExpr.number (pos n)

-- a list of one expression
abbrev pub alone : PlainExpr → PlainExprs
alone e = PlainExprs.cons e PlainExprs.nil

-- no phrase is marked
abbrev pub nothing_marked : ℕ → ℕ → Bool
nothing_marked slot part = false

-- ---- configurations

-- a whole number that is held
abbrev pub held : ℕ → Cell
held n = Cell.Held (num n)

-- a whole number under its name
abbrev pub scalar : List ℕ → Cell → List ℕ × Variable
scalar name cell = (name, record { ty = ItemType.Fixed; size = 0; cells = cell ∷ [] })

-- main at a place, with these cells and loops
abbrev pub main_frame : PlainPlace → Variables → List KeptLoop → Frame
main_frame place cells loops = record (new_frame 0 place cells) { loops = loops }

-- ---- answers

-- the step is made
abbrev pub stepped : PlainConfiguration → Option PlainStepAnswer
stepped c = Some (PlainStepAnswer.stepped c)

-- the step stops, and nothing is changed
abbrev pub stopped : Reason → Option PlainStepAnswer
stopped reason = Some (PlainStepAnswer.stopped reason)

-- the step stops with a fault
abbrev pub stopped_by : FaultKind → Option PlainStepAnswer
stopped_by kind = stopped (Reason.Fault kind)
