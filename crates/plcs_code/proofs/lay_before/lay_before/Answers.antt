use Rattle.std.proofs.Common.{List, take, refl, sym, ◌∙◌}
use Rattle.plcs_base.specs.Mark.{MarkMap}
use Rattle.plcs_base.specs.declared.declared.Declared.{Declared}
use Rattle.plcs_grammar.specs.declared.node_kind.NodeKind.{NodeKind}
use Rattle.template_tree.specs.Programs.PlainTree.{Label}
use Rattle.plcs_code.specs.Pieces.{kind_pieces, suspension}
use Rattle.plcs_code.specs.PlainInstr.{PlainInstr}
use Rattle.plcs_code.proofs.LaidPieces.{laid_nothing}
use Rattle.plcs_code.proofs.lay_before.lay_before.Goals as goal

-- what stands before the nodes inside, by the kind
abbrev before_of : MarkMap → List Declared → Label → NodeKind → List PlainInstr
before_of marks items label kind =
    (kind_pieces label.slot (suspension marks label.slot label.parts) (suspension marks label.slot (take 1 label.parts)) label.parts items kind).before

pub returns-in-DeclarationHole : goal.returns-in-DeclarationHole
returns-in-DeclarationHole g c =
    laid_nothing (before_of (g.M.Marked.marks c.args.marks.now) c.args.items.now c.args.node.now.label) _ _
    (sym c.kind.ensures ∙ c.in-DeclarationHole.is) refl

pub returns-in-ProcedureHole : goal.returns-in-ProcedureHole
returns-in-ProcedureHole g c =
    laid_nothing (before_of (g.M.Marked.marks c.args.marks.now) c.args.items.now c.args.node.now.label) _ _
    (sym c.kind.ensures ∙ c.in-ProcedureHole.is) refl
