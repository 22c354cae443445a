use Rattle.std.proofs.Common.{List, [], take, refl, sym, ◌∙◌}
use Rattle.plcs_base.specs.Mark.{MarkMap}
use Rattle.plcs_grammar.specs.declared.node_kind.NodeKind.{NodeKind}
use Rattle.template_tree.specs.Programs.PlainTree.{Label}
use Rattle.plcs_code.specs.Pieces.{kind_pieces, suspension}
use Rattle.plcs_code.specs.PlainInstr.{PlainInstr}
use Rattle.plcs_code.proofs.LaidPieces.{laid_nothing}
use Rattle.plcs_code.proofs.lay_behind.lay_behind.Goals as goal

-- what stands behind the nodes inside, by the kind
abbrev behind_of : MarkMap → Label → NodeKind → List PlainInstr
behind_of marks label kind =
    (kind_pieces label.slot (suspension marks label.slot label.parts) (suspension marks label.slot (take 1 label.parts)) label.parts [] kind).behind

pub returns-in-DeclarationHole : goal.returns-in-DeclarationHole
returns-in-DeclarationHole g c =
    laid_nothing (behind_of (g.M.Marked.marks c.args.marks.now) c.args.node.now.label) _ _ (sym c.kind.ensures ∙ c.in-DeclarationHole.is) refl

pub returns-in-StatementHole : goal.returns-in-StatementHole
returns-in-StatementHole g c =
    laid_nothing (behind_of (g.M.Marked.marks c.args.marks.now) c.args.node.now.label) _ _ (sym c.kind.ensures ∙ c.in-StatementHole.is) refl

pub returns-in-ProcedureHole : goal.returns-in-ProcedureHole
returns-in-ProcedureHole g c =
    laid_nothing (behind_of (g.M.Marked.marks c.args.marks.now) c.args.node.now.label) _ _ (sym c.kind.ensures ∙ c.in-ProcedureHole.is) refl

pub returns-in-Assign : goal.returns-in-Assign
returns-in-Assign g c =
    laid_nothing (behind_of (g.M.Marked.marks c.args.marks.now) c.args.node.now.label) _ _ (sym c.kind.ensures ∙ c.in-Assign.is) refl
