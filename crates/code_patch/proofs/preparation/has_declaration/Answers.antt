use Rattle.std.proofs.Common.{ap, ◌∙◌}
use Rattle.plcs_grammar.specs.declared.node_kind.NodeKind.{NodeKind}
use Rattle.template_tree.specs.Programs.Program.{sort_of}
use Rattle.code_patch.specs.Bill.{is_declaration}
use Rattle.code_patch.specs.Private.KeptPaths.{node_declares}
use Rattle.code_patch.proofs.preparation.has_declaration.Goals as goal

pub returns-in_default : goal.returns-in_default
returns-in_default c = ap node_declares c.in_default.ensures.found

pub returns : goal.returns
returns c =
    c.declares.ensures
    ∙ ap (λ (kind : NodeKind). is_declaration (sort_of kind)) c.kind.ensures
    ∙ ap node_declares c.in-Some.ensures.found
