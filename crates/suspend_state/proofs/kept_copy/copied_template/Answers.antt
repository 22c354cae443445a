use Rattle.std.specs.Prelude.{List, Option, Some}
use Rattle.std.proofs.Common.{ap, sym, ◌∙◌}
use Rattle.plcs_grammar.specs.declared.node_kind.NodeKind.{NodeKind}
use Rattle.plcs_grammar.specs.PlainPhrase.{PlainPhrase}
use Rattle.plcs_store.specs.declared.held_template.HeldTemplate.{HeldTemplate}
use Rattle.suspend_state.proofs.NodeSites.{held_found}
use Rattle.suspend_state.proofs.kept_copy.copied_template.Goals as goal

pub returns : goal.returns
returns c =
    let node = c.in-Some-node.node.now in
    held_found c.args.tree.now c.in-Some.path.items c.args.slot.0 node c.requires.tree c.in-Some.ensures.path (sym c.in-Some-node.ensures.found)
    ∙ ap (λ (kind : NodeKind). let o : Option HeldTemplate = Some (record { kind = kind; parts = node.label.parts }) in o) (sym c.kind.ensures)
    ∙ ap (λ (parts : List (Option PlainPhrase)). let o : Option HeldTemplate = Some (record { kind = c.kind.result; parts = parts }) in o)
    (sym c.in_ok-copied_parts.ensures)
