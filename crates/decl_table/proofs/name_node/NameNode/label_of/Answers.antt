use Rattle.std.proofs.Common.{ap, ◌∙◌}
use Rattle.decl_table.specs.Private.PlainNameNode.{PlainNameNode, name_node_of}
use Rattle.decl_table.proofs.AddedUses.{then_ok}
use Rattle.decl_table.proofs.HandedOut.{handed}
use Rattle.decl_table.proofs.name_node.NameNode.label_of.Goals as goal

pub add_parts-requires-clause-none : goal.add_parts-requires-clause-none
add_parts-requires-clause-none c = ap (λ (n : PlainNameNode). n.label.parts) c.bare-names.ensures

pub returns-clause-label : goal.returns-clause-label
returns-clause-label c =
    let slot = ap (λ (n : PlainNameNode). n.label.slot) c.bare-names.ensures ∙ c.slot.ensures in
    let kind = ap (λ (n : PlainNameNode). n.label.kind) c.bare-names.ensures ∙ c.kind.ensures in
    let parts = (name_node_of c.args.node.now).label.parts in
    handed c.add_parts.result c.add_parts.new.self c.and.result _ c.and.ensures
    (then_ok c.add_parts.result
    (λ is. ap (λ (n : PlainNameNode). n.label) is ∙ (λ i. record { slot = slot i; kind = kind i; parts = parts }))
    c.add_parts.ensures)

pub returns-clause-inner : goal.returns-clause-inner
returns-clause-inner c =
    handed c.add_parts.result c.add_parts.new.self c.and.result _ c.and.ensures
    (then_ok c.add_parts.result
    (λ is. ap (λ (n : PlainNameNode). n.inner) is ∙ ap (λ (n : PlainNameNode). n.inner) c.bare-names.ensures)
    c.add_parts.ensures)
