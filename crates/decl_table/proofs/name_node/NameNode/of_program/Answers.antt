use Rattle.std.proofs.Common.{ap, ◌∙◌}
use Rattle.decl_table.specs.Names.{NameLabel}
use Rattle.decl_table.specs.Private.PlainNameNode.{PlainNameNode}
use Rattle.decl_table.proofs.AddedUses.{then_ok}
use Rattle.decl_table.proofs.HandedOut.{handed}
use Rattle.decl_table.proofs.name_node.NameNode.of_program.Goals as goal

pub push_items-requires-clause-none : goal.push_items-requires-clause-none
push_items-requires-clause-none c = ap (λ (n : PlainNameNode). n.inner) c.bare-root.ensures

pub returns-clause-inner : goal.returns-clause-inner
returns-clause-inner c = handed c.push_items.result c.push_items.new.self c.and.result _ c.and.ensures c.push_items.ensures.inner

pub returns-clause-parts : goal.returns-clause-parts
returns-clause-parts c =
    handed c.push_items.result c.push_items.new.self c.and.result _ c.and.ensures
    (then_ok c.push_items.result
    (λ label. ap (λ (l : NameLabel). l.parts) label ∙ ap (λ (n : PlainNameNode). n.label.parts) c.bare-root.ensures) c.push_items.ensures.label)
