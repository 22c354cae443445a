use Rattle.std.proofs.Common.{subst}
use Rattle.decl_table.specs.PlainDecls.{PlainUses}
use Rattle.decl_table.specs.Private.PlainNameNode.{kept_mentions, node_names}
use Rattle.decl_table.specs.Private.UsesView.{AddsNodes}
use Rattle.decl_table.proofs.SettledUses.{settled_from}
use Rattle.decl_table.proofs.uses.Uses.of.Goals as goal

pub returns-in-Ok : goal.returns-in-Ok
returns-in-Ok c =
    let nodes = node_names c.args.node.now in
    settled_from (λ name. kept_mentions name nodes) c.note_node.new.self.uses c.settle.new.self.uses
    (subst (λ (none : PlainUses). AddsNodes nodes none c.note_node.new.self.uses) c.new-uses.ensures c.in-Ok.ensures)
    c.settle.ensures
