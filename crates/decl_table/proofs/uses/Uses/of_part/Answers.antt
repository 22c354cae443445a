use Rattle.std.proofs.Common.{slice_get, subst}
use Rattle.std.specs.Option.{option_flatten}
use Rattle.template_tree.specs.Checks.Mention.{phrase_at}
use Rattle.decl_table.specs.PlainDecls.{PlainUses}
use Rattle.decl_table.specs.Private.PlainNameNode.{kept_mention}
use Rattle.decl_table.specs.Private.UsesView.{AddsPart}
use Rattle.decl_table.proofs.SettledUses.{settled_from}
use Rattle.decl_table.proofs.uses.Uses.of_part.Goals as goal

pub returns-in-Ok : goal.returns-in-Ok
returns-in-Ok c =
    let node = c.args.node.now in
    let part = c.args.part in
    settled_from (λ name. kept_mention name (phrase_at node.label.slot part) (option_flatten (slice_get node.label.parts part)))
    c.note_part.new.self.uses c.settle.new.self.uses
    (subst (λ (none : PlainUses). AddsPart node part none c.note_part.new.self.uses) c.new-uses.ensures c.in-Ok.ensures)
    c.settle.ensures
