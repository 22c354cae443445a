use Rattle.std.proofs.Common.{ap, sym, ◌∙◌}
use Rattle.template_tree.specs.declared.change.What.{What}
use Rattle.decl_table.specs.Private.ItemChangeView.{drops_item}
use Rattle.decl_table.proofs.LeftItems.{dropped_whole}
use Rattle.decl_table.proofs.preparation.is_item_dropped.Goals as goal

pub returns-in-Dropped : goal.returns-in-Dropped
returns-in-Dropped c =
    c.is_empty.ensures ∙ dropped_whole c.args.path.now ∙ ap (λ (w : What). drops_item w c.args.path.now) (sym c.in-Dropped.is)
