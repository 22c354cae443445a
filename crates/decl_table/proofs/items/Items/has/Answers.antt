use Rattle.std.proofs.Common.{◌∙◌, List, is_some, ap}
use Rattle.plcs_base.specs.declared.declared.Declared.{Declared}
use Rattle.template_tree.specs.Checks.Environment.{item_named}
use Rattle.decl_table.proofs.ItemLists.{has_told}
use Rattle.decl_table.proofs.items.Items.has.Goals as goal

pub returns : goal.returns
returns c =
    c.contains_key.ensures
    ∙ has_told c.args.name.now c.self.inside.shapes.entries
    ∙ ap (λ (items : List Declared). is_some (item_named c.args.name.now items)) c.self.view_is
