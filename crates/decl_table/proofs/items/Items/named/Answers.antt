use Rattle.std.proofs.Common.{◌∙◌, Some, option_map, sym, ap}
use Rattle.decl_table.specs.Private.ItemsView.{shaped}
use Rattle.decl_table.proofs.ItemLists.{named}
use Rattle.decl_table.proofs.items.Items.named.Goals as goal

pub returns-in_default : goal.returns-in_default
returns-in_default c =
    rw (← c.self.view_is)
    (sym (named c.args.name.now c.self.inside.shapes.entries ∙ ap (option_map (shaped c.args.name.now)) (sym c.in_default.ensures.value)))

pub returns : goal.returns
returns c =
    rw (← c.self.view_is)
    (ap Some c.declared.ensures
    ∙ sym (named c.args.name.now c.self.inside.shapes.entries ∙ ap (option_map (shaped c.args.name.now)) (sym c.in-Some.ensures.value)))
