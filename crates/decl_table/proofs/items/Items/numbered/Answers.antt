use Rattle.std.proofs.Common.{◌∙◌, Some, option_map, sym, ap}
use Rattle.std.proofs.lemmas.Option.{slice_get-map}
use Rattle.decl_table.specs.Private.ItemsView.{shaped}
use Rattle.decl_table.proofs.items.Items.numbered.Goals as goal

pub returns : goal.returns
returns c =
    rw (← c.self.view_is)
    (ap Some c.declared.ensures
    ∙ sym (slice_get-map (λ entry. shaped entry.0 entry.1) c.self.inside.shapes.entries c.args.k
    ∙ ap (option_map (λ entry. shaped entry.0 entry.1)) (sym c.in-Some.ensures.entry)))
