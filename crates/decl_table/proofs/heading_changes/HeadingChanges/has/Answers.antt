use Rattle.std.proofs.Common.{◌∙◌, List, ℕ, Option, is_some, ap}
use Rattle.std.specs.Prelude.{bytes_eq}
use Rattle.std.specs.List.{list_any}
use Rattle.std.specs.Map.{lookup}
use Rattle.decl_table.specs.declared.heading_changes.HeadingChange.{HeadingChange}
use Rattle.decl_table.proofs.NotedHeadings.{has_change}
use Rattle.decl_table.proofs.heading_changes.HeadingChanges.has.Goals as goal

pub returns : goal.returns
returns c =
    let name = c.args.name.now in
    c.is_among.ensures
    ∙ ap (list_any (λ (change : HeadingChange). bytes_eq name change.name)) c.as_slice.ensures.value
    ∙ has_change name c.self.inside.list.items
    ∙ ap (λ (all : List (List ℕ × Option ℕ)). is_some (lookup (bytes_eq name) all)) c.self.view_is
