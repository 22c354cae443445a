use Rattle.std.proofs.Common.{◌≡◌, ◌∙◌, Bor, Option, Some, None, ap, refl}
use Rattle.std.specs.Prelude.{bytes_eq, find, option_map}
use Rattle.std.specs.Map.{lookup}
use Rattle.plcs_base.specs.declared.place.Slot.{Slot}
use Rattle.decl_table.specs.declared.heading_changes.HeadingChange.{HeadingChange}
use Rattle.decl_table.proofs.NotedHeadings.{found_change}
use Rattle.decl_table.proofs.heading_changes.HeadingChanges.change.Goals as goal

seen : (o : Option (Bor HeadingChange)) → option_map (λ (change : Bor HeadingChange). option_map (λ (slot : Slot). slot.0) change.now.slot) o
    ≡ option_map (λ (change : HeadingChange). option_map (λ (slot : Slot). slot.0) change.slot) (option_map (λ (change : Bor HeadingChange). change.now) o)
seen None = refl
seen (Some change) = refl

pub returns : goal.returns
returns c =
    let name = c.args.name.now in
    seen c.named.result
    ∙ found_change name c.self.inside.list.items (option_map (λ (change : Bor HeadingChange). change.now) c.named.result)
    (c.named.ensures ∙ ap (find (λ (change : HeadingChange). bytes_eq name change.name)) c.as_slice.ensures.value)
    ∙ ap (lookup (bytes_eq name)) c.self.view_is
