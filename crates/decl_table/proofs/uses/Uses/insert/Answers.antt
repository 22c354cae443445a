use Rattle.std.proofs.Common.{◌∙◌, Some, cond, ap}
use Rattle.std.specs.Prelude.{bytes_eq}
use Rattle.std.specs.Map.{lookup}
use Rattle.decl_table.specs.Private.UsesView.{RoomyUses}
use Rattle.decl_table.proofs.uses.Uses.insert.Goals as goal

pub returns : goal.returns
returns c =
    let name = c.args.name.now in
    let places = c.args.places in
    λ other.
    c.in_ok-insert.ensures.updates.0 other
    ∙ ap (λ key. cond (bytes_eq key other) (Some places) (lookup (bytes_eq other) c.self.inside.places.entries)) c.copy.ensures
    ∙ ap (λ (all : RoomyUses). cond (bytes_eq name other) (Some places) (lookup (bytes_eq other) all.uses)) c.self.view_is
