use Rattle.std.proofs.Common.{◌∙◌, Some, [], ◌∷◌, cond, sym, ap, refl, subst}
use Rattle.std.specs.Prelude.{bytes_eq, unwrap_or, IsSome}
use Rattle.std.specs.Map.{lookup}
use Rattle.decl_table.specs.Private.UsesView.{AddsUnderNames, RoomyUses}
use Rattle.decl_table.proofs.AddedUses.{noted}
use Rattle.decl_table.proofs.uses.Uses.note.Goals as goal

pub returns-in-Some : goal.returns-in-Some
returns-in-Some c =
    let old = c.self.inside.places.entries in
    let key = c.args.name.now in
    let new = (c.get_mut.follows.lender c.push.new.self).entries in
    let through = c.get_mut.follows.holds c.push.new.self in
    let held = c.in-Some.ensures.value in
    subst (λ (all : RoomyUses). AddsUnderNames (key ∷ []) c.args.at all.uses new) c.self.view_is
    (noted key c.args.at c.in-Some.places.now old new
    (ap (λ o. unwrap_or o []) (sym held))
    (λ name. (through.3 (subst IsSome held refl)).0 name
    ∙ ap (λ p. cond (bytes_eq key name) (Some p) (lookup (bytes_eq name) old)) c.in_ok-push.ensures))

pub returns : goal.returns
returns c =
    let old = c.self.inside.places.entries in
    let key = c.args.name.now in
    subst (λ (all : RoomyUses). AddsUnderNames (key ∷ []) c.args.at all.uses c.insert.new.self.entries) c.self.view_is
    (noted key c.args.at [] old c.insert.new.self.entries
    (ap (λ o. unwrap_or o []) (sym c.in_default.ensures.value))
    (λ name. c.in_ok-insert.ensures.updates.0 name
    ∙ ap (λ m. cond (bytes_eq c.copy.result name) (Some c.in_ok-places.places) (lookup (bytes_eq name) m.entries)) c.get_mut.follows.holds-at-none
    ∙ ap (λ k. cond (bytes_eq k name) (Some c.in_ok-places.places) (lookup (bytes_eq name) old)) c.copy.ensures
    ∙ ap (λ p. cond (bytes_eq key name) (Some p) (lookup (bytes_eq name) old)) c.in_ok-places.ensures))
