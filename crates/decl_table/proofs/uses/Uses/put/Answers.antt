use Rattle.std.proofs.Common.{◌∙◌, [], cond, sym, ap, arith, true≢false}
use Rattle.std.specs.Prelude.{bytes_eq, unwrap_or}
use Rattle.std.specs.Map.{lookup}
use Rattle.decl_table.specs.PlainDecls.{mentions_of}
use Rattle.decl_table.specs.Private.UsesView.{RoomyUses}
use Rattle.decl_table.proofs.MendedUses.{nothing, put_none, put_some}
use Rattle.decl_table.proofs.uses.Uses.put.Goals as goal

pub returns-then-is_empty-clause-updates : goal.returns-then-is_empty-clause-updates
returns-then-is_empty-clause-updates c =
    let name = c.args.name in
    let list = c.args.list in
    λ other.
    ap (λ o. unwrap_or o []) (c.swap_remove.ensures.updates.0 other)
    ∙ put_none (bytes_eq name other) (lookup (bytes_eq other) c.self.inside.places.entries) list
    (nothing list (sym c.is_empty.ensures ∙ c.if-is_empty.true))
    ∙ ap (λ (all : RoomyUses). cond (bytes_eq name other) list (mentions_of other all.uses)) c.self.view_is

pub returns-then-is_empty-clause-room : goal.returns-then-is_empty-clause-room
returns-then-is_empty-clause-room c =
    omega (arith, ap (λ (all : RoomyUses). all.spare) c.self.view_is, c.swap_remove.ensures.room.0)

pub unreachable-requires : goal.unreachable-requires
unreachable-requires c =
    true≢false (sym (c.in-Err.ensures.succeeds (omega (arith, ap (λ (all : RoomyUses). all.spare) c.self.view_is, c.requires.room))))

pub returns-clause-updates : goal.returns-clause-updates
returns-clause-updates c =
    let name = c.args.name in
    let list = c.args.list in
    λ other.
    ap (λ o. unwrap_or o []) (c.in-Ok.ensures.updates.0 other)
    ∙ put_some (bytes_eq name other) (lookup (bytes_eq other) c.self.inside.places.entries) list
    ∙ ap (λ (all : RoomyUses). cond (bytes_eq name other) list (mentions_of other all.uses)) c.self.view_is

pub returns-clause-room : goal.returns-clause-room
returns-clause-room c =
    omega (arith, ap (λ (all : RoomyUses). all.spare) c.self.view_is, c.in-Ok.ensures.spare)
