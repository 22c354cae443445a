use Rattle.std.proofs.Common.{◌∙◌, Some, None, cond, option_map, sym, ap, arith, true≢false}
use Rattle.std.specs.Prelude.{bytes_eq}
use Rattle.decl_table.specs.PlainDecls.{slot_of}
use Rattle.decl_table.specs.Private.DeclsView.{RoomyHeadings}
use Rattle.decl_table.proofs.headings.Headings.put_change.Goals as goal

pub returns-in_default-clause-updates : goal.returns-in_default-clause-updates
returns-in_default-clause-updates c =
    let change = c.args.change in
    λ other.
    c.swap_remove.ensures.updates.0 other
    ∙ ap (λ (all : RoomyHeadings). cond (bytes_eq change.name other) None (slot_of other all.headings)) c.self.view_is
    ∙ ap (λ o. cond (bytes_eq change.name other) (option_map (λ slot. slot.0) o) (slot_of other c.args.self.now.headings)) (sym c.in_default.is)

pub returns-in_default-clause-room : goal.returns-in_default-clause-room
returns-in_default-clause-room c =
    omega (arith, ap (λ (all : RoomyHeadings). all.spare) c.self.view_is, c.swap_remove.ensures.room.0)

pub unreachable-requires : goal.unreachable-requires
unreachable-requires c =
    true≢false (sym (c.in-Err.ensures.succeeds (omega (arith, ap (λ (all : RoomyHeadings). all.spare) c.self.view_is, c.requires.room))))

pub returns-clause-updates : goal.returns-clause-updates
returns-clause-updates c =
    let change = c.args.change in
    λ other.
    c.in-Ok.ensures.updates.0 other
    ∙ ap (λ (all : RoomyHeadings). cond (bytes_eq change.name other) (Some c.in-Some.slot.0) (slot_of other all.headings)) c.self.view_is
    ∙ ap (λ o. cond (bytes_eq change.name other) (option_map (λ slot. slot.0) o) (slot_of other c.args.self.now.headings)) (sym c.in-Some.is)

pub returns-clause-room : goal.returns-clause-room
returns-clause-room c =
    omega (arith, ap (λ (all : RoomyHeadings). all.spare) c.self.view_is, c.in-Ok.ensures.spare)
