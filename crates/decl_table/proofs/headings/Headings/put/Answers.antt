use Rattle.std.proofs.Common.{◌∙◌, Some, cond, ap}
use Rattle.std.specs.Prelude.{bytes_eq}
use Rattle.decl_table.specs.PlainDecls.{slot_of}
use Rattle.decl_table.specs.Private.DeclsView.{RoomyHeadings}
use Rattle.decl_table.proofs.headings.Headings.put.Goals as goal

pub returns : goal.returns
returns c =
    λ other.
    c.in_ok-insert.ensures.updates.0 other
    ∙ ap (λ (all : RoomyHeadings). cond (bytes_eq c.args.name other) (Some c.args.slot.0) (slot_of other all.headings)) c.self.view_is
