use Rattle.std.proofs.Common.{◌∙◌, cond, Some, option_map, refl, sym, ap}
use Rattle.std.specs.Prelude.{bytes_eq}
use Rattle.std.specs.Option.{option_or}
use Rattle.template_tree.specs.Checks.Environment.{Signature, heading_of, signature_for}
use Rattle.decl_table.specs.PlainDecls.{slot_of}
use Rattle.decl_table.specs.Private.DeclsView.{RoomyHeadings}
use Rattle.decl_table.proofs.TableMaps.{first, given}
use Rattle.decl_table.proofs.headings.Headings.take.Goals as goal

pub returns : goal.returns
returns c =
    let node = c.args.procedure.now in
    let key = c.in-Some.name.now in
    let old = c.self.inside.slots.entries in
    let called = sym c.may_be_called.ensures ∙ c.if-not-may_be_called.false in
    λ name.
    c.in_ok-insert.ensures.updates.0 name
    ∙ ap (λ k. cond (bytes_eq k name) (Some c.slot.result.0) (slot_of name old)) c.copy.ensures
    ∙ ap (λ s. cond (bytes_eq key name) (Some s) (slot_of name old)) c.slot.ensures
    ∙ first (bytes_eq key name) node.label.slot (slot_of name old)
    ∙ ap (λ o. option_or o (slot_of name old)) (sym (given node key (heading_of node.label.kind node.label.parts) refl c.in-Some.ensures called name))
    ∙ ap (λ (all : RoomyHeadings). option_or (option_map (λ (s : Signature). s.slot) (signature_for name node)) (slot_of name all.headings)) c.self.view_is
