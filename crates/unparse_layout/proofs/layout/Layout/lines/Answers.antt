use Rattle.std.specs.Prelude.{◌≡◌}
use Rattle.std.proofs.Common.{arith, ap, sym, ◌∙◌}
use Rattle.plcs_grammar.specs.Template.{program_sections}
use Rattle.template_tree.specs.Programs.PlainTree.{roomless}
use Rattle.unparse_layout.specs.Bones.{bones_of}
use Rattle.unparse_layout.specs.Private.Height.{heights}
use Rattle.unparse_layout.proofs.Heights.{count_bones, heights_le}
use Rattle.unparse_layout.proofs.RoomlessLines.{bones_roomless}
use Rattle.unparse_layout.proofs.StopLines.{shown_length}
use Rattle.unparse_layout.proofs.layout.Layout.lines.Goals as goal

pub returns-clause-lines : goal.returns-clause-lines
returns-clause-lines g c =
    λ tree agrees.
    c.lines_inside.ensures ∙ ap heights c.self.view_is ∙ ap heights (agrees ∙ sym (bones_roomless program_sections tree.items))
    ∙ shown_length (roomless tree.items)

pub returns-clause-few : goal.returns-clause-few
returns-clause-few g c =
    λ tree agrees is_tree.
    let same : c.lines_inside.result ≡ heights (bones_of program_sections tree.items) =
    c.lines_inside.ensures ∙ ap heights c.self.view_is ∙ ap heights agrees in
    omega (arith, same, heights_le (bones_of program_sections tree.items), count_bones program_sections tree.items, is_tree.few)
