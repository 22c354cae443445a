use Rattle.std.specs.Prelude.{◌≡◌, length}
use Rattle.std.proofs.Common.{arith, ap, sym, ◌∙◌}
use Rattle.plcs_grammar.specs.Template.{program_sections}
use Rattle.template_tree.specs.Programs.PlainTree.{roomless}
use Rattle.template_tree.specs.Positions.Stop.{plain_stop}
use Rattle.unparse_layout.specs.Bones.{PlainLayout, bones_of, bone_count}
use Rattle.unparse_layout.specs.Private.ItemLines.{lines_before}
use Rattle.unparse_layout.proofs.Heights.{count_bones, heights_le}
use Rattle.unparse_layout.proofs.ListedLines.{line_of_stop, path_of_stop}
use Rattle.unparse_layout.proofs.RoomlessLines.{bones_roomless}
use Rattle.unparse_layout.proofs.StopLines.{shown_length}
use Rattle.unparse_layout.proofs.layout.Layout.line_of.Goals as goal

-- a stop has a path
pub unreachable-requires : goal.unreachable-requires
unreachable-requires g c =
    path_of_stop (roomless c.args.tree.now.items) (plain_stop c.args.stop.now) (ap length (sym c.deref.ensures.0) ∙ c.in_default.ensures.cases) c.requires.stop

pub lines_before-requires : goal.lines_before-requires
lines_before-requires g c =
    let same : bone_count c.self.inside.root.inner ≡ bone_count (bones_of program_sections c.args.tree.now.items) = ap bone_count (c.self.view_is ∙ c.requires.agrees) in
    record { few = omega (arith, same, count_bones program_sections c.args.tree.now.items, c.requires.tree.few) }

pub returns-clause-line : goal.returns-clause-line
returns-clause-line g c =
    let items = roomless c.args.tree.now.items in
    let all = line_of_stop items (plain_stop c.args.stop.now) c.in-Some.k.now c.in-Some.rest.now (sym c.deref.ensures.0 ∙ c.in-Some.ensures.cases.0) c.requires.stop in
    c.lines_before.ensures
    ∙ ap (λ (b : PlainLayout). lines_before b c.in-Some.k.now c.in-Some.rest.now)
    (c.self.view_is ∙ c.requires.agrees ∙ sym (bones_roomless program_sections c.args.tree.now.items))
    ∙ all.is

pub returns-clause-below : goal.returns-clause-below
returns-clause-below g c =
    let items = roomless c.args.tree.now.items in
    let all = line_of_stop items (plain_stop c.args.stop.now) c.in-Some.k.now c.in-Some.rest.now (sym c.deref.ensures.0 ∙ c.in-Some.ensures.cases.0) c.requires.stop in
    let same : lines_before (bones_of program_sections items) c.in-Some.k.now c.in-Some.rest.now ≡ c.lines_before.result =
    sym (c.lines_before.ensures
    ∙ ap (λ (b : PlainLayout). lines_before b c.in-Some.k.now c.in-Some.rest.now)
    (c.self.view_is ∙ c.requires.agrees ∙ sym (bones_roomless program_sections c.args.tree.now.items))) in
    omega (arith, all.within, same, shown_length items)

pub returns-clause-few : goal.returns-clause-few
returns-clause-few g c =
    let items = roomless c.args.tree.now.items in
    let all = line_of_stop items (plain_stop c.args.stop.now) c.in-Some.k.now c.in-Some.rest.now (sym c.deref.ensures.0 ∙ c.in-Some.ensures.cases.0) c.requires.stop in
    let kept = sym (bones_roomless program_sections c.args.tree.now.items) in
    let same : lines_before (bones_of program_sections items) c.in-Some.k.now c.in-Some.rest.now ≡ c.lines_before.result =
    sym (c.lines_before.ensures
    ∙ ap (λ (b : PlainLayout). lines_before b c.in-Some.k.now c.in-Some.rest.now)
    (c.self.view_is ∙ c.requires.agrees ∙ kept)) in
    let count : bone_count (bones_of program_sections c.args.tree.now.items) ≡ bone_count (bones_of program_sections items) = ap bone_count kept in
    omega (arith, all.within, same, count, heights_le (bones_of program_sections items), count_bones program_sections c.args.tree.now.items, c.requires.tree.few)
