-- The heights that are kept are those of the program's items, so the item that holds the line of this number, and which
-- of its own lines it is, are found by them. Past the last item there is no line; a number that was found has its item.
use Rattle.std.specs.Prelude.{◌≡◌, ◌<◌, Some, None, is_some, length, map, slice_get}
use Rattle.std.proofs.Common.{arith, ap, sym, ◌∙◌}
use Rattle.std.proofs.lemmas.List.{length-map}
use Rattle.plcs_grammar.specs.Template.{program_sections}
use Rattle.template_tree.specs.Programs.PlainTree.{nodes}
use Rattle.unparse_layout.specs.Bones.{bones_of}
use Rattle.unparse_layout.specs.Private.PlainNodeLayout.{PlainNodeLayout, node_layouts, node_layouts_bones}
use Rattle.unparse_layout.specs.Private.Height.{height}
use Rattle.unparse_layout.specs.Private.ItemLines.{lead_at}
use Rattle.unparse_layout.proofs.FoundLines.{item_kept, no_line}
use Rattle.unparse_layout.proofs.Heights.{nodes_few}
use Rattle.unparse_layout.proofs.Opened.{numbers_are}
use Rattle.unparse_layout.proofs.RoomlessLines.{program_roomless}
use Rattle.unparse_layout.proofs.PlanLines.{at_one, item_shallow, led_again, number_within, past_where_none, program_line}
use Rattle.unparse_layout.proofs.node_layout.NodeLayout.plan_of.Goals as goal

pub returns-in_default : goal.returns-in_default
returns-in_default c =
    let same = numbers_are c.self.inside c.args.self.now c.self.view_is c.self.invariant ∙ ap (λ b. map height (node_layouts b)) c.requires.agrees in
    sym (ap (λ lines. slice_get lines c.args.k) (program_roomless c.args.tree.now.items)
    ∙ no_line c.args.tree.now.items program_sections 0 0 c.args.k (rw (← same) c.in_default.ensures))

pub returns-in_default-get : goal.returns-in_default-get
returns-in_default-get c =
    let past = past_where_none c.self.inside.inner.items c.in-Some.position.index (sym c.in_default-get.ensures) in
    let many : length c.self.inside.heights.numbers ≡ length c.self.inside.inner.items =
    ap length c.self.invariant.heights ∙ length-map c.self.inside.inner.items height in
    let inside : c.in-Some.position.index < length c.self.inside.heights.numbers = c.in-Some.ensures.0 in
    absurd (omega (arith, past, many, inside))

pub overflow_cast-position : goal.overflow_cast-position
overflow_cast-position c =
    let same = numbers_are c.self.inside c.args.self.now c.self.view_is c.self.invariant ∙ ap (λ b. map height (node_layouts b)) c.requires.agrees in
    let within = number_within c.self.inside.heights.numbers c.args.tree.now.items program_sections c.in-Some.position.index same c.in-Some.ensures.0 in
    omega (arith, within, nodes_few c.args.tree.now.items, c.requires.tree.few)

pub returns-in_default-node : goal.returns-in_default-node
returns-in_default-node c =
    let same = numbers_are c.self.inside c.args.self.now c.self.view_is c.self.invariant ∙ ap (λ b. map height (node_layouts b)) c.requires.agrees in
    let within = number_within c.self.inside.heights.numbers c.args.tree.now.items program_sections c.in-Some.position.index same c.in-Some.ensures.0 in
    let none : slice_get (nodes c.args.tree.now.items) c.in-Some.position.index ≡ None =
    sym (at_one c.args.tree.now.items c.path_of_item.result.items c.in-Some.position.index c.path_of_item.ensures) ∙ sym c.in_default-node.ensures.found in
    let past = past_where_none (nodes c.args.tree.now.items) c.in-Some.position.index none in
    absurd (omega (arith, within, past))

pub plan-requires-clause-agrees : goal.plan-requires-clause-agrees
plan-requires-clause-agrees c =
    let i = c.in-Some.position.index in
    let node = c.in-Some-node.node.now in
    let there : slice_get (nodes c.args.tree.now.items) i ≡ Some node =
    sym (at_one c.args.tree.now.items c.path_of_item.result.items i c.path_of_item.ensures) ∙ sym c.in-Some-node.ensures.found in
    let kept : slice_get (node_layouts (bones_of program_sections c.args.tree.now.items)) i ≡ Some c.in-Some-get.item.now =
    sym (ap (λ (o : PlainNodeLayout). slice_get (node_layouts o.inner) i) c.self.view_is ∙ ap (λ b. slice_get (node_layouts b) i) c.requires.agrees)
    ∙ ap (λ xs. slice_get xs i) (node_layouts_bones c.self.inside.inner.items) ∙ sym c.in-Some-get.ensures in
    led_again c.in-Some-get.item.now (is_some (lead_at program_sections c.args.tree.now.items i)) node
    (item_kept c.args.tree.now.items program_sections i c.in-Some-get.item.now node kept there)

pub plan-requires-clause-shallow : goal.plan-requires-clause-shallow
plan-requires-clause-shallow c =
    let i = c.in-Some.position.index in
    let node = c.in-Some-node.node.now in
    let there : slice_get (nodes c.args.tree.now.items) i ≡ Some node =
    sym (at_one c.args.tree.now.items c.path_of_item.result.items i c.path_of_item.ensures) ∙ sym c.in-Some-node.ensures.found in
    omega (arith, item_shallow c.args.tree.now.items i node there, c.requires.tree.shallow)

pub returns : goal.returns
returns c =
    let i = c.in-Some.position.index in
    let node = c.in-Some-node.node.now in
    let same = numbers_are c.self.inside c.args.self.now c.self.view_is c.self.invariant ∙ ap (λ b. map height (node_layouts b)) c.requires.agrees in
    let there : slice_get (nodes c.args.tree.now.items) i ≡ Some node =
    sym (at_one c.args.tree.now.items c.path_of_item.result.items i c.path_of_item.ensures) ∙ sym c.in-Some-node.ensures.found in
    c.plan.ensures
    ∙ program_line c.args.tree.now.items c.args.k i c.in-Some.position.rest node c.self.inside.heights.numbers same there c.in-Some.ensures.1 c.in-Some.ensures.2
    ∙ ap (λ lines. slice_get lines c.args.k) (sym (program_roomless c.args.tree.now.items))
