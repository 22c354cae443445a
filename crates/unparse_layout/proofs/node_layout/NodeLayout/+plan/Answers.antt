-- A line below a node's first one is that of the elision, one of a node inside, or the last: the kept heights say
-- which, and the line's number within the node inside is what is left of the number there, less the line before that
-- node.
use Rattle.std.specs.Prelude.{◌≡◌, ◌+◌, ◌-◌, ◌<◌, codes, ◌∷◌, true, false, Some, is_some, length, slice_get}
use Rattle.std.proofs.Common.{arith, ap, sym, ◌∙◌}
use Rattle.std.proofs.lemmas.List.{length-map}
use Rattle.plcs_grammar.specs.Template.{row_of}
use Rattle.template_tree.specs.Programs.PlainTree.{nodes}
use Rattle.unparse_layout.specs.declared.line.LineKind.{LineKind}
use Rattle.unparse_layout.specs.OwnedLine.{partless_line, table_line}
use Rattle.unparse_layout.specs.Private.PlainNodeLayout.{PlainNodeLayout, node_layouts, node_layouts_bones}
use Rattle.unparse_layout.specs.Private.Height.{height, one_if}
use Rattle.unparse_layout.specs.Private.ItemLines.{lead_at}
use Rattle.unparse_layout.proofs.Heights.{byte_is_one_if, item_few, nodes_few}
use Rattle.unparse_layout.proofs.PlanLines.{child_led, child_line, elided_below, item_shallow, last_below, lead_of_child, led_again, number_within, own_of_child, past_where_none, plan_elided, plan_numbers}
use Rattle.unparse_layout.proofs.node_layout.NodeLayout.+plan.Goals as goal

pub returns-then-self : goal.returns-then-self
returns-then-self t c =
    let node = c.args.node.now in
    let level = c.args.level in
    let hidden = plan_elided c.self.inside c.args.self.now node true c.self.view_is c.requires.agrees c.if-self.true in
    c.elided_plan.ensures
    ∙ ap (λ (s : PlainNodeLayout). slice_get (partless_line s.bone.slot LineKind.Elision (level + 1) (codes "...") ∷ table_line s.bone.slot LineKind.Last level (row_of s.bone.kind).last) (c.args.at - 1)) c.requires.agrees
    ∙ elided_below level node c.args.at hidden (omega arith)

pub returns-in_default : goal.returns-in_default
returns-in_default t c =
    let node = c.args.node.now in
    let level = c.args.level in
    let shown = plan_elided c.self.inside c.args.self.now node false c.self.view_is c.requires.agrees c.if-self.false in
    let same = plan_numbers c.self.inside c.args.self.now node c.self.view_is c.self.invariant c.requires.agrees in
    c.last_plan.ensures
    ∙ ap (λ (s : PlainNodeLayout). slice_get (table_line s.bone.slot LineKind.Last level (row_of s.bone.kind).last) (c.args.at - 1 - c.total.result)) c.requires.agrees
    ∙ last_below level node c.args.at c.total.result c.self.inside.heights.numbers shown (omega arith) same c.total.ensures.total c.in_default.ensures

pub returns-in_default-get : goal.returns-in_default-get
returns-in_default-get t c =
    let past = past_where_none c.self.inside.inner.items c.in-Some.position.index (sym c.in_default-get.ensures) in
    let many : length c.self.inside.heights.numbers ≡ length c.self.inside.inner.items =
    ap length c.self.invariant.heights ∙ length-map c.self.inside.inner.items height in
    let inside : c.in-Some.position.index < length c.self.inside.heights.numbers = c.in-Some.ensures.0 in
    absurd (omega (arith, past, many, inside))

pub overflow_cast-position : goal.overflow_cast-position
overflow_cast-position t c =
    let node = c.args.node.now in
    let same = plan_numbers c.self.inside c.args.self.now node c.self.view_is c.self.invariant c.requires.agrees in
    let within = number_within c.self.inside.heights.numbers node.inner (row_of node.label.kind).sections c.in-Some.position.index same c.in-Some.ensures.0 in
    omega (arith, within, nodes_few node.inner, c.requires.few)

pub returns-in_default-child : goal.returns-in_default-child
returns-in_default-child t c =
    let node = c.args.node.now in
    let same = plan_numbers c.self.inside c.args.self.now node c.self.view_is c.self.invariant c.requires.agrees in
    let within = number_within c.self.inside.heights.numbers node.inner (row_of node.label.kind).sections c.in-Some.position.index same c.in-Some.ensures.0 in
    let past = past_where_none (nodes node.inner) c.in-Some.position.index (sym c.in_default-child.ensures) in
    absurd (omega (arith, within, past))

pub overflow_cast-position-then-position-lead : goal.overflow_cast-position-then-position-lead
overflow_cast-position-then-position-lead t c =
    let node = c.args.node.now in
    let same = plan_numbers c.self.inside c.args.self.now node c.self.view_is c.self.invariant c.requires.agrees in
    let within = number_within c.self.inside.heights.numbers node.inner (row_of node.label.kind).sections c.in-Some.position.index same c.in-Some.ensures.0 in
    omega (arith, within, nodes_few node.inner, c.requires.few)

pub returns-then-position-lead : goal.returns-then-position-lead
returns-then-position-lead t c =
    let node = c.args.node.now in
    let child = c.in-Some-child.child.now in
    let level = c.args.level in
    let i = c.in-Some.position.index in
    let shown = plan_elided c.self.inside c.args.self.now node false c.self.view_is c.requires.agrees c.if-self.false in
    let same = plan_numbers c.self.inside c.args.self.now node c.self.view_is c.self.invariant c.requires.agrees in
    let there : slice_get (nodes node.inner) i ≡ Some child = sym c.in-Some-child.ensures in
    let kept : slice_get (node_layouts c.args.self.now.inner) i ≡ Some c.in-Some-get.item.now =
    sym (ap (λ (o : PlainNodeLayout). slice_get (node_layouts o.inner) i) c.self.view_is) ∙ ap (λ xs. slice_get xs i) (node_layouts_bones c.self.inside.inner.items) ∙ sym c.in-Some-get.ensures in
    let item = child_led c.args.self.now c.in-Some-get.item.now c.args.self.now.bone.led node child i c.requires.agrees kept there in
    let led : c.from-lead.result ≡ one_if (is_some (lead_at (row_of node.label.kind).sections node.inner i)) =
    c.from-lead.ensures ∙ byte_is_one_if c.item.inside.led
    ∙ ap one_if (ap (λ (o : PlainNodeLayout). o.bone.led) c.item.view_is ∙ ap (λ (o : PlainNodeLayout). o.bone.led) item) in
    let line = child_line level node c.args.at i c.in-Some.position.rest child c.self.inside.heights.numbers shown (omega arith) same there c.in-Some.ensures.0 c.in-Some.ensures.1 c.in-Some.ensures.2 in
    c.fixed.ensures
    ∙ ap (λ lead. slice_get (table_line c.self.inside.slot.0 LineKind.Lead level lead) 0) c.lead_before.ensures
    ∙ ap (λ (o : PlainNodeLayout). slice_get (table_line o.bone.slot LineKind.Lead level (lead_at (row_of node.label.kind).sections node.inner i)) 0) (c.self.view_is ∙ c.requires.agrees)
    ∙ lead_of_child level node c.args.at i c.in-Some.position.rest child line (omega (arith, led, c.if-position-lead.true))

pub plan-requires : goal.plan-requires
plan-requires t c =
    let node = c.args.node.now in
    let child = c.in-Some-child.child.now in
    let i = c.in-Some.position.index in
    let there : slice_get (nodes node.inner) i ≡ Some child = sym c.in-Some-child.ensures in
    let kept : slice_get (node_layouts c.args.self.now.inner) i ≡ Some c.in-Some-get.item.now =
    sym (ap (λ (o : PlainNodeLayout). slice_get (node_layouts o.inner) i) c.self.view_is) ∙ ap (λ xs. slice_get xs i) (node_layouts_bones c.self.inside.inner.items) ∙ sym c.in-Some-get.ensures in
    let item = child_led c.args.self.now c.in-Some-get.item.now c.args.self.now.bone.led node child i c.requires.agrees kept there in
    let few = item_few node.inner i child there in
    let shallow = item_shallow node.inner i child there in (
      omega (arith, few),
      (
        led_again c.in-Some-get.item.now (is_some (lead_at (row_of node.label.kind).sections node.inner i)) child item,
        (omega (arith, few, c.requires.few), omega (arith, shallow, c.requires.shallow)),
      ),
    )

pub returns : goal.returns
returns t c =
    let node = c.args.node.now in
    let child = c.in-Some-child.child.now in
    let level = c.args.level in
    let i = c.in-Some.position.index in
    let shown = plan_elided c.self.inside c.args.self.now node false c.self.view_is c.requires.agrees c.if-self.false in
    let same = plan_numbers c.self.inside c.args.self.now node c.self.view_is c.self.invariant c.requires.agrees in
    let there : slice_get (nodes node.inner) i ≡ Some child = sym c.in-Some-child.ensures in
    let kept : slice_get (node_layouts c.args.self.now.inner) i ≡ Some c.in-Some-get.item.now =
    sym (ap (λ (o : PlainNodeLayout). slice_get (node_layouts o.inner) i) c.self.view_is) ∙ ap (λ xs. slice_get xs i) (node_layouts_bones c.self.inside.inner.items) ∙ sym c.in-Some-get.ensures in
    let item = child_led c.args.self.now c.in-Some-get.item.now c.args.self.now.bone.led node child i c.requires.agrees kept there in
    let led : c.from-lead.result ≡ one_if (is_some (lead_at (row_of node.label.kind).sections node.inner i)) =
    c.from-lead.ensures ∙ byte_is_one_if c.item.inside.led
    ∙ ap one_if (ap (λ (o : PlainNodeLayout). o.bone.led) c.item.view_is ∙ ap (λ (o : PlainNodeLayout). o.bone.led) item) in
    let line = child_line level node c.args.at i c.in-Some.position.rest child c.self.inside.heights.numbers shown (omega arith) same there c.in-Some.ensures.0 c.in-Some.ensures.1 c.in-Some.ensures.2 in
    c.plan.ensures ∙ own_of_child level node c.args.at i c.in-Some.position.rest child c.from-lead.result line led c.if-position-lead.false
