-- Before a node inside stand the lines of the nodes before it and perhaps a line of its own, as the kept heights and
-- `led` say. All of it fits 32 bits, since no node has more than four lines.
use Rattle.std.specs.Prelude.{◌≡◌, ◌+◌, Some, None, map, sum, take, slice_get}
use Rattle.std.proofs.Common.{arith, ap, sym, ◌∙◌}
use Rattle.unparse_layout.specs.Private.PlainNodeLayout.{PlainNodeLayout, node_layouts}
use Rattle.unparse_layout.specs.Private.Height.{height, one_if}
use Rattle.unparse_layout.proofs.Heights.{byte_is_one_if, one_if_le, node_layout_few}
use Rattle.unparse_layout.proofs.Opened.{found_again, numbers_are}
use Rattle.unparse_layout.proofs.StopLines.{before_le, lines_before_end, lines_before_le, lines_before_none, lines_before_step}
use Rattle.unparse_layout.proofs.node_layout.NodeLayout.+lines_before.Goals as goal

pub returns-in_default : goal.returns-in_default
returns-in_default t c =
    let none : slice_get (node_layouts c.args.self.now.inner) c.args.k ≡ None = found_again c.self.inside c.args.self.now c.args.k c.self.view_is ∙ sym c.in_default.ensures in
    c.before-before.ensures
    ∙ ap (λ ns. sum (take c.args.k ns)) (numbers_are c.self.inside c.args.self.now c.self.view_is c.self.invariant)
    ∙ lines_before_none c.args.self.now.inner c.args.k c.args.rest.now none

pub overflow_add-first : goal.overflow_add-first
overflow_add-first t c =
    let item = c.in-Some.item.now in
    let there : slice_get (node_layouts c.args.self.now.inner) c.args.k ≡ Some item = found_again c.self.inside c.args.self.now c.args.k c.self.view_is ∙ sym c.in-Some.ensures in
    let before : c.before-before.result ≡ sum (take c.args.k (map height (node_layouts c.args.self.now.inner))) =
    c.before-before.ensures ∙ ap (λ ns. sum (take c.args.k ns)) (numbers_are c.self.inside c.args.self.now c.self.view_is c.self.invariant) in
    let led : c.from.result ≡ one_if item.bone.led = c.from.ensures ∙ byte_is_one_if c.item.inside.led ∙ ap (λ (o : PlainNodeLayout). one_if o.bone.led) c.item.view_is in
    omega (arith, before, led, one_if_le item.bone.led, before_le c.args.self.now.inner c.args.k item there, c.requires.few)

pub returns-in_default-split_first : goal.returns-in_default-split_first
returns-in_default-split_first t c =
    let item = c.in-Some.item.now in
    let there : slice_get (node_layouts c.args.self.now.inner) c.args.k ≡ Some item = found_again c.self.inside c.args.self.now c.args.k c.self.view_is ∙ sym c.in-Some.ensures in
    let before : c.before-before.result ≡ sum (take c.args.k (map height (node_layouts c.args.self.now.inner))) =
    c.before-before.ensures ∙ ap (λ ns. sum (take c.args.k ns)) (numbers_are c.self.inside c.args.self.now c.self.view_is c.self.invariant) in
    let led : c.from.result ≡ one_if item.bone.led = c.from.ensures ∙ byte_is_one_if c.item.inside.led ∙ ap (λ (o : PlainNodeLayout). one_if o.bone.led) c.item.view_is in
    ap (λ n. n + c.from.result) before ∙ ap (λ n. sum (take c.args.k (map height (node_layouts c.args.self.now.inner))) + n) led
    ∙ lines_before_end c.args.self.now.inner c.args.k c.args.rest.now item there c.in_default-split_first.ensures.cases

pub overflow_add-result : goal.overflow_add-result
overflow_add-result t c =
    let item = c.in-Some.item.now in
    let there : slice_get (node_layouts c.args.self.now.inner) c.args.k ≡ Some item = found_again c.self.inside c.args.self.now c.args.k c.self.view_is ∙ sym c.in-Some.ensures in
    let before : c.before-before.result ≡ sum (take c.args.k (map height (node_layouts c.args.self.now.inner))) =
    c.before-before.ensures ∙ ap (λ ns. sum (take c.args.k ns)) (numbers_are c.self.inside c.args.self.now c.self.view_is c.self.invariant) in
    let led : c.from.result ≡ one_if item.bone.led = c.from.ensures ∙ byte_is_one_if c.item.inside.led ∙ ap (λ (o : PlainNodeLayout). one_if o.bone.led) c.item.view_is in
    omega (arith, before, led, one_if_le item.bone.led, before_le c.args.self.now.inner c.args.k item there, c.requires.few)

pub lines_before-requires : goal.lines_before-requires
lines_before-requires t c =
    let item = c.in-Some.item.now in
    let there : slice_get (node_layouts c.args.self.now.inner) c.args.k ≡ Some item = found_again c.self.inside c.args.self.now c.args.k c.self.view_is ∙ sym c.in-Some.ensures in
    (omega (arith, c.in-Some-split_first.ensures.cases.1), omega (arith, node_layout_few c.args.self.now.inner c.args.k item there, c.requires.few))

pub overflow_add-result-2 : goal.overflow_add-result-2
overflow_add-result-2 t c =
    let item = c.in-Some.item.now in
    let there : slice_get (node_layouts c.args.self.now.inner) c.args.k ≡ Some item = found_again c.self.inside c.args.self.now c.args.k c.self.view_is ∙ sym c.in-Some.ensures in
    let before : c.before-before.result ≡ sum (take c.args.k (map height (node_layouts c.args.self.now.inner))) =
    c.before-before.ensures ∙ ap (λ ns. sum (take c.args.k ns)) (numbers_are c.self.inside c.args.self.now c.self.view_is c.self.invariant) in
    let led : c.from.result ≡ one_if item.bone.led = c.from.ensures ∙ byte_is_one_if c.item.inside.led ∙ ap (λ (o : PlainNodeLayout). one_if o.bone.led) c.item.view_is in
    omega (arith, before, led, one_if_le item.bone.led, before_le c.args.self.now.inner c.args.k item there, c.requires.few, c.lines_before.ensures, lines_before_le c.in-Some-split_first.others.now item.inner c.in-Some-split_first.next.now)

pub returns : goal.returns
returns t c =
    let item = c.in-Some.item.now in
    let there : slice_get (node_layouts c.args.self.now.inner) c.args.k ≡ Some item = found_again c.self.inside c.args.self.now c.args.k c.self.view_is ∙ sym c.in-Some.ensures in
    let before : c.before-before.result ≡ sum (take c.args.k (map height (node_layouts c.args.self.now.inner))) =
    c.before-before.ensures ∙ ap (λ ns. sum (take c.args.k ns)) (numbers_are c.self.inside c.args.self.now c.self.view_is c.self.invariant) in
    let led : c.from.result ≡ one_if item.bone.led = c.from.ensures ∙ byte_is_one_if c.item.inside.led ∙ ap (λ (o : PlainNodeLayout). one_if o.bone.led) c.item.view_is in
    let step = lines_before_step c.args.self.now.inner c.args.k c.in-Some-split_first.next.now c.args.rest.now c.in-Some-split_first.others.now item there c.in-Some-split_first.ensures.cases.0 in
    (λ i. before i + led i + 1 + c.lines_before.ensures i) ∙ step
