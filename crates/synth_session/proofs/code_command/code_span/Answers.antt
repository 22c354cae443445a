use Rattle.std.proofs.Common.{length, ap, sym, ◌∙◌}
use Rattle.std.specs.FinMap.{get}
use Rattle.template_tree.specs.Positions.Stop.{plain_stop}
use Rattle.template_tree.specs.Programs.PlainTree.{roomless_tree}
use Rattle.plcs_code.specs.Gen.{PlainCode}
use Rattle.code_patch.specs.CodeForest.{told_code}
use Rattle.synth_session.specs.ProgramCode.{instrs_in}
use Rattle.synth_session.proofs.NodeCodes.{no_code, span_code, span_long, spanless_code}
use Rattle.synth_session.proofs.code_command.code_span.Goals as goal

-- The span of a slot holds the code of the node there: so its instructions are the node's own, and they are as many as
-- the span says. Where no node stands at the stop, or none that has a span, there are none.

pub returns-in_default-clause-span : goal.returns-in_default-clause-span
returns-in_default-clause-span g c =
    no_code c.room_is_not_shown.ensures.nodes c.args.program.now.tree (plain_stop c.args.stop.now) (rw c.in_default.is at c.node.ensures.found)

pub returns-in_default-clause-count : goal.returns-in_default-clause-count
returns-in_default-clause-count g c =
    ap length
    (no_code c.room_is_not_shown.ensures.nodes c.args.program.now.tree (plain_stop c.args.stop.now) (rw c.in_default.is at c.node.ensures.found))

pub returns-in-Some-span-clause-span : goal.returns-in-Some-span-clause-span
returns-in-Some-span-clause-span g c =
    let slot = c.in-Some.node.now.label.slot in
    let code : PlainCode = told_code c.args.program.now.dependents.code.items in
    ap (λ (code : PlainCode). instrs_in code c.in-Some-span.span) c.requires.code.tells
    ∙ span_code c.room_is_not_shown.ensures.nodes c.args.program.now.tree (plain_stop c.args.stop.now) c.in-Some.node.now
    (rw c.in-Some.is at c.node.ensures.found) c.in-Some-span.span
    (sym c.in-Some-span.is
    ∙ c.span.ensures
    ∙ ap (get code.spans) c.slot.ensures
    ∙ ap (λ (code : PlainCode). get code.spans slot) c.requires.code.tells)

pub returns-in-Some-span-clause-count : goal.returns-in-Some-span-clause-count
returns-in-Some-span-clause-count g c =
    let tree = c.args.program.now.tree in
    let slot = c.in-Some.node.now.label.slot in
    let code : PlainCode = told_code c.args.program.now.dependents.code.items in
    let there =
    sym c.in-Some-span.is
    ∙ c.span.ensures
    ∙ ap (get code.spans) c.slot.ensures
    ∙ ap (λ (code : PlainCode). get code.spans slot) c.requires.code.tells in
    sym
    (span_long c.spans_hold_code.ensures (roomless_tree tree) ((c.room_is_not_shown.ensures.trees tree).0 c.requires.agrees.tree) slot
    c.in-Some-span.span.0 c.in-Some-span.span.1 (sym there))
    ∙ ap length
    (span_code c.room_is_not_shown.ensures.nodes tree (plain_stop c.args.stop.now) c.in-Some.node.now (rw c.in-Some.is at c.node.ensures.found)
    c.in-Some-span.span there)

pub returns-in-None-clause-span : goal.returns-in-None-clause-span
returns-in-None-clause-span g c =
    let slot = c.in-Some.node.now.label.slot in
    let code : PlainCode = told_code c.args.program.now.dependents.code.items in
    spanless_code c.room_is_not_shown.ensures.nodes c.args.program.now.tree (plain_stop c.args.stop.now) c.in-Some.node.now
    (rw c.in-Some.is at c.node.ensures.found)
    (sym c.in-None.is
    ∙ c.span.ensures
    ∙ ap (get code.spans) c.slot.ensures
    ∙ ap (λ (code : PlainCode). get code.spans slot) c.requires.code.tells)

pub returns-in-None-clause-count : goal.returns-in-None-clause-count
returns-in-None-clause-count g c =
    let slot = c.in-Some.node.now.label.slot in
    let code : PlainCode = told_code c.args.program.now.dependents.code.items in
    ap length
    (spanless_code c.room_is_not_shown.ensures.nodes c.args.program.now.tree (plain_stop c.args.stop.now) c.in-Some.node.now
    (rw c.in-Some.is at c.node.ensures.found)
    (sym c.in-None.is
    ∙ c.span.ensures
    ∙ ap (get code.spans) c.slot.ensures
    ∙ ap (λ (code : PlainCode). get code.spans slot) c.requires.code.tells))
