use Rattle.std.proofs.Common.{sym, ◌∙◌}
use Rattle.resume_rule.proofs.LiveTemplates.{kind_tells, kind_tells_alone, parts_tell}
use Rattle.resume_rule.proofs.frame_question.template_differs.Goals as goal

pub returns-then-not-has_kind : goal.returns-then-not-has_kind
returns-then-not-has_kind c =
    kind_tells c.args.tree.now.items c.args.frame.now c.args.kept.now c.in-Some.node.now.label c.in-Some.ensures.found c.if-frame-eq0.false
    c.has_kind.result c.has_kind.ensures c.if-not-has_kind.true

pub returns-then-asks_for_parts : goal.returns-then-asks_for_parts
returns-then-asks_for_parts c =
    parts_tell c.args.tree.now.items c.args.frame.now c.args.kept.now c.in-Some.node.now.label c.in-Some.ensures.found c.if-frame-eq0.false
    c.has_parts.result c.has_parts.ensures (c.has_kind.ensures.0 c.if-not-has_kind.false)
    (sym c.asks_for_parts.ensures ∙ c.if-asks_for_parts.true)

pub returns-else-asks_for_parts : goal.returns-else-asks_for_parts
returns-else-asks_for_parts c =
    kind_tells_alone c.args.tree.now.items c.args.frame.now c.args.kept.now c.in-Some.node.now.label c.in-Some.ensures.found c.if-frame-eq0.false
    c.asks_for_parts.result c.asks_for_parts.ensures (c.has_kind.ensures.0 c.if-not-has_kind.false) c.if-asks_for_parts.false
