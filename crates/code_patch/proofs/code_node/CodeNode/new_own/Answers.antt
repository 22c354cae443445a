use Rattle.std.specs.Prelude.{◌+◌, if◌then◌else◌, length, option_map}
use Rattle.std.proofs.Common.{Bool, subst, sym, ◌∙◌}
use Rattle.plcs_code.specs.Counts.{EmitsAtMost}
use Rattle.plcs_code.specs.OwnCode.{own_code_by}
use Rattle.code_patch.specs.Private.NearCode.{ends_here, is_remade}
use Rattle.code_patch.specs.Private.PreparedNodes.{plain_plan}
use Rattle.code_patch.proofs.CountedCode.{emits_none}
use Rattle.code_patch.proofs.code_node.CodeNode.new_own.Goals as goal

pub returns-then-not-is_touched-clause-none : goal.returns-then-not-is_touched-clause-none
returns-then-not-is_touched-clause-none g c = sym c.is_touched.ensures ∙ c.if-not-is_touched.true

pub returns-then-not-is_touched-clause-counts : goal.returns-then-not-is_touched-clause-counts
returns-then-not-is_touched-clause-counts g c =
    let plan = plain_plan (g.M.Marked.marks c.args.plan.now.marks.now) (g.D.Scope.items c.args.plan.now.scope.now) c.args.plan.now in
    let ways = option_map (λ numbers. numbers.now) c.args.way in
    let pieces = (own_code_by plan.marks plan.items c.args.node.now.label).pieces in
    emits_none
    (if is_remade plan (ends_here ways) c.args.self.now.own c.args.node.now.label
    then length pieces.before + length pieces.behind else 0)
    (g.W.Work.counts c.args.work.now)

pub returns-in_err-own-clause-counts : goal.returns-in_err-own-clause-counts
returns-in_err-own-clause-counts g c =
    let plan = plain_plan (g.M.Marked.marks c.args.plan.now.marks.now) (g.D.Scope.items c.args.plan.now.scope.now) c.args.plan.now in
    let ways = option_map (λ numbers. numbers.now) c.args.way in
    let pieces = (own_code_by plan.marks plan.items c.args.node.now.label).pieces in
    let long = length pieces.before + length pieces.behind in
    subst
    (λ (b : Bool).
    EmitsAtMost (if b then long else 0) (g.W.Work.counts c.args.work.now) (g.W.Work.counts c.of.new.work))
    (sym c.if-not-is_touched.false ∙ c.is_touched.ensures) c.of.ensures.counts

pub returns-clause-made : goal.returns-clause-made
returns-clause-made g c = sym c.is_touched.ensures ∙ c.if-not-is_touched.false

pub returns-clause-counts : goal.returns-clause-counts
returns-clause-counts g c =
    let plan = plain_plan (g.M.Marked.marks c.args.plan.now.marks.now) (g.D.Scope.items c.args.plan.now.scope.now) c.args.plan.now in
    let ways = option_map (λ numbers. numbers.now) c.args.way in
    let pieces = (own_code_by plan.marks plan.items c.args.node.now.label).pieces in
    let long = length pieces.before + length pieces.behind in
    subst
    (λ (b : Bool).
    EmitsAtMost (if b then long else 0) (g.W.Work.counts c.args.work.now) (g.W.Work.counts c.of.new.work))
    (sym c.if-not-is_touched.false ∙ c.is_touched.ensures) c.of.ensures.counts
