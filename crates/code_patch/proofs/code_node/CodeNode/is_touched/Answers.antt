-- Own code is made anew where the way ends, where it is that of a touched procedure, or where it stops otherwise.
use Rattle.std.specs.Prelude.{◌==◌, false, option_map}
use Rattle.std.specs.Option.{option_map_or}
use Rattle.std.proofs.Common.{ℕ, ap, sym, ◌∙◌}
use Rattle.plcs_code.specs.OwnCode.{PlainOwnCode}
use Rattle.code_patch.specs.Private.NearCode.{ends_here, stops_as}
use Rattle.code_patch.specs.Private.PreparedNodes.{plain_plan}
use Rattle.code_patch.proofs.Opened.{own_is}
use Rattle.code_patch.proofs.RemadeCode.{procedure_told, remade_end, remade_procedure, remade_stop, stops_told}
use Rattle.code_patch.proofs.code_node.CodeNode.is_touched.Goals as goal

pub returns-then-ends_here : goal.returns-then-ends_here
returns-then-ends_here g c =
    let plan = plain_plan (g.M.Marked.marks c.args.plan.now.marks.now) (g.D.Scope.items c.args.plan.now.scope.now) c.args.plan.now in
    let ways = option_map (λ numbers. numbers.now) c.args.way in
    remade_end plan (ends_here ways) c.args.self.now.own c.args.node.now.label (sym c.ends_here.ensures ∙ c.if-ends_here.true)

pub returns-then-is_procedure : goal.returns-then-is_procedure
returns-then-is_procedure g c =
    let plan = plain_plan (g.M.Marked.marks c.args.plan.now.marks.now) (g.D.Scope.items c.args.plan.now.scope.now) c.args.plan.now in
    let ways = option_map (λ numbers. numbers.now) c.args.way in
    let touched =
    sym (procedure_told c.args.plan.now.procedure c.args.self.now.own.slot)
    ∙ ap (λ (n : ℕ). option_map_or (λ procedure. procedure.0 == n) c.args.plan.now.procedure false) (sym c.slot.ensures)
    ∙ sym c.is_procedure.ensures
    ∙ c.if-is_procedure.true in
    remade_procedure plan (ends_here ways) c.args.self.now.own c.args.node.now.label (sym c.ends_here.ensures ∙ c.if-ends_here.false) touched

pub returns : goal.returns
returns g c =
    let plan = plain_plan (g.M.Marked.marks c.args.plan.now.marks.now) (g.D.Scope.items c.args.plan.now.scope.now) c.args.plan.now in
    let ways = option_map (λ numbers. numbers.now) c.args.way in
    let own = c.args.self.now.own in
    let label = c.args.node.now.label in
    let untouched =
    sym (procedure_told c.args.plan.now.procedure own.slot)
    ∙ ap (λ (n : ℕ). option_map_or (λ procedure. procedure.0 == n) c.args.plan.now.procedure false) (sym c.slot.ensures)
    ∙ sym c.is_procedure.ensures
    ∙ c.if-is_procedure.false in
    let stops = stops_told (g.M.Marked.marks c.args.plan.now.marks.now) c.self.inside.own label c.stops_as.result c.stops_as.ensures in
    let same = own_is c.self.inside c.args.self.now c.self.view_is c.self.invariant in
    remade_stop plan (ends_here ways) own label c.stops_as.result (sym c.ends_here.ensures ∙ c.if-ends_here.false) untouched
    (stops ∙ ap (λ (o : PlainOwnCode). stops_as plan.marks o label) same)
