-- The places are gathered in a list that has none at first.
use Rattle.std.specs.Prelude.{◌++◌, refl, ℕ, IfOk, List, Result, flat_map}
use Rattle.std.specs.Option.{option_copied}
use Rattle.std.proofs.Common.{ap, subst, sym}
use Rattle.plcs_base.specs.declared.memory.OutOfMemory.{OutOfMemory}
use Rattle.plcs_base.specs.declared.place.PhraseAt.{PhraseAt}
use Rattle.template_tree.specs.Checks.ProgramMaps.{items_in}
use Rattle.decl_table.specs.Private.ChangeBefore.{spots_of}
use Rattle.decl_table.specs.Private.DuePlaces.{AreDueBy, due_lists, uses_now}
use Rattle.decl_table.specs.Private.ReachView.{has_lists}
use Rattle.decl_table.proofs.GatheredDue.{are_due}
use Rattle.decl_table.proofs.OkAnswers.{comes_ok}
use Rattle.decl_table.proofs.decls.Decls.due_of.Goals as goal

pub returns : goal.returns
returns c =
    let part = c.args.nodes.now.part in
    let stood = option_copied c.args.nodes.now.old in
    let stands = option_copied c.args.nodes.now.new in
    let changed = c.args.uses.now.uses in
    let was = items_in c.args.self.now.items c.args.change.now.procedure.0 in
    let now = items_in c.args.table.now.items c.args.change.now.procedure.0 in
    let procedure = option_copied c.args.procedure in
    let names = c.in-Ok.affected in
    let none = c.new-due.result in
    let one = none ++ spots_of part stands in
    let two = one ++ due_lists (has_lists c.args.reach) procedure in
    let due = c.add_due-added.new.due in
    subst (λ (r : Result (List PhraseAt) OutOfMemory). IfOk r (AreDueBy c.args.reach part stood stands c.args.self.now changed was now procedure))
    (sym c.and.ensures)
    (comes_ok c.add_due-added.result due (AreDueBy c.args.reach part stood stands c.args.self.now changed was now procedure) _
    (are_due c.args.reach part stood stands c.args.self.now changed was now procedure names c.in-Ok.ensures none one two
    (two ++ flat_map (uses_now c.args.self.now.uses changed) c.as_slice.result.now) due c.new-due.ensures refl refl
    (ap (λ (ns : List (List ℕ)). two ++ flat_map (uses_now c.args.self.now.uses changed) ns) c.as_slice.ensures))
    c.add_due-added.ensures)
