use Rattle.std.specs.Prelude.{◌≡◌, Some, slice_get}
use Rattle.std.proofs.Common.{arith, sym, ◌∙◌}
use Rattle.std.proofs.lemmas.Option.{slice_get_within}
use Rattle.template_tree.specs.Checks.ProgramMaps.{items_in}
use Rattle.resume_rule.proofs.ComparedLists.{alike_ends, alike_next, told_apart}
use Rattle.resume_rule.proofs.equal_copy.has_items.Goals as goal

pub loop-item-init : goal.loop-item-init
loop-item-init c = record { alike = λ k few. absurd (omega (arith, few)); within = omega arith }

pub overflow_add-k : goal.overflow_add-k
overflow_add-k c =
    let within = slice_get_within (items_in c.args.decls.now.items c.args.procedure.0) c.loop-item.k _ (sym c.in-Some.ensures) in
    omega (arith, within, c.requires)

pub loop-item-smaller : goal.loop-item-smaller
loop-item-smaller c =
    let within = slice_get_within (items_in c.args.decls.now.items c.args.procedure.0) c.loop-item.k _ (sym c.in-Some.ensures) in
    omega (arith, within)

pub loop-item-preserved : goal.loop-item-preserved
loop-item-preserved c =
    let items = (items_in c.args.decls.now.items c.args.procedure.0) in
    let there : slice_get items c.loop-item.k ≡ Some c.in-Some.item = sym c.in-Some.ensures in
    let within = slice_get_within items c.loop-item.k _ there in
    record {
      alike =
          alike_next c.loop-item.k items c.args.kept.now c.loop-item.invariant.alike
          (there ∙ sym (c.is_kept.ensures.0 c.if-not-is_kept.false));
      within = omega (arith, within);
    }

pub returns-then-not-is_kept : goal.returns-then-not-is_kept
returns-then-not-is_kept c =
    told_apart c.loop-item.k (items_in c.args.decls.now.items c.args.procedure.0) c.args.kept.now c.in-Some.item (sym c.in-Some.ensures)
    c.is_kept.ensures c.if-not-is_kept.true

pub returns : goal.returns
returns c =
    alike_ends c.loop-item.k (items_in c.args.decls.now.items c.args.procedure.0) c.args.kept.now c.loop-item.invariant.alike (sym c.in_default.ensures)
    c.is_last_item.ensures
