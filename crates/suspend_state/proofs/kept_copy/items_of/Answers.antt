use Rattle.std.specs.Prelude.{◌≡◌, None, Some, slice_get}
use Rattle.std.proofs.Common.{ap, sym, ◌∙◌, ◌++◌, drop, ◌+◌, arith}
use Rattle.std.proofs.lemmas.Option.{slice_get_within}
use Rattle.template_tree.specs.Checks.ProgramMaps.{items_in}
use Rattle.suspend_state.proofs.CopiedLists.{item_listed, left_less, left_none}
use Rattle.suspend_state.proofs.kept_copy.items_of.Goals as goal

pub loop-item-smaller : goal.loop-item-smaller
loop-item-smaller c =
    let all = items_in c.args.decls.now.items c.args.procedure.0 in
    let there : slice_get all c.loop-item.k ≡ Some c.in-Some.item = sym (c.in-Some.ensures ∙ item_listed c.args.decls.now.items c.args.procedure.0 c.loop-item.k) in
    omega (arith, slice_get_within all c.loop-item.k _ there)

pub loop-item-preserved : goal.loop-item-preserved
loop-item-preserved c =
    let all = items_in c.args.decls.now.items c.args.procedure.0 in
    let k = c.loop-item.k in
    let there : slice_get all k ≡ Some c.in-Some.item = sym (c.in-Some.ensures ∙ item_listed c.args.decls.now.items c.args.procedure.0 k) in
    record {
      left =
          ap (λ items. items ++ drop (k + 1) all) c.in_ok-push.ensures.items
          ∙ left_less c.loop-item.items.items all k c.in-Some.item there c.loop-item.invariant.left;
      within = omega (arith, slice_get_within all k _ there);
    }

pub returns : goal.returns
returns c =
    let all = items_in c.args.decls.now.items c.args.procedure.0 in
    let none : slice_get all c.loop-item.k ≡ None = sym (c.in_default.ensures ∙ item_listed c.args.decls.now.items c.args.procedure.0 c.loop-item.k) in
    c.from_vec.ensures ∙ left_none c.loop-item.items.items all c.loop-item.k none c.loop-item.invariant.left
