use Rattle.std.proofs.Common.{◌≡◌, ◌+◌, ◌++◌, [], ◌∷◌, Some, None, drop, slice_get, sym, ap, ◌∙◌, append_assoc, arith}
use Rattle.std.proofs.lemmas.List.{append-nil}
use Rattle.std.proofs.lemmas.Option.{slice_get_within}
use Rattle.template_tree.specs.Checks.ProgramMaps.{items_in}
use Rattle.plcs_code.proofs.ProcedureItems.{item_listed}
use Rattle.plcs_code.proofs.ReadParts.{left_none, left_with}
use Rattle.plcs_code.proofs.procedure_items.items_in.Goals as goal

pub loop-item-smaller : goal.loop-item-smaller
loop-item-smaller g c =
    let map = g.D.Scope.items c.args.scope.now in
    let slot = c.args.slot.0 in
    let there : slice_get (items_in map slot) c.loop-item.k ≡ Some c.in-Some.item = sym (c.in-Some.ensures ∙ item_listed map slot c.loop-item.k) in
    omega (arith, slice_get_within (items_in map slot) c.loop-item.k _ there)

pub loop-item-preserved : goal.loop-item-preserved
loop-item-preserved g c =
    let map = g.D.Scope.items c.args.scope.now in
    let slot = c.args.slot.0 in
    let all = items_in map slot in
    let k = c.loop-item.k in
    let there : slice_get all k ≡ Some c.in-Some.item = sym (c.in-Some.ensures ∙ item_listed map slot k) in
    record {
      left =
          ap (λ items. items ++ drop (k + 1) all) c.in-Ok.ensures.items
          ∙ append_assoc c.loop-item.items.items (c.in-Some.item ∷ []) (drop (k + 1) all)
          ∙ ap (λ rest. c.loop-item.items.items ++ rest) (sym (left_with all k c.in-Some.item there))
          ∙ c.loop-item.invariant.left;
      within = omega (arith, slice_get_within all k _ there);
    }

pub returns : goal.returns
returns g c =
    let map = g.D.Scope.items c.args.scope.now in
    let slot = c.args.slot.0 in
    let all = items_in map slot in
    let k = c.loop-item.k in
    let none : slice_get all k ≡ None = sym (c.in_default.ensures ∙ item_listed map slot k) in
    sym (append-nil c.loop-item.items.items)
    ∙ ap (λ rest. c.loop-item.items.items ++ rest) (sym (left_none all k none))
    ∙ c.loop-item.invariant.left
