use Rattle.std.proofs.Common.{◌<◌, [], ◌∷◌, length, sym, ap, arith}
use Rattle.plcs_code.specs.Private.LaysAll.{lays_nothing}
use Rattle.plcs_code.proofs.LaidLists.{items_next}
use Rattle.plcs_code.proofs.Laying.{lays_append, lays_one, lays_same}
use Rattle.plcs_code.proofs.lay_phrase.lay_items.Goals as goal

pub loop-k-init : goal.loop-k-init
loop-k-init g c = lays_nothing

pub loop-k-preserved : goal.loop-k-preserved
loop-k-preserved g c =
    let inside : c.loop-k.k < length c.args.targets.now = omega arith in
    let step = items_next c.args.slot.0 c.args.targets.now c.loop-k.k c.index-targets-k.result inside c.index-targets-k.is in
    lays_same (sym step)
    (lays_append c.loop-k.invariant
    (lays_append c.put_item_place.ensures
    (lays_append c.lay_index.ensures (lays_same (ap (λ i. i ∷ []) c.get.ensures) (lays_one c.put.ensures)))))
