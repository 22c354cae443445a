use Rattle.std.proofs.Common.{◌≡◌, [], ◌∷◌, true, false, sym, ap, ◌∙◌, arith}
use Rattle.std.proofs.lemmas.Bool.Decides.{nat_tests}
use Rattle.std.specs.Prelude.{◌==◌, Some, None, if◌then◌else◌}
use Rattle.plcs_code.specs.PlainInstr.{PlainInstr}
use Rattle.plcs_code.specs.Private.LaysAll.{lays_nothing}
use Rattle.plcs_code.proofs.LaidPieces.{parameter_among, parameter_new}
use Rattle.plcs_code.proofs.Laying.{lays_one, lays_same}
use Rattle.plcs_code.proofs.lay_cells.lay_parameter.Goals as goal

pub returns-then-is_among : goal.returns-then-is_among
returns-then-is_among g c =
    lays_same (sym (parameter_among c.args.items.now c.args.earlier.now c.args.name.now (sym c.is_among.ensures ∙ c.if-is_among.true))) lays_nothing

pub returns-in_default : goal.returns-in_default
returns-in_default g c =
    lays_same
    (sym (parameter_new c.args.items.now c.args.earlier.now c.args.name.now None (sym c.is_among.ensures ∙ c.if-is_among.false) c.in_default.ensures))
    lays_nothing

pub returns-then-item-eq0 : goal.returns-then-item-eq0
returns-then-item-eq0 g c =
    let item = c.in-Some.item.now in
    let scalar : (item.size == 0) ≡ true = grind (arith, nat_tests) in
    lays_same
    (sym
    (parameter_new c.args.items.now c.args.earlier.now c.args.name.now (Some item) (sym c.is_among.ensures ∙ c.if-is_among.false) c.in-Some.ensures
    ∙ ap (λ b. if b then (PlainInstr.parameter item.name item.ty ∷ []) else []) scalar))
    (lays_same (ap (λ n. PlainInstr.parameter n item.ty ∷ []) c.copy.ensures) (lays_one c.put.ensures))

pub returns-else-item-eq0 : goal.returns-else-item-eq0
returns-else-item-eq0 g c =
    let item = c.in-Some.item.now in
    let array : (item.size == 0) ≡ false = grind (arith, nat_tests) in
    lays_same
    (sym
    (parameter_new c.args.items.now c.args.earlier.now c.args.name.now (Some item) (sym c.is_among.ensures ∙ c.if-is_among.false) c.in-Some.ensures
    ∙ ap (λ b. if b then (PlainInstr.parameter item.name item.ty ∷ []) else []) array))
    lays_nothing
