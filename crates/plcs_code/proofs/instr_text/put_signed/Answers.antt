use Rattle.std.proofs.Common.{◌≡◌, ap, ◌∷◌}
use Rattle.std.proofs.lemmas.Int.{to_z-of_z}
use Rattle.std.specs.Fmt.{signed_decimal}
use mir.Syntax.{w32}
use mir.Val.{SFits, of_z, to_z}
use Rattle.plcs_base.specs.Put.{puts_next}
use Rattle.plcs_base.specs.Putting.{puts_same}
use Rattle.plcs_code.proofs.instr_text.put_signed.Goals as goal

pub returns : goal.returns
returns g c =
    let fits : SFits w32 c.args.number = c.ranges.number in
    let same : to_z w32 (of_z w32 c.args.number) ≡ c.args.number = simp to_z-of_z in
    puts_same (ap (λ z. 32 ∷ signed_decimal z) same) (puts_next c.put.ensures c.put_number.ensures)
