use Rattle.std.proofs.Common.{◌≡◌, ap, ◌∷◌}
use Rattle.std.proofs.lemmas.Int.{to_z-of_z}
use Rattle.std.specs.Fmt.{signed_decimal}
use mir.Syntax.{w32}
use mir.Val.{SFits, of_z, to_z}
use Rattle.plcs_base.specs.Putting.{puts_append, puts_same}
use Rattle.plcs_code.proofs.instr_text.put_loop.Goals as goal

pub returns : goal.returns
returns g c =
    let fits : SFits w32 c.args.distance = c.ranges.distance in
    let same : to_z w32 (of_z w32 c.args.distance) ≡ c.args.distance = simp to_z-of_z in
    puts_append c.put_count.ensures
    (puts_append c.put_name.ensures (puts_same (ap (λ z. 32 ∷ signed_decimal z) same) c.put_signed.ensures))
