use Rattle.std.proofs.Common.{◌≡◌, pos, true, ap, ◌∙◌, subst, w32, to_z, of_z}
use Rattle.std.specs.Prelude.{nat_abs}
use Rattle.std.specs.Int.Signed.{lt_z}
use Rattle.std.proofs.lemmas.Int.{to_z-of_z}
use Rattle.plcs_base.specs.Putting.{puts_same}
use Rattle.plcs_grammar.proofs.NegativeNumbers.{negative_text}
use Rattle.plcs_grammar.proofs.constant.put_number.Goals as goal

pub returns-then-number-lt0 : goal.returns-then-number-lt0
returns-then-number-lt0 g c =
    let number = c.args.number in
    let read : to_z w32 (of_z w32 number) ≡ number = to_z-of_z w32 number c.ranges.number in
    let below : lt_z number (pos 0) ≡ true = subst (λ z. lt_z z (pos 0) ≡ true) read c.if-number-lt0.true in
    puts_same
    (negative_text number c.unsigned_abs.result below (c.unsigned_abs.ensures.value ∙ ap nat_abs read))
    c.put_negative.ensures
