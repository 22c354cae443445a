use Rattle.std.proofs.Common.{[], ◌∷◌, sym, ap}
use Rattle.std.specs.Prelude.{option_map}
use Rattle.plcs_code.specs.Pieces.{piece_at}
use Rattle.plcs_code.specs.Private.PlainHalt.{plain_halt}
use Rattle.plcs_code.specs.Private.LaysAll.{lays_next}
use Rattle.plcs_code.proofs.Laying.{lays_one, lays_same}
use Rattle.plcs_code.proofs.lay_pieces.begin.Goals as goal

pub returns-in_default-clause-laid : goal.returns-in_default-clause-laid
returns-in_default-clause-laid g c =
    lays_same (sym (ap (λ s. piece_at c.args.slot.0 c.args.point (option_map plain_halt s) []) c.in_default.is)) (lays_one c.put.ensures)

pub returns-clause-laid : goal.returns-clause-laid
returns-clause-laid g c =
    lays_same (sym (ap (λ s. piece_at c.args.slot.0 c.args.point (option_map plain_halt s) []) c.in-Some.is))
    (lays_next c.put.ensures (lays_same (ap (λ i. i ∷ []) c.instr.ensures) (lays_one c.put-2.ensures)))
