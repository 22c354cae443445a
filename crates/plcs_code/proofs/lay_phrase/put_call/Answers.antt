use Rattle.std.proofs.Common.{ap, [], ◌∷◌}
use Rattle.plcs_code.specs.PlainInstr.{PlainInstr}
use Rattle.plcs_code.proofs.Laying.{lays_one, lays_same}
use Rattle.plcs_code.proofs.lay_phrase.put_call.Goals as goal

pub returns-then-arguments-gt-MOST_INSTRS : goal.returns-then-arguments-gt-MOST_INSTRS
returns-then-arguments-gt-MOST_INSTRS g c = lays_one (c.refuse.ensures _)

pub returns : goal.returns
returns g c = lays_same (ap (λ n. PlainInstr.call n c.args.arguments ∷ []) c.copy.ensures) (lays_one c.put.ensures)
