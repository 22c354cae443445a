use Rattle.std.proofs.Common.{sym, ap}
use Rattle.std.specs.Option.{option_to_list}
use Rattle.std.specs.Prelude.{option_map}
use Rattle.plcs_code.specs.PlainInstr.{plain_instr}
use Rattle.plcs_code.specs.Private.LaysAll.{lays_nothing}
use Rattle.plcs_code.proofs.Laying.{lays_one, lays_same}
use Rattle.plcs_code.proofs.jumps.lay_jump.Goals as goal

pub returns-in-Some : goal.returns-in-Some
returns-in-Some g c = lays_same (sym (ap (λ j. option_to_list (option_map plain_instr j)) c.in-Some.is)) (lays_one c.put.ensures)

pub returns-in_default : goal.returns-in_default
returns-in_default g c = lays_same (sym (ap (λ j. option_to_list (option_map plain_instr j)) c.in_default.is)) lays_nothing
