use Rattle.plcs_base.specs.Putting as putting
use Rattle.plcs_base.proofs.put_laws.puts_in_turn.Goals as goal

pub returns : goal.returns
returns g c = putting.puts_in_turn g.O.ByteOut.puts
