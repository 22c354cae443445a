use Rattle.plcs_code.proofs.BegunBodies.{bodies_begin, second_bodies_begin}
use Rattle.plcs_code.proofs.code_laws.bodies_begin.Goals as goal

pub returns-clause-first : goal.returns-clause-first
returns-clause-first c = bodies_begin

pub returns-clause-second : goal.returns-clause-second
returns-clause-second c = second_bodies_begin
