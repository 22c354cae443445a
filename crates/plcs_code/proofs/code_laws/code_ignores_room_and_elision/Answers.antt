use Rattle.plcs_code.proofs.AlikeCodes.{code_asks_items, code_ignores_elision, code_ignores_room}
use Rattle.plcs_code.proofs.code_laws.code_ignores_room_and_elision.Goals as goal

pub returns-clause-room : goal.returns-clause-room
returns-clause-room c = code_ignores_room

pub returns-clause-elision : goal.returns-clause-elision
returns-clause-elision c = code_ignores_elision

pub returns-clause-items : goal.returns-clause-items
returns-clause-items c = code_asks_items
