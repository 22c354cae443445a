use Rattle.plcs_code.proofs.CodeLengths.{lengths_told, own_lengths_stay}
use Rattle.plcs_code.proofs.code_laws.lengths_are_told.Goals as goal

pub returns-clause-told : goal.returns-clause-told
returns-clause-told c = lengths_told

pub returns-clause-own : goal.returns-clause-own
returns-clause-own c = own_lengths_stay
