use Rattle.std.specs.Prelude.{[]}
use Rattle.decl_table.proofs.ItemLists.{offences_are}
use Rattle.decl_table.proofs.decl_laws.list_offences_are_verdicts.Goals as goal

pub returns : goal.returns
returns c = λ inner k node there once. offences_are [] inner k node there once
