use Rattle.std.specs.Prelude.{◌≤◌, length, take}
use Rattle.decl_table.proofs.GatheredNames.{Gathered}
use Rattle.decl_table.proofs.name_list.NameList.add_names.Given as goal

abbrev pub invariant-loop-k : goal.invariant-loop-k
invariant-loop-k l = record {
  gathered : Gathered l.fn.self l.self (take l.k l.names) l.names;
  within : l.k ≤ length l.names;
}

abbrev pub decreases-loop-k : goal.decreases-loop-k
decreases-loop-k l = l.k
