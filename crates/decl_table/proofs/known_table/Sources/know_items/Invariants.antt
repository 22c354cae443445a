use Rattle.std.proofs.Common.{◌≡◌, List, ℕ, take, true}
use Rattle.decl_table.specs.Private.KnownTable.{KeepsOwn, KnowsItem, Learns}
use Rattle.decl_table.specs.Private.NameTests.{has_name}
use Rattle.decl_table.proofs.known_table.Sources.know_items.Given as goal

abbrev pub invariant-loop-name : goal.invariant-loop-name
invariant-loop-name l = record {
  learnt : Learns l.self.tree.now.items l.fn.table l.table;
  kept : KeepsOwn l.self.items l.fn.table l.table;
  knows : (name : List ℕ) → has_name (take l.name-index l.names) name ≡ true → KnowsItem l.table l.self.tree.now.items l.procedure.0 name;
}
