use Rattle.std.proofs.Common.{◌≡◌, ◌<◌, ℕ}
use Rattle.std.specs.Prelude.{get_or}
use Rattle.plcs_base.specs.declared.place.PhraseAt.{PhraseAt}
use Rattle.decl_table.specs.Private.KnownTable.{KeepsOwn, Learns}
use Rattle.decl_table.proofs.KnownSources.{KnowsAt}
use Rattle.decl_table.proofs.known_table.Sources.know_all.Given as goal

abbrev pub invariant-loop-at : goal.invariant-loop-at
invariant-loop-at l = record {
  learnt : Learns l.self.tree.now.items l.fn.table l.table;
  kept : KeepsOwn l.self.items l.fn.table l.table;
  knows : (j : ℕ) (at : PhraseAt) → j < l.at-index → get_or l.due j at ≡ at → KnowsAt l.self.tree.now.items l.table at;
}
