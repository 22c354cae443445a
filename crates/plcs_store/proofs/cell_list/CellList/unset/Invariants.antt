use Rattle.std.proofs.Common.{replicate, ◌≡◌}
use Rattle.plcs_store.specs.declared.cell.Cell.{Cell}
use Rattle.plcs_store.proofs.cell_list.CellList.unset.Given as goal

abbrev pub invariant-loop : goal.invariant-loop
invariant-loop l = l.cells.items ≡ replicate l.counter Cell.Unset
