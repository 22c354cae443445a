use Rattle.std.proofs.Common.{length, drop, take, ◌≡◌, ◌≤◌}
use Rattle.plcs_store.specs.Limit.{most_output}
use Rattle.plcs_store.specs.OutputItem.{with_items_written}
use Rattle.plcs_store.proofs.output.Output.write_all.Given as goal

abbrev pub invariant-loop-value : goal.invariant-loop-value
invariant-loop-value l = record {
  same : with_items_written l.self (drop l.value-index l.items) ≡ with_items_written l.fn.self l.items;
  kept : take (length l.fn.self) l.self ≡ l.fn.self;
  longer : length l.fn.self ≤ length l.self;
  few : length l.self ≤ most_output;
}
