use Rattle.std.specs.Prelude.{◌≡◌, ◌≤◌, drop, flat_map, length}
use Rattle.std.specs.FinMap.{from_entries}
use Rattle.plcs_code.specs.Gen.{span_by_slot}
use Rattle.plcs_code.proofs.spans.Spans.of.Given as goal

abbrev pub decreases-loop-k : goal.decreases-loop-k
decreases-loop-k l = l.k

abbrev pub invariant-loop-k : goal.invariant-loop-k
invariant-loop-k l = record {
  noted : l.spans ≡ from_entries (flat_map span_by_slot (drop l.k l.nodes));
  within : l.k ≤ length l.nodes;
}
