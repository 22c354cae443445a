use Rattle.std.specs.Prelude.{◌≡◌, ◌≤◌, ◌++◌, drop, flat_map, length}
use Rattle.std.specs.FinMap.{from_entries}
use Rattle.plcs_code.specs.Gen.{addresses_in, node_address}
use Rattle.plcs_code.proofs.addresses.Addresses.of.Given as goal

abbrev pub decreases-loop-k : goal.decreases-loop-k
decreases-loop-k g l = l.k

abbrev pub invariant-loop-k : goal.invariant-loop-k
invariant-loop-k g l = record {
  noted : l.addresses ≡ from_entries (flat_map node_address (drop l.k l.nodes) ++ addresses_in 0 l.code);
  within : l.k ≤ length l.nodes;
}
