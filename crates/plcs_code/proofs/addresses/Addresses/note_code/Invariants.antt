use Rattle.std.specs.Prelude.{◌≡◌, ◌≤◌, drop, length}
use Rattle.plcs_code.specs.Gen.{addresses_in}
use Rattle.plcs_code.specs.Private.CodeMaps.{with_all}
use Rattle.plcs_code.proofs.addresses.Addresses.note_code.Given as goal

abbrev pub decreases-loop-k : goal.decreases-loop-k
decreases-loop-k g l = l.k

abbrev pub invariant-loop-k : goal.invariant-loop-k
invariant-loop-k g l = record {
  noted : l.self ≡ with_all (addresses_in l.k (drop l.k l.code)) l.fn.self;
  within : l.k ≤ length l.code;
}
