use Rattle.std.proofs.Common.{◌≡◌, ◌*◌, ◌≤◌, ℕ, List, ◌++◌, drop}
use Rattle.arrayvec.specs.ArrayVec.{array_vec_len}
use Rattle.terminal_keys.specs.Sequence.{bell, of_sequences, passed_of_sequence}
use Rattle.terminal_keys.proofs.cutting.Begun.take_all.Given as goal

-- what the bytes before this one give was appended
abbrev pub invariant-loop-byte : goal.invariant-loop-byte
invariant-loop-byte l = record {
  passed : (rest : List ℕ) → of_sequences passed_of_sequence l.fn.self.bytes.items (l.bytes ++ rest)
      ≡ l.passes.items ++ of_sequences passed_of_sequence l.self.bytes.items (drop l.byte-index l.bytes ++ rest);
  rung : (rest : List ℕ) → of_sequences bell l.fn.self.bytes.items (l.bytes ++ rest)
      ≡ l.bells.items ++ of_sequences bell l.self.bytes.items (drop l.byte-index l.bytes ++ rest);
  few : array_vec_len l.passes ≤ 30 * l.byte-index;
  few_bells : array_vec_len l.bells ≤ 2 * l.byte-index;
}
