use Rattle.std.proofs.Common.{◌≡◌, List, ℕ, Option, length}
use Rattle.std.specs.Io.KnownBytes.{Appends}
use Rattle.std.specs.Prelude.{IsSome}
use Rattle.synth_outside.specs.Files.{begun_bytes, begun_name}
use Rattle.file_store.proofs.file_out.write_all.Given as goal

abbrev pub decreases-loop-rest : goal.decreases-loop-rest
decreases-loop-rest g l = length l.rest

-- what is still to be appended makes the whole
abbrev pub invariant-loop-rest : goal.invariant-loop-rest
invariant-loop-rest g l = record {
  told : (after : Option (List ℕ)) → Appends (begun_bytes (g.F.Files.begun l.files)) after l.rest
      → Appends (begun_bytes (g.F.Files.begun l.fn.files)) after l.piece;
  stored : (g.F.Files.told l.files).stored ≡ (g.F.Files.told l.fn.files).stored;
  name : begun_name (g.F.Files.begun l.files) ≡ begun_name (g.F.Files.begun l.fn.files);
  begun : IsSome (g.F.Files.begun l.files);
  faults : (g.F.Files.told l.files).faults ≡ (g.F.Files.told l.fn.files).faults;
  wants : (g.F.Files.told l.files).wants ≡ (g.F.Files.told l.fn.files).wants;
}
