use Rattle.std.proofs.Common.{◌≡◌, ◌≤◌, ◌-◌, true, length}
use Rattle.file_store.specs.Private.FilePart.{IsPartRead}
use Rattle.file_store.proofs.loading.read_file.Given as goal

abbrev pub decreases-loop-bytes : goal.decreases-loop-bytes
decreases-loop-bytes g l = l.fn.most - length l.bytes.items

abbrev pub invariant-loop-bytes : goal.invariant-loop-bytes
invariant-loop-bytes g l = record {
  readable : g.F.Files.is_open l.files ≡ true;
  part : IsPartRead (g.F.Files.told l.fn.files).stored l.fn.name (g.F.Files.left l.files) l.bytes.items;
  within : length l.bytes.items ≤ l.fn.most;
  stored : (g.F.Files.told l.files).stored ≡ (g.F.Files.told l.fn.files).stored;
  begun : g.F.Files.begun l.files ≡ g.F.Files.begun l.fn.files;
  faults : (g.F.Files.told l.files).faults ≡ (g.F.Files.told l.fn.files).faults;
  wants : (g.F.Files.told l.files).wants ≡ (g.F.Files.told l.fn.files).wants;
}
