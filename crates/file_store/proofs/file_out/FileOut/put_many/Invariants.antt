use Rattle.std.proofs.Common.{◌≡◌, ◌-◌, ◌≤◌, replicate}
use Rattle.file_store.specs.Private.Desk.{Sent, desk}
use Rattle.file_store.proofs.file_out.FileOut.put_many.Given as goal

abbrev pub decreases-loop-done : goal.decreases-loop-done
decreases-loop-done g l = l.times - l.done

abbrev pub invariant-loop-done : goal.invariant-loop-done
invariant-loop-done g l =
    Sent (desk (g.F.Files.told l.fn.self.files.now) (g.F.Files.begun l.fn.self.files.now) l.fn.self.wait l.fn.self.fault)
    (replicate l.done l.byte)
    (desk (g.F.Files.told l.self.files.now) (g.F.Files.begun l.self.files.now) l.self.wait l.self.fault)
    × ((l.self.files.ghost_name ≡ l.fn.self.files.ghost_name) × (l.done ≤ l.times))
