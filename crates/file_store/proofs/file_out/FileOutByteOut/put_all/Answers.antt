use Rattle.std.proofs.Common.{[], ◌∷◌, ◌++◌, refl, ap}
use Rattle.file_store.specs.Private.Desk.{desk}
use Rattle.std.specs.Prelude.{IsSome}
use Rattle.std.proofs.Math.Bool.{Bool-set}
use Rattle.file_store.proofs.Sending.{puts_at_once, puts_waiting}
use Rattle.file_store.proofs.file_out.FileOutByteOut.put_all.Goals as goal

pub returns-then-has_room_for : goal.returns-then-has_room_for
returns-then-has_room_for g c =
    puts_waiting (λ out. desk (g.F.Files.told out.files.now) (g.F.Files.begun out.files.now) out.wait out.fault)
    (λ out. out.files.ghost_name) (λ wait. record c.args.self.now { wait = wait })
    (desk (g.F.Files.told c.args.self.now.files.now) (g.F.Files.begun c.args.self.now.files.now) c.args.self.now.wait c.args.self.now.fault)
    c.args.self.now.files.ghost_name (λ wait. refl) (λ wait. refl) c.args.self.now.wait c.args.bytes.now _ _ c.extend.ensures
    (ap (λ (begun : IsSome (g.F.Files.begun c.args.self.now.files.now)). record c.args.self.now { wait = c.extend.new.self; begun = begun })
    (Bool-set _ _ c.args.self.now.begun _))

pub returns-else-has_room_for : goal.returns-else-has_room_for
returns-else-has_room_for g c =
    puts_at_once (λ out. desk (g.F.Files.told out.files.now) (g.F.Files.begun out.files.now) out.wait out.fault)
    (λ out. out.files.ghost_name) (λ out byte. record out { wait = out.wait ++ (byte ∷ []) })
    (λ out byte. refl) (λ out byte. refl) _ _ c.args.bytes.now (c.has_room_for.ensures.lack c.if-has_room_for.false)
    c.take_anew.ensures.sent c.take_anew.ensures.files
