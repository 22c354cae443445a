use Rattle.std.proofs.Common.{◌≡◌, ◌<◌, [], ◌∷◌, ◌++◌, refl, sym, ap, subst, arith, length, replicate}
use Rattle.file_store.specs.Private.Desk.{desk}
use Rattle.std.proofs.lemmas.List.{length-replicate}
use Rattle.plcs_base.specs.Put.{puts_nothing}
use Rattle.plcs_base.specs.Putting.{puts_same}
use Rattle.std.specs.Prelude.{IsSome}
use Rattle.std.proofs.Math.Bool.{Bool-set}
use Rattle.file_store.proofs.Sending.{puts_at_once, puts_waiting}
use Rattle.file_store.proofs.file_out.FileOutByteOut.put_repeated.Goals as goal

pub returns-then-has_room_for_few : goal.returns-then-has_room_for_few
returns-then-has_room_for_few g c =
    puts_waiting (λ out. desk (g.F.Files.told out.files.now) (g.F.Files.begun out.files.now) out.wait out.fault)
    (λ out. out.files.ghost_name) (λ wait. record c.args.self.now { wait = wait })
    (desk (g.F.Files.told c.args.self.now.files.now) (g.F.Files.begun c.args.self.now.files.now) c.args.self.now.wait c.args.self.now.fault)
    c.args.self.now.files.ghost_name (λ wait. refl) (λ wait. refl) c.args.self.now.wait (replicate c.args.times c.args.byte) _ _ c.extend_repeated.ensures
    (ap (λ (begun : IsSome (g.F.Files.begun c.args.self.now.files.now)). record c.args.self.now { wait = c.extend_repeated.new.self; begun = begun })
    (Bool-set _ _ c.args.self.now.begun _))

pub returns-then-times-gt0 : goal.returns-then-times-gt0
returns-then-times-gt0 g c =
    let some : 0 < length (replicate c.args.times c.args.byte) = subst (λ n. 0 < n) (sym (length-replicate c.args.times c.args.byte)) (omega arith) in
    puts_at_once (λ out. desk (g.F.Files.told out.files.now) (g.F.Files.begun out.files.now) out.wait out.fault)
    (λ out. out.files.ghost_name) (λ out byte. record out { wait = out.wait ++ (byte ∷ []) })
    (λ out byte. refl) (λ out byte. refl) _ _ (replicate c.args.times c.args.byte) some
    c.put_many.ensures.sent c.put_many.ensures.files

pub returns-else-times-gt0 : goal.returns-else-times-gt0
returns-else-times-gt0 g c =
    let none : 0 ≡ c.args.times = omega arith in
    puts_same (ap (λ n. replicate n c.args.byte) none) puts_nothing
