use Rattle.std.proofs.Common.{◌≡◌, ℕ, arith, refl, replicate, subst, ◌∙◌}
use Rattle.file_store.specs.Private.Desk.{Sent, desk}
use Rattle.file_store.proofs.Sending.{sent_again, sent_nothing}
use Rattle.file_store.proofs.file_out.FileOut.put_many.Goals as goal

pub loop-done-init : goal.loop-done-init
loop-done-init g c = (sent_nothing _, (refl, omega arith))

pub loop-done-preserved : goal.loop-done-preserved
loop-done-preserved g c = (
  sent_again _ _ _ c.loop-done.done c.args.byte c.loop-done.invariant.0 c.put.ensures.0,
  (c.put.ensures.1 ∙ c.loop-done.invariant.1.0, omega (arith, c.loop-done-test.true)),
)

pub returns-clause-sent : goal.returns-clause-sent
returns-clause-sent g c =
    let all : c.loop-done.done ≡ c.args.times = omega (arith, c.loop-done-test.false, c.loop-done.invariant.1.1) in
    let was = c.args.self.now in
    let now = c.loop-done.self in
    let before = desk (g.F.Files.told was.files.now) (g.F.Files.begun was.files.now) was.wait was.fault in
    let after = desk (g.F.Files.told now.files.now) (g.F.Files.begun now.files.now) now.wait now.fault in
    subst (λ (n : ℕ). Sent before (replicate n c.args.byte) after) all c.loop-done.invariant.0

pub returns-clause-files : goal.returns-clause-files
returns-clause-files g c = c.loop-done.invariant.1.0
