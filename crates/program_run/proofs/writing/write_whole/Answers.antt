use Rattle.std.proofs.Common.{◌≤◌, ◌+◌, length, arith}
use Rattle.std.proofs.lemmas.Grind.{common_steps}
use Rattle.std.proofs.lemmas.List.{length-drop}
use Rattle.std.proofs.lemmas.Result.{err_from_is_err_and}
use Rattle.program_run.proofs.TakenFronts.{Appends-more, AppendsFront-more, cause_passed, take-rest}
use Rattle.program_run.proofs.writing.write_whole.Goals as goal

-- a front of the bytes was taken before the write that failed, and some of the rest by it
pub returns-in_err-at : goal.returns-in_err-at
returns-in_err-at g c =
    let p = err_from_is_err_and c.from_residual.result c.from_residual.ensures.1 in
    rw (p.1, p.2)
    (record {
      all = tt;
      front = AppendsFront-more _ _ _ c.args.bytes.now c.loop-at.at c.loop-at.invariant.written (rw take-rest at c.in_err-at.ensures.bytes.front);
      cause = cause_passed _ _ _ _ _ c.loop-at.invariant.unfailed c.in_err-at.ensures.cause;
      want = cause_passed _ _ _ _ _ c.loop-at.invariant.unwanted c.in_err-at.ensures.want;
    })

-- the bytes are taken a bit further
pub loop-at-preserved : goal.loop-at-preserved
loop-at-preserved g c =
    let count = c.in_ok-at.field-0 in
    let within : c.loop-at.at + count ≤ length c.args.bytes.now = omega (arith, c.in_ok-at.ensures.bytes.count, rw take-rest at c.in_ok-at.ensures.bytes.count, length-drop c.loop-at.at c.args.bytes.now) in
    record {
      within = within;
      written = Appends-more _ _ _ c.args.bytes.now c.loop-at.at count c.loop-at.invariant.written (rw take-rest at c.in_ok-at.ensures.bytes.accepted);
      unfailed = grind (arith, common_steps, c.in_ok-at.ensures.cause.same);
      unwanted = grind (arith, common_steps, c.in_ok-at.ensures.want.same);
    }
