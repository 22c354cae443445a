use Rattle.std.proofs.Common.{◌≡◌, inr, [], take, Err, refl, ap, ◌∙◌, sym, subst, arith}
use Rattle.std.proofs.KnownBytes.{Consumes-nil}
use Rattle.std.proofs.lemmas.Grind.{common_steps}
use Rattle.std.specs.Io.KnownBytes.{Consumes}
use Rattle.terminal_keys.proofs.Limits.{most_read_is}
use Rattle.terminal_keys.proofs.SoFar.{either_rose, end_ends, fault_ends, front_of_read, more_so_far, none_so_far, read_ends, rose_since, write_ends, write_fault}
use Rattle.terminal_keys.proofs.passing.pass_keys.Goals as goal

-- no byte was read yet
pub loop-made-init : goal.loop-made-init
loop-made-init g c = record {
  so_far = rw c.new-begun.ensures (none_so_far _);
  unfailed = refl;
  editor_later = omega arith;
  bells_later = omega arith;
  reads = omega arith;
}

-- no byte is left, and the last bell was rung or couldn't be
pub returns-in-Ok-eq0-clause-passed : goal.returns-in-Ok-eq0-clause-passed
returns-in-Ok-eq0-clause-passed g c =
    let none : c.in-Ok-eq0.field-0 ≡ 0 = grind (arith, common_steps, c.in-Ok-eq0.field-0-is) in
    end_ends c.end.result _ _ _ c.loop-made.begun.bytes.items c.loop-made.begun.lacks c.loop-made.invariant.so_far
    (subst (λ n. Consumes (g.S.Source.left c.loop-made.keys) (g.S.Source.left c.read.new.self) (take n c.read.new.buf)) none c.in-Ok-eq0.ensures.bytes.given)
    (c.in-Ok-eq0.ensures.bytes.ended none) refl c.end.ensures.rung

pub returns-in-Ok-eq0-clause-write : goal.returns-in-Ok-eq0-clause-write
returns-in-Ok-eq0-clause-write g c = λ failed. inr (rose_since _ _ _ c.loop-made.invariant.bells_later (c.end.ensures.fault failed))

-- what one read gave couldn't be written
pub returns-in-Err-clause-passed : goal.returns-in-Err-clause-passed
returns-in-Err-clause-passed g c =
    let read = c.in-Err.ensures.passed in
    rw c.ending_of.ensures
    (fault_ends c.in-Err.fault _ _
    (write_ends _ _ _ c.loop-made.begun.bytes.items c.pass.new.begun.bytes.items _ read.passes read.rings c.loop-made.invariant.so_far
    c.in-Ok.ensures.bytes.given read.passed_front read.rung_front read.all_passed read.all_rung))

pub returns-in-Err-clause-write : goal.returns-in-Err-clause-write
returns-in-Err-clause-write g c = λ failed.
    either_rose _ _ _ _ _ _ c.loop-made.invariant.editor_later c.loop-made.invariant.bells_later
    (c.in-Err.ensures.fault (ap Err (write_fault c.in-Err.fault (sym c.ending_of.ensures ∙ failed))))

-- the next read failed
pub returns-in-Err-Failed-clause-passed : goal.returns-in-Err-Failed-clause-passed
returns-in-Err-Failed-clause-passed g c =
    let lost = c.in-Err-Failed.ensures.bytes.lost in
    read_ends _ _ _ c.loop-made.begun.bytes.items c.loop-made.begun.lacks c.loop-made.invariant.so_far
    (lost.0, omega (arith, lost.1, most_read_is, c.read.auto.buf), lost.2) refl refl

pub returns-in-Err-OutOfMemory-clause-passed : goal.returns-in-Err-OutOfMemory-clause-passed
returns-in-Err-OutOfMemory-clause-passed g c =
    let lost = c.in-Err-OutOfMemory.ensures.bytes.lost in
    front_of_read _ _
    (read_ends _ _ _ c.loop-made.begun.bytes.items c.loop-made.begun.lacks c.loop-made.invariant.so_far
    (lost.0, omega (arith, lost.1, most_read_is, c.read.auto.buf), lost.2) refl refl)

-- what one read gave was written too
pub loop-made-preserved : goal.loop-made-preserved
loop-made-preserved g c =
    let read = c.in_default.ensures.passed in
    record {
      so_far = more_so_far _ _ _ c.loop-made.begun.bytes.items c.pass.new.begun.bytes.items _ read.passes read.rings c.loop-made.invariant.so_far
          c.in-Ok.ensures.bytes.given read.passed read.rung read.all_passed read.all_rung;
      unfailed = grind (arith, common_steps, c.in-Ok.ensures.cause.same);
      editor_later = omega (arith, c.pass.ensures.editor_later);
      bells_later = omega (arith, c.pass.ensures.bells_later);
      reads = omega (arith, c.read.ensures.one, c.loop-made-test.true);
    }

-- all reads were made
pub returns-clause-passed : goal.returns-clause-passed
returns-clause-passed g c =
    read_ends _ _ _ c.loop-made.begun.bytes.items c.loop-made.begun.lacks c.loop-made.invariant.so_far
    ([], omega arith, Consumes-nil _) refl refl
