-- The words ask for a task, and the run is what it says. Where that is to make a program, keys and files are as they
-- were. Where no task is known, nothing was done.
use Rattle.std.proofs.Common.{refl, subst, arith}
use Rattle.synth_top.specs.Task.{IsMaking}
use Rattle.synth_top.proofs.Makings.{making_leaves, reads_no_fault}
use Rattle.synth_top.proofs.Tasks.{asked_for, unread}
use Rattle.synth_top.proofs.synth.Goals as goal

-- the words ask to edit
pub returns-in-Ok-Edit-clause-ended : goal.returns-in-Ok-Edit-clause-ended
returns-in-Ok-Edit-clause-ended g c =
    asked_for _ _ _ (rw c.in-Ok-Edit.field-0-is at c.in-Ok-Edit.ensures.task) c.edit.ensures.ended

pub returns-in-Ok-Edit-clause-untouched : goal.returns-in-Ok-Edit-clause-untouched
returns-in-Ok-Edit-clause-untouched g c = λ making.
    absurd (subst IsMaking (rw c.in-Ok-Edit.field-0-is at c.in-Ok-Edit.ensures.task) making)

-- they ask to make a program
pub returns-in-Ok-Make-clause-ended : goal.returns-in-Ok-Make-clause-ended
returns-in-Ok-Make-clause-ended g c =
    asked_for _ _ _ (rw c.in-Ok-Make.field-0-is at c.in-Ok-Make.ensures.task)
    (record {
      made = c.make.ensures.made;
      left = refl;
      reads = refl;
      source = g.S.Source.leads_to_itself c.args.keys.now;
      files = refl;
    })

pub returns-in-Ok-Make-clause-read : goal.returns-in-Ok-Make-clause-read
returns-in-Ok-Make-clause-read g c = record {
  later = omega arith;
  rose = λ fault. absurd (reads_no_fault c.make.result _ _ _ c.make.ensures.made fault);
  same = λ other. refl;
  last = λ e. refl;
}

pub returns-in-Ok-Make-clause-source : goal.returns-in-Ok-Make-clause-source
returns-in-Ok-Make-clause-source g c =
    making_leaves c.make.result _ _ _ _ _ c.make.ensures.made (g.S.Source.leads_to_itself c.args.keys.now)

-- no task is known
pub returns-in-Err-clause-ended : goal.returns-in-Err-clause-ended
returns-in-Err-clause-ended g c =
    unread _ _ _ _ _ c.in-Err.ensures.bad (g.S.Source.leads_to_itself c.args.keys.now)
