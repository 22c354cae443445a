-- What is said of the task that words ask for, whatever it is.
use Rattle.std.proofs.Common.{◌≡◌, ◌⊎◌, inl, inr, ℕ, Option, Some, None, IfSome, refl, sym, subst, arith}
use Rattle.plcs_base.specs.PlainCounts.{PlainCounts}
use Rattle.synth_top.specs.declared.status.Status.{Status}
use Rattle.synth_top.specs.declared.status.Status.TheVariants.{BadWords, NoMemory}
use Rattle.synth_top.specs.Making.{PartMade}
use Rattle.synth_top.specs.Task.{PlainTask}
use Rattle.synth_top.specs.Task.PlainTask.{Edit, Make}
use Rattle.synth_top.specs.WholeRun.{MakingEnded, TaskEnded, Told}
use Rattle.synth_top.proofs.MadeKeys.{unopened_made}

-- what is so of a task is so of the one that is asked for, where that is it
pub asked_for : (asked : Option PlainTask) (task : PlainTask) (P : PlainTask → Type 0) → asked ≡ Some task → P task
    → IfSome asked P
asked_for asked task P is so = subst (λ (o : Option PlainTask). IfSome o P) (sym is) so

-- of a program that is to be made no key was pressed yet
none_pressed : (number : ℕ) (u : PlainCounts) → PartMade number u u
none_pressed number u =
    unopened_made number u u
    (record {
      checked = omega arith;
      checked_later = omega arith;
      emitted = omega arith;
      emitted_later = omega arith;
      fetched = refl;
      laid = refl;
    })

-- words that ask for a task were refused for want of memory alone
ran_out : (task : PlainTask) (status : Status) → (status ≡ NoMemory) ⊎ ((status ≡ BadWords) × (Some task ≡ None))
    → status ≡ NoMemory
ran_out task status (inl wanted) = wanted
ran_out task status (inr bad) = absurd (cc (bad.1))

-- where words were refused and nothing was done, the task that they ask for, if they do, ended with want of memory
pub unread : (asked : Option PlainTask) (status : Status) (told : Told) (after_reads after_fault : Type 0)
    → (status ≡ NoMemory) ⊎ ((status ≡ BadWords) × (asked ≡ None)) → after_reads
    → IfSome asked (λ task. TaskEnded task status told told after_reads after_fault)
unread None status told after_reads after_fault refused led = tt
unread (Some (Edit options)) status told after_reads after_fault refused led =
    inl (record {
      wanted = ran_out (Edit options) status refused;
      same = refl;
      source = led;
      stored = refl;
      faults = omega arith;
      wants = omega arith;
      counts = inl refl;
    })
unread (Some (Make number)) status told after_reads after_fault refused led =
    subst (λ (s : Status). MakingEnded s number told told after_reads) (sym (ran_out (Make number) status refused))
    (record {
      made = inl (record { made = none_pressed number told.counts; taken = refl; wants = refl });
      left = refl;
      reads = refl;
      source = led;
      files = refl;
    })
