use Rattle.std.proofs.Common.{refl, arith, set, length-set}
use Rattle.key_journal.proofs.BytesLeft.{set_first, gives_key, gives_end, gives_fault}
use Rattle.key_journal.proofs.MoreReads.{leads_key, leads_end, breaks}
use Rattle.key_journal.proofs.Held.{holds_least, stays_unsynced}
use Rattle.key_journal.proofs.journal.JournalKeysSource.read.Goals as goal

pub invariant_of-self-in-Err : goal.invariant_of-self-in-Err
invariant_of-self-in-Err g c = record {
  holds = stays_unsynced c.self.inside.stage _ _ c.self.inside.given _ _ _ c.self.invariant c.in-Err.ensures.read;
  few = c.self.invariant.few;
}

pub returns-in-Ok-Some-clause-acknowledged : goal.returns-in-Ok-Some-clause-acknowledged
returns-in-Ok-Some-clause-acknowledged g c =
    holds_least c.next_key.new.stage _ _ (rw c.in-Ok-Some.field-0-is at c.in-Ok-Some.ensures.holds).0

pub returns-in-Ok-None-clause-acknowledged : goal.returns-in-Ok-None-clause-acknowledged
returns-in-Ok-None-clause-acknowledged g c =
    holds_least c.next_key.new.stage _ _ (rw c.in-Ok-None.field-0-is at c.in-Ok-None.ensures.holds)

pub returns-in-Err-clause-acknowledged : goal.returns-in-Err-clause-acknowledged
returns-in-Err-clause-acknowledged g c =
    stays_unsynced c.self.inside.stage _ _ c.self.inside.given _ _ _ c.self.invariant c.in-Err.ensures.read

pub returns-in-Ok-Some-clause-bytes : goal.returns-in-Ok-Some-clause-bytes
returns-in-Ok-Some-clause-bytes g c =
    rw (← c.self.view_is) (gives_key _ _ c.self.inside.given c.in-Ok-Some.key _ _
    (set c.args.buf.now 0 c.in-Ok-Some.key)
    (holds_least c.self.inside.stage c.self.inside.given _ c.self.invariant.holds)
    (rw c.in-Ok-Some.field-0-is at c.in-Ok-Some.ensures.read)
    (set_first c.args.buf.now c.in-Ok-Some.key c.requires)
    (omega (arith, c.requires, length-set c.args.buf.now 0 c.in-Ok-Some.key)))

pub returns-in-Ok-None-clause-bytes : goal.returns-in-Ok-None-clause-bytes
returns-in-Ok-None-clause-bytes g c =
    rw (← c.self.view_is) (gives_end _ _ c.self.inside.given _ _ c.args.buf.now (rw c.in-Ok-None.field-0-is at c.in-Ok-None.ensures.read))

pub returns-in-Err-clause-bytes : goal.returns-in-Err-clause-bytes
returns-in-Err-clause-bytes g c =
    rw (← c.self.view_is) (gives_fault _ _ c.self.inside.given _ _ c.args.buf.now c.in-Err.fault
    (holds_least c.self.inside.stage c.self.inside.given _ c.self.invariant.holds) c.in-Err.ensures.read c.requires)

pub returns-in-Ok-Some-clause-led : goal.returns-in-Ok-Some-clause-led
returns-in-Ok-Some-clause-led g c = λ first. rw (← c.self.view_is) (λ leads.
    leads_key _ _ _ _ _ first _ _ c.in-Ok-Some.key leads (c.in-Ok-Some.ensures.led first.inner)
    c.in-Ok-Some.ensures.cause.source_same c.in-Ok-Some.ensures.cause.disk_same
    (rw c.in-Ok-Some.field-0-is at c.in-Ok-Some.ensures.read) refl (omega arith) refl)

pub returns-in-Ok-None-clause-led : goal.returns-in-Ok-None-clause-led
returns-in-Ok-None-clause-led g c = λ first. rw (← c.self.view_is) (λ leads.
    leads_end _ _ _ _ _ first _ _ leads (c.in-Ok-None.ensures.led first.inner)
    c.in-Ok-None.ensures.cause.source_same c.in-Ok-None.ensures.cause.disk_same
    (rw c.in-Ok-None.field-0-is at c.in-Ok-None.ensures.read) refl (omega arith) refl)

pub returns-in-Err-clause-broke : goal.returns-in-Err-clause-broke
returns-in-Err-clause-broke g c = λ first. rw (← c.self.view_is) (λ leads.
    breaks _ _ _ _ _ _ first _ _ c.in-Err.fault leads (c.in-Err.ensures.broke first.inner)
    c.in-Err.ensures.cause.source_later c.in-Err.ensures.cause.disk_later c.in-Err.ensures.read refl (omega arith))
