-- Each turn of the loop reads one byte and presses its keys, so that as many bytes were read as turns were made, and
-- all their keys were shown. Where the loop is left, by a read, by a key or by the limit, this and what the last call
-- did are what the status says.
use Rattle.std.proofs.Common.{◌≡◌, ◌∙◌, refl, ap, arith, Err}
use Rattle.std.proofs.KnownBytes.{Consumes-nil}
use Rattle.synth_session.specs.PlainSession.{PlainSession}
use Rattle.synth_top.specs.Private.PlainForms.{plain_options}
use Rattle.synth_top.proofs.ClaimedFiles.{told_itself}
use Rattle.synth_top.proofs.CountsInTurn.{counts_shot}
use Rattle.synth_top.proofs.Courses.{opening_failed, opening_wanted}
use Rattle.synth_top.proofs.EditorRuns.{so_far_none, so_far_more, ended_by_byte, read_failed, read_wanted, ended_at_end, ended_at_limit}
use Rattle.synth_top.proofs.editor.run.Goals as goal

-- the opening screen was cut short
pub returns-in-Err-Failed-clause-runs : goal.returns-in-Err-Failed-clause-runs
returns-in-Err-Failed-clause-runs g c =
    opening_failed _ _ _ _ _ refl refl c.in-Err-Failed.ensures.wrote.front c.start.ensures.session refl (told_itself _) (counts_shot _ _ _ c.start.ensures.counts)
    (g.S.Source.leads_to_itself c.args.keys.now)

pub returns-in-Err-OutOfMemory-clause-runs : goal.returns-in-Err-OutOfMemory-clause-runs
returns-in-Err-OutOfMemory-clause-runs g c =
    opening_wanted _ _ _ _ _ refl refl c.in-Err-OutOfMemory.ensures.wrote.front c.start.ensures.session refl (told_itself _) (counts_shot _ _ _ c.start.ensures.counts)
    (c.in-Err-OutOfMemory.ensures.wrote.want.rose (ap Err c.in-Err-OutOfMemory.field-0-is))
    (g.S.Source.leads_to_itself c.args.keys.now)

-- the opening screen was written
pub loop-init : goal.loop-init
loop-init g c = record {
  so_far = so_far_none _ _ _ _ _ _ refl refl c.new-reader.ensures
      (record {
        wrote = c.in-Ok.ensures.wrote.all;
        state = ap (λ (s : PlainSession). record { session = s; files = (g.F.Files.told c.args.files.now).stored }) c.start.ensures.session;
        shown = c.in-Ok.ensures.shown;
        unwanted = c.in-Ok.ensures.wrote.want.same (λ e. absurd (cc));
        faults = refl;
        wants = refl;
        counts = counts_shot _ _ _ c.start.ensures.counts;
      });
  ready = c.start.ensures.ready;
  unfailed_reads = refl;
  unfailed_writes = c.in-Ok.ensures.wrote.cause.same (λ e. absurd (cc));
  led = g.S.Source.leads_to_itself c.args.keys.now;
}

-- a key of the byte ended the run
pub returns-in-Over-clause-runs : goal.returns-in-Over-clause-runs
returns-in-Over-clause-runs g c =
    ended_by_byte _ _ _ _ _ _ _ _ c.loop.invariant.so_far _ _ _ c.in-Ok-Some.byte _ _ c.feed-given.ensures.keys c.feed-given.ensures.held
    (rw c.in-Ok-Some.field-0-is at c.in-Ok-Some.ensures.byte) c.in-Ok-Some.ensures.one c.in-Over.status (omega arith) c.in-Over.ensures.presses.pressed
    (c.in-Ok-Some.ensures.led _ c.loop.invariant.led)

-- all keys of the byte were shown
pub loop-preserved : goal.loop-preserved
loop-preserved g c = record {
  so_far = so_far_more _ (plain_options c.args.options.now) _ _ _ _ _ _ c.loop.invariant.so_far _ _ _ c.in-Ok-Some.byte _ _ c.feed-given.ensures.keys c.feed-given.ensures.held
      (rw c.in-Ok-Some.field-0-is at c.in-Ok-Some.ensures.byte) c.in-Ok-Some.ensures.one _ refl c.in_default.ensures.presses.pressed;
  ready = c.press_keys.ensures.ready;
  unfailed_reads = c.in-Ok-Some.ensures.cause.same (λ e. absurd (cc)) ∙ c.loop.invariant.unfailed_reads;
  unfailed_writes = c.in_default.ensures.presses.cause.same (λ e. absurd (cc)) ∙ c.loop.invariant.unfailed_writes;
  led = c.in-Ok-Some.ensures.led _ c.loop.invariant.led;
}

-- a read gave no answer
pub returns-in-Err-Failed-read_byte-clause-runs : goal.returns-in-Err-Failed-read_byte-clause-runs
returns-in-Err-Failed-read_byte-clause-runs g c =
    let lost = c.in-Err-Failed-read_byte.ensures.lost in
    read_failed _ _ _ _ _ _ _ _ c.loop.invariant.so_far _ _ _ lost.0 (omega arith) lost.1 lost.2 c.in-Err-Failed-read_byte.ensures.one refl
    (c.in-Err-Failed-read_byte.ensures.broke _ c.loop.invariant.led)

pub returns-in-Err-OutOfMemory-read_byte-clause-runs : goal.returns-in-Err-OutOfMemory-read_byte-clause-runs
returns-in-Err-OutOfMemory-read_byte-clause-runs g c =
    let lost = c.in-Err-OutOfMemory-read_byte.ensures.lost in
    read_wanted _ _ _ _ _ _ _ _ c.loop.invariant.so_far _ _ _ lost.0 (omega arith) lost.1 lost.2 c.in-Err-OutOfMemory-read_byte.ensures.one refl
    (c.in-Err-OutOfMemory-read_byte.ensures.broke _ c.loop.invariant.led)

-- the source ended
pub returns-in-Ok-None-clause-runs : goal.returns-in-Ok-None-clause-runs
returns-in-Ok-None-clause-runs g c =
    let read = rw c.in-Ok-None.field-0-is at c.in-Ok-None.ensures.byte in
    rw c.ended_as.ensures
    (ended_at_end _ _ _ _ _ _ _ _ c.loop.invariant.so_far _ _ _ read.0 read.1 (omega arith) c.in-Ok-None.ensures.one c.finish.result c.finish.ensures.presses.pressed
    (c.in-Ok-None.ensures.led _ c.loop.invariant.led))

-- the limit was met
pub returns-clause-runs : goal.returns-clause-runs
returns-clause-runs g c =
    let all : c.loop.counter ≡ c.args.options.now.key_limit = omega arith in
    rw c.ended_as-2.ensures
    (ended_at_limit _ _ _ _ _ _ _ _ c.loop.invariant.so_far _ _ _ (Consumes-nil _) all refl c.finish-2.result c.finish-2.ensures.presses.pressed
    c.loop.invariant.led)
