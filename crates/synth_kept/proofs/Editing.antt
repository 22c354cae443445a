-- What the editor did over a journal, by what became of the journal.
use Rattle.std.proofs.Common.{◌≡◌, ℕ, ◌+◌, ◌≤◌, ◌⊎◌, inl, inr, false, List, [], ◌∷◌, ◌++◌, length, refl, sym, ap, ◌∙◌, subst, arith, Some, None, Option, append-nil, append_assoc}
use Rattle.std.specs.Prelude.{◌≢◌, IfSome, IsSome}
use Rattle.std.proofs.KnownBytes.{Consumes-nil}
use Rattle.std.specs.Io.KnownBytes.{Consumes}
use Rattle.plcs_base.specs.PlainCounts.{PlainCounts}
use Rattle.synth_outside.specs.Files.{PlainFiles}
use Rattle.key_journal.specs.AfterReads.{BreaksAt, KeepsAll, KeepsAllButLast, LeadsTo}
use Rattle.key_journal.specs.Crash.{LeavesBetween, LeavesOneOf, LeavesOnly, Throughout}
use Rattle.key_journal.specs.Disk.{DiskState, Newest}
use Rattle.key_journal.specs.Journal.{PlainJournalKeys, left_of_both}
use Rattle.key_journal.specs.Recovered.{kept_keys, recovered}
use Rattle.synth_kept.specs.Closing.{ClearsWhere, Closing}
use Rattle.synth_kept.specs.Closing.Closing.{Cleared, LeftStanding, NotCleared}
use Rattle.synth_kept.specs.KeptWholeRun.{AreKeys, JournalWholeRun, KeptTold, TellsBoth, WholeRunByTask, told_editor}
use Rattle.synth_kept.specs.Private.Agreement.{ClosesAsDue}
use Rattle.synth_top.specs.declared.status.Status.{Status}
use Rattle.synth_top.specs.declared.status.Status.TheVariants.{Done, ReadFault, WriteFault, NoMemory, BadWords, KeyLimit}
use Rattle.synth_top.specs.WholeRun.{Ended, LeavesSource, NoneLost, NotOpened, QuitPressed, Ran, ReadCut, TaskEnded, Told, ToldStreams}
use Rattle.synth_top.specs.Status.{LeftAs}
use Rattle.synth_top.specs.Loads.{first_state}
use Rattle.synth_top.specs.Options.{PlainOptions}
use Rattle.synth_top.specs.Task.{IsMaking, PlainTask}
use Rattle.synth_top.specs.Task.PlainTask.{Edit, Make}
use Rattle.synth_kept.proofs.GivenKeys.{given_all, given_before}
use Rattle.synth_kept.proofs.Limits.{IsLimited, IsLimitedTask}
use Rattle.synth_kept.proofs.Moments.{newest_weaker, one_of_all, still_told, throughout_both, throughout_same, throughout_weaker}
use Rattle.synth_kept.proofs.PressedKeys.{leaves_given}
use Rattle.synth_kept.proofs.Quits.{clears_at_quit, stands_undone}

-- the bytes that the editor was given by reads that were Ok
told_all : (left left_after : Option (List ℕ)) (past now : List DiskState) (given : ℕ) (taken bytes : List ℕ) →
    IsSome left → past ≢ [] → Consumes left left_after taken → KeepsAll past now given taken →
    Consumes (left_of_both left past 0) (left_of_both left_after now given) bytes →
    AreKeys (kept_keys past) taken [] bytes × (length bytes ≡ given)
told_all None left_after past now given taken bytes source disk took keeps read = absurd (cc (source))
told_all (Some left) left_after [] now given taken bytes source disk took keeps read = absurd (disk refl)
told_all (Some left) None (state ∷ past) now given taken bytes source disk took keeps read = absurd took
told_all (Some left) (Some left_after) (state ∷ past) [] given taken bytes source disk took keeps read =
    absurd (still_told _ (state ∷ past) [] keeps.each disk refl)
told_all (Some left) (Some left_after) (state ∷ past) (next ∷ now) given taken bytes source disk took keeps read =
    given_all _ left left_after bytes taken _ given took keeps.safe.reads keeps.within keeps.behind read

-- and by such reads and then one that wasn't
told_before : (left left_after : Option (List ℕ)) (past now : List DiskState) (given ends : ℕ)
    (taken last bytes lost : List ℕ) → IsSome left → past ≢ [] → Consumes left left_after (taken ++ last) →
    KeepsAllButLast past now given taken last →
    Consumes (left_of_both left past 0) (left_of_both left_after now given) (bytes ++ lost) →
    length bytes ≡ given + ends → (ends ≡ 0) ⊎ (last ≡ []) → AreKeys (kept_keys past) taken last bytes
told_before None left_after past now given ends taken last bytes lost source disk took keeps read many none = absurd (cc (source))
told_before (Some left) left_after [] now given ends taken last bytes lost source disk took keeps read many none = absurd (disk refl)
told_before (Some left) None (state ∷ past) now given ends taken last bytes lost source disk took keeps read many none = absurd took
told_before (Some left) (Some left_after) (state ∷ past) [] given ends taken last bytes lost source disk took keeps read many none =
    absurd (still_told _ (state ∷ past) [] keeps.each disk refl)
told_before (Some left) (Some left_after) (state ∷ past) (next ∷ now) given ends taken last bytes lost source disk took keeps read many none =
    given_before _ left left_after bytes lost taken last _ given ends took keeps.safe.reads keeps.within keeps.behind read many none

-- a journal that was opened keeps the keys that were kept before
pub kept_still : (origin past : List DiskState) → Throughout (LeavesOnly (kept_keys origin)) origin past →
    Newest (LeavesOnly (kept_keys origin)) past → kept_keys past ≡ kept_keys origin
kept_still [] past each safe = ap kept_keys each
kept_still (state ∷ origin) [] each safe = absurd (still_told _ (state ∷ origin) [] each (λ never. cc (never)) refl)
kept_still (state ∷ origin) (next ∷ past) each safe = safe.reads

-- and the same is left to read
left_still : (left : Option (List ℕ)) (origin past : List DiskState) → Throughout (LeavesOnly (kept_keys origin)) origin past →
    kept_keys past ≡ kept_keys origin → left_of_both left past 0 ≡ left_of_both left origin 0
left_still None origin past each same = refl
left_still (Some left) [] [] each same = refl
left_still (Some left) [] (next ∷ past) each same = absurd (cc (each))
left_still (Some left) (state ∷ origin) [] each same = absurd (still_told _ (state ∷ origin) [] each (λ never. cc (never)) refl)
left_still (Some left) (state ∷ origin) (next ∷ past) each same = ap (λ (keys : List ℕ). Some (keys ++ left)) same

-- a crash that leaves the keys leaves them and none of the others
between_none : (keys more : List ℕ) (state : DiskState) → LeavesOnly keys state → LeavesBetween keys (keys ++ more) state
between_none keys more state only = record {
  images = λ image left. front (recovered image) (only.images image left);
  reads = front (recovered state.bytes) only.reads;
} where
  front : (found : List ℕ) → found ≡ keys → (some : List ℕ) × (rest : List ℕ) × (found ≡ keys ++ some) × (keys ++ more ≡ found ++ rest)
  front found same = ([], more, same ∙ sym (append-nil keys), ap (λ (l : List ℕ). l ++ more) (sym same))

-- the moments from before a journal was opened
from_origin : (origin past now : List DiskState) (more : List ℕ) → Throughout (LeavesOnly (kept_keys origin)) origin past →
    kept_keys past ≡ kept_keys origin → Throughout (LeavesBetween (kept_keys past) (kept_keys past ++ more)) past now →
    Throughout (LeavesBetween (kept_keys origin) (kept_keys origin ++ more)) origin now
from_origin origin past now more opens same each =
    throughout_both _ origin past now
    (throughout_weaker _ _ origin past (between_none (kept_keys origin) more) opens)
    (subst (λ (keys : List ℕ). Throughout (LeavesBetween keys (keys ++ more)) past now) same each)

-- ---- a run over a journal

module _ {S D : Type 0} (left : S → Option (List ℕ)) (source_faults : S → ℕ)
    (leads_to breaks_at : S → S → Type 0) (past : D → List DiskState) (disk_faults : D → ℕ)
    (first now : PlainJournalKeys S D) (none_given : first.given ≡ 0) (not_ended : first.ended ≡ false)
    (none_read : first.reads ≡ 0)
    (origin : List DiskState)
    (opens : Throughout (LeavesOnly (kept_keys origin)) origin (past first.disk))
    (is_safe : Newest (LeavesOnly (kept_keys origin)) (past first.disk))
    (written written_after : Option (List ℕ)) (wants wants_after : ℕ) (files files_after : PlainFiles)
    (counts counts_after : PlainCounts) where
  abbrev pub before : KeptTold
  before = record {
    left = left first.inner;
    past = origin;
    taken = written;
    wants = wants;
    files = files;
    counts = counts;
  }

  abbrev pub after : KeptTold
  after = record {
    left = left now.inner;
    past = past now.disk;
    taken = written_after;
    wants = wants_after;
    files = files_after;
    counts = counts_after;
  }

  abbrev Leads : Type 0
  Leads = LeadsTo left source_faults leads_to past disk_faults first now

  abbrev Breaks : Type 0
  Breaks = BreaksAt left source_faults leads_to breaks_at past disk_faults first now

  -- what is told before the run, with this left and so many reads
  abbrev pub told_first : Option (List ℕ) → ℕ → Told
  told_first bytes reads = record {
    streams = record { left = bytes; reads = reads; taken = written; wants = wants };
    files = files;
    counts = counts;
  }

  -- the run that `synth` says of
  abbrev pub SynthEnded : Status → PlainOptions → Type 0
  SynthEnded run options = Ended run options
      (told_first (left_of_both (left first.inner) (past first.disk) first.given) first.reads)
      (told_editor after now.given now.reads) Leads Breaks

  -- the task that `synth` says of
  abbrev pub SynthTaskEnded : Status → PlainTask → Type 0
  SynthTaskEnded run task = TaskEnded task run
      (told_first (left_of_both (left first.inner) (past first.disk) first.given) first.reads)
      (told_editor after now.given now.reads) Leads Breaks

  same : kept_keys (past first.disk) ≡ kept_keys origin
  same = kept_still origin (past first.disk) opens is_safe

  left_same : left_of_both (left first.inner) (past first.disk) 0 ≡ left_of_both (left first.inner) origin 0
  left_same = left_still (left first.inner) origin (past first.disk) opens same

  safe : Newest (LeavesOnly (kept_keys (past first.disk))) (past first.disk)
  safe = subst (λ (keys : List ℕ). Newest (LeavesOnly keys) (past first.disk)) (sym same) is_safe

  from_first : (run : Status) (options : PlainOptions) → SynthEnded run options →
      Ended run options (told_editor before 0 0) (told_editor after now.given now.reads) Leads Breaks
  from_first run options ended =
      subst (λ (bytes : Option (List ℕ)). Ended run options (told_first bytes 0) (told_editor after now.given now.reads) Leads Breaks)
      (ap (λ (given : ℕ). left_of_both (left first.inner) (past first.disk) given) none_given ∙ left_same)
      (subst (λ (reads : ℕ). Ended run options (told_first (left_of_both (left first.inner) (past first.disk) first.given) reads) (told_editor after now.given now.reads) Leads Breaks)
      none_read ended)

  -- a run that left its source so instead
  abbrev with_source : (run : Status) (options : PlainOptions) {led broke led_so broke_so : Type 0}
      (ended : Ran run options (told_editor before 0 0) (told_editor after now.given now.reads) led broke)
      → LeavesSource ended.course led_so broke_so
      → Ran run options (told_editor before 0 0) (told_editor after now.given now.reads) led_so broke_so
  with_source run options ended source = record {
    loads = ended.loads;
    can_load = ended.can_load;
    course = ended.course;
    wants = ended.wants;
    wants_later = ended.wants_later;
    stopped = ended.stopped;
    source = source;
    rescue = ended.rescue;
    rescued = ended.rescued;
    wants_now = ended.wants_now;
    files = ended.files;
    faults = ended.faults;
    counts = ended.counts;
  }

  few_given : first.given ≤ length (kept_keys (past first.disk))
  few_given = omega (arith, none_given)

  module _ (run : Status) (options : PlainOptions) (limited : IsLimited options) (closing : Closing)
      (agrees : ClosesAsDue closing run now.given now.ended) (same_outside : Type 0)
      (ended : Ran run options (told_editor before 0 0) (told_editor after now.given now.reads) Leads Breaks) where
    -- the bytes that were read, from the disk that was opened
    read_first : Consumes (left_of_both (left first.inner) (past first.disk) 0) (left_of_both (left now.inner) (past now.disk) now.given) (ended.course.bytes ++ ended.course.lost)
    read_first =
        subst (λ (bytes : Option (List ℕ)). Consumes bytes (left_of_both (left now.inner) (past now.disk) now.given) (ended.course.bytes ++ ended.course.lost))
        (sym left_same) ended.course.read

    read_ok : NoneLost ended.course → Consumes (left_of_both (left first.inner) (past first.disk) 0) (left_of_both (left now.inner) (past now.disk) now.given) ended.course.bytes
    read_ok none_lost =
        subst (Consumes (left_of_both (left first.inner) (past first.disk) 0) (left_of_both (left now.inner) (past now.disk) now.given))
        (ap (λ (lost : List ℕ). ended.course.bytes ++ lost) none_lost ∙ append-nil ended.course.bytes) read_first

    told_then : TellsBoth before → past first.disk ≢ []
    told_then told = still_told _ origin (past first.disk) opens told.disk

    -- all reads were Ok
    edits_all : Leads → NoneLost ended.course →
        JournalWholeRun (Some (Edit options)) run closing before after same_outside (leads_to first.inner now.inner) (breaks_at first.inner now.inner)
    edits_all leads none_lost =
        let keeps = leads.keeps few_given safe in
        let given_keys : TellsBoth before → AreKeys (kept_keys (past first.disk)) leads.taken [] ended.course.bytes × (length ended.course.bytes ≡ now.given) =
        λ told. told_all (left first.inner) (left now.inner) (past first.disk) (past now.disk) now.given leads.taken ended.course.bytes
        told.source (told_then told) leads.consumes keeps (read_ok none_lost) in
        let are : TellsBoth before → AreKeys (kept_keys origin) leads.taken [] ended.course.bytes =
        λ told. subst (λ (keys : List ℕ). AreKeys keys leads.taken [] ended.course.bytes) same (given_keys told).0 in
        let safe_now : Newest (LeavesOneOf (kept_keys origin ++ leads.taken) []) (past now.disk) =
        newest_weaker _ _ (past now.disk) (one_of_all (kept_keys origin ++ leads.taken))
        (subst (λ (keys : List ℕ). Newest (LeavesOnly (keys ++ leads.taken)) (past now.disk)) same keeps.safe) in
        record {
          taken = leads.taken;
          last = [];
          took = subst (Consumes (left first.inner) (left now.inner)) (sym (append-nil leads.taken)) leads.consumes;
          few = omega arith;
          failed = inl refl;
          each = subst (λ (all : List ℕ). Throughout (LeavesBetween (kept_keys origin) all) origin (past now.disk))
              (sym (append-nil (kept_keys origin ++ leads.taken)))
              (from_origin origin (past first.disk) (past now.disk) leads.taken opens same keeps.each);
          safe = safe_now;
          edits = record {
            given = now.given;
            reads = now.reads;
            ended = inr (with_source run options ended (inl (leads.source, none_lost)));
            keys = are;
            none_lost = λ told. leaves_given (kept_keys origin) leads.taken [] ended.course.bytes (past now.disk) (are told) safe_now;
            quit = λ told.
                clears_at_quit options limited (first_state options files.stored ended.loads) (told_editor before 0 0).streams (told_editor after now.given now.reads).streams files.wants ended.wants ended.course refl
                now.given leads.counts.ends now.ended (given_keys told).1
                (λ few. let counted = leads.counts.counted few in omega (arith, counted, none_given, none_read))
                (leads.counts.noted not_ended)
                (leads.counts.stays not_ended told.source (still_told _ (past first.disk) (past now.disk) keeps.each (told_then told)))
                run closing ended.stopped agrees;
          };
        }

    -- a read wasn't Ok
    edits_before : Breaks → ReadCut ended.course → (run ≡ ReadFault) ⊎ (run ≡ NoMemory) →
        JournalWholeRun (Some (Edit options)) run closing before after same_outside (leads_to first.inner now.inner) (breaks_at first.inner now.inner)
    edits_before breaks cut why =
        let keeps = breaks.keeps few_given safe in
        let undone : run ≡ Done → ⊥ = λ done. elim why as (λ _. ⊥) [ inl fault ↦ absurd (cc (fault, done)) | inr want ↦ absurd (cc (want, done)) ] in
        let are : TellsBoth before → AreKeys (kept_keys origin) breaks.taken breaks.last ended.course.bytes =
        λ told. subst (λ (keys : List ℕ). AreKeys keys breaks.taken breaks.last ended.course.bytes) same
        (told_before (left first.inner) (left now.inner) (past first.disk) (past now.disk) now.given breaks.counts.ends
        breaks.taken breaks.last ended.course.bytes ended.course.lost told.source (told_then told) breaks.consumes keeps read_first
        (let made : now.reads ≡ length ended.course.bytes + 1 = omega (arith, ended.course.made, cut.one_more, cut.below, limited) in
        let counted = breaks.counts.counted (omega (arith, made, cut.below, limited)) in
        omega (arith, made, counted, none_given, none_read))
        (breaks.counts.none_behind not_ended told.source (still_told _ (past first.disk) (past now.disk) keeps.each (told_then told)))) in
        let safe_now : Newest (LeavesOneOf (kept_keys origin ++ breaks.taken) breaks.last) (past now.disk) =
        subst (λ (keys : List ℕ). Newest (LeavesOneOf (keys ++ breaks.taken) breaks.last) (past now.disk)) same keeps.safe in
        record {
          taken = breaks.taken;
          last = breaks.last;
          took = breaks.consumes;
          few = breaks.few;
          failed = inr why;
          each = subst (λ (all : List ℕ). Throughout (LeavesBetween (kept_keys origin) all) origin (past now.disk))
              (sym (append_assoc (kept_keys origin) breaks.taken breaks.last))
              (from_origin origin (past first.disk) (past now.disk) (breaks.taken ++ breaks.last) opens same
              (subst (λ (all : List ℕ). Throughout (LeavesBetween (kept_keys (past first.disk)) all) (past first.disk) (past now.disk))
              (append_assoc (kept_keys (past first.disk)) breaks.taken breaks.last) keeps.each));
          safe = safe_now;
          edits = record {
            given = now.given;
            reads = now.reads;
            ended = inr (with_source run options ended (inr (breaks.source, cut)));
            keys = are;
            none_lost = λ told. leaves_given (kept_keys origin) breaks.taken breaks.last ended.course.bytes (past now.disk) (are told) safe_now;
            quit = λ told. stands_undone (QuitPressed ended.course) run now.given now.ended closing undone agrees;
          };
        }

  -- no session was opened
  edits_unopened : (run : Status) (options : PlainOptions) (closing : Closing) → ClosesAsDue closing run now.given now.ended → (same_outside : Type 0)
      → NotOpened run options (told_editor before 0 0) (told_editor after now.given now.reads) Leads
      → JournalWholeRun (Some (Edit options)) run closing before after same_outside (leads_to first.inner now.inner) (breaks_at first.inner now.inner)
  edits_unopened run options closing agrees same_outside unopened =
      let leads = unopened.source in
      let keeps = leads.keeps few_given safe in
      let undone : run ≡ Done → ⊥ = λ done. cc (unopened.wanted, done) in
      let unread : left_of_both (left now.inner) (past now.disk) now.given ≡ left_of_both (left first.inner) (past first.disk) 0 =
      ap (λ (told : ToldStreams). told.left) unopened.same ∙ sym left_same in
      let read_none : Consumes (left_of_both (left first.inner) (past first.disk) 0) (left_of_both (left now.inner) (past now.disk) now.given) [] =
      subst (λ (bytes : Option (List ℕ)). Consumes (left_of_both (left first.inner) (past first.disk) 0) bytes []) (sym unread) (Consumes-nil _) in
      let are : TellsBoth before → AreKeys (kept_keys origin) leads.taken [] [] =
      λ told. subst (λ (keys : List ℕ). AreKeys keys leads.taken [] []) same
      (told_all (left first.inner) (left now.inner) (past first.disk) (past now.disk) now.given leads.taken []
      told.source (still_told _ origin (past first.disk) opens told.disk) leads.consumes keeps read_none).0 in
      let safe_now : Newest (LeavesOneOf (kept_keys origin ++ leads.taken) []) (past now.disk) =
      newest_weaker _ _ (past now.disk) (one_of_all (kept_keys origin ++ leads.taken))
      (subst (λ (keys : List ℕ). Newest (LeavesOnly (keys ++ leads.taken)) (past now.disk)) same keeps.safe) in
      record {
        taken = leads.taken;
        last = [];
        took = subst (Consumes (left first.inner) (left now.inner)) (sym (append-nil leads.taken)) leads.consumes;
        few = omega arith;
        failed = inl refl;
        each = subst (λ (all : List ℕ). Throughout (LeavesBetween (kept_keys origin) all) origin (past now.disk))
            (sym (append-nil (kept_keys origin ++ leads.taken)))
            (from_origin origin (past first.disk) (past now.disk) leads.taken opens same keeps.each);
        safe = safe_now;
        edits = record {
          given = now.given;
          reads = now.reads;
          ended = inl (record {
            wanted = unopened.wanted;
            same = unopened.same;
            source = leads.source;
            stored = unopened.stored;
            faults = unopened.faults;
            wants = unopened.wants;
            counts = unopened.counts;
          });
          keys = are;
          none_lost = λ told. leaves_given (kept_keys origin) leads.taken [] [] (past now.disk) (are told) safe_now;
          quit = λ told. stands_undone ⊥ run now.given now.ended closing undone agrees;
        };
      }

  -- by how the editor ended
  edits_ran : (run : Status) (options : PlainOptions) → IsLimited options → (closing : Closing) → ClosesAsDue closing run now.given now.ended →
      (same_outside : Type 0) → LeftAs run Leads Breaks →
      Ran run options (told_editor before 0 0) (told_editor after now.given now.reads) Leads Breaks →
      JournalWholeRun (Some (Edit options)) run closing before after same_outside (leads_to first.inner now.inner) (breaks_at first.inner now.inner)
  edits_ran Done options limited closing agrees same_outside left_as e =
      edits_all Done options limited closing agrees same_outside e left_as e.stopped.1
  edits_ran KeyLimit options limited closing agrees same_outside left_as e =
      edits_all KeyLimit options limited closing agrees same_outside e left_as e.stopped.1
  edits_ran WriteFault options limited closing agrees same_outside left_as e =
      edits_all WriteFault options limited closing agrees same_outside e left_as e.stopped.0
  edits_ran ReadFault options limited closing agrees same_outside left_as e =
      edits_before ReadFault options limited closing agrees same_outside e left_as e.stopped.1 (inl refl)
  edits_ran NoMemory options limited closing agrees same_outside left_as e =
      elim e.source as (λ _. JournalWholeRun (Some (Edit options)) NoMemory closing before after same_outside (leads_to first.inner now.inner) (breaks_at first.inner now.inner)) [
        | inl all ↦ edits_all NoMemory options limited closing agrees same_outside e all.0 all.1
        | inr cut ↦ edits_before NoMemory options limited closing agrees same_outside e cut.0 cut.1 (inr refl)
      ]
  edits_ran BadWords options limited closing agrees same_outside left_as e = absurd e.stopped

  edits_by : (run : Status) (options : PlainOptions) → IsLimited options → (closing : Closing) → ClosesAsDue closing run now.given now.ended →
      (same_outside : Type 0) → LeftAs run Leads Breaks → SynthEnded run options →
      JournalWholeRun (Some (Edit options)) run closing before after same_outside (leads_to first.inner now.inner) (breaks_at first.inner now.inner)
  edits_by run options limited closing agrees same_outside left_as ended =
      elim (from_first run options ended)
      as (λ _. JournalWholeRun (Some (Edit options)) run closing before after same_outside (leads_to first.inner now.inner) (breaks_at first.inner now.inner)) [
        | inl unopened ↦ edits_unopened run options closing agrees same_outside unopened
        | inr e ↦ edits_ran run options limited closing agrees same_outside left_as e
      ]

  -- where no key was read, whatever was done
  unread_edits : (task : Option PlainTask) (run : Status) (closing : Closing) (same_outside : Type 0) → now ≡ first →
      WholeRunByTask task run closing before after [] [] same_outside (leads_to first.inner now.inner)
      (breaks_at first.inner now.inner) →
      JournalWholeRun task run closing before after same_outside (leads_to first.inner now.inner)
      (breaks_at first.inner now.inner)
  unread_edits task run closing same_outside unread edits = record {
    taken = [];
    last = [];
    took = subst (λ (journal : PlainJournalKeys S D). Consumes (left first.inner) (left journal.inner) []) (sym unread) (Consumes-nil (left first.inner));
    few = omega arith;
    failed = inl refl;
    each = subst (λ (all : List ℕ). Throughout (LeavesBetween (kept_keys origin) all) origin (past now.disk))
        (sym (append-nil (kept_keys origin ++ [])))
        (from_origin origin (past first.disk) (past now.disk) [] opens same
        (subst (λ (journal : PlainJournalKeys S D). Throughout (LeavesBetween (kept_keys (past first.disk)) (kept_keys (past first.disk) ++ [])) (past first.disk) (past journal.disk))
        (sym unread) (throughout_same _ (past first.disk))));
    safe = subst (λ (journal : PlainJournalKeys S D). Newest (LeavesOneOf (kept_keys origin ++ []) []) (past journal.disk)) (sym unread)
        (newest_weaker _ _ (past first.disk) (one_of_all (kept_keys origin ++ []))
        (subst (λ (keys : List ℕ). Newest (LeavesOnly keys) (past first.disk)) (sym (append-nil (kept_keys origin))) is_safe));
    edits = edits;
  }

  -- words that aren't of the command
  edits_none : (run : Status) (closing : Closing) (same_outside : Type 0) →
      (run ≡ BadWords) ⊎ (run ≡ NoMemory) → now ≡ first → same_outside →
      JournalWholeRun None run closing before after same_outside (leads_to first.inner now.inner)
      (breaks_at first.inner now.inner)
  edits_none run closing same_outside refused unread outside =
      unread_edits None run closing same_outside unread (record { refused = refused; none = refl; outside = outside })

  -- a journal of which no key was given isn't to be cleared
  stands : (run : Status) (closing : Closing) → ClosesAsDue closing run now.given now.ended → now ≡ first →
      ClearsWhere ⊥ closing
  stands run LeftStanding agrees unread = λ never. never
  stands run Cleared agrees unread =
      agrees.some (ap (λ (journal : PlainJournalKeys S D). journal.given) unread ∙ none_given)
  stands run (NotCleared fault) agrees unread =
      agrees.some (ap (λ (journal : PlainJournalKeys S D). journal.given) unread ∙ none_given)

  -- a program was made
  edits_made : (number : ℕ) (run : Status) (closing : Closing) → ClosesAsDue closing run now.given now.ended →
      (same_outside : Type 0) → now ≡ first → SynthTaskEnded run (Make number) →
      JournalWholeRun (Some (Make number)) run closing before after same_outside (leads_to first.inner now.inner)
      (breaks_at first.inner now.inner)
  edits_made number run closing agrees same_outside unread ended =
      unread_edits (Some (Make number)) run closing same_outside unread
      (record {
        made = ended.made;
        none = refl;
        source = ended.source.source;
        files = ended.files;
        standing = stands run closing agrees unread;
      })

  -- by the task
  pub edits_with : (task : Option PlainTask) → IfSome task IsLimitedTask → (run : Status) (closing : Closing) →
      ClosesAsDue closing run now.given now.ended → (same_outside : Type 0) →
      (task ≡ None → ((run ≡ BadWords) ⊎ (run ≡ NoMemory)) × (now ≡ first) × same_outside) →
      (IsMaking task → now ≡ first) → LeftAs run Leads Breaks →
      IfSome task (λ asked. SynthTaskEnded run asked) →
      JournalWholeRun task run closing before after same_outside (leads_to first.inner now.inner) (breaks_at first.inner now.inner)
  edits_with None limited run closing agrees same_outside bad untouched left_as ended =
      edits_none run closing same_outside (bad refl).0 (bad refl).1 (bad refl).2
  edits_with (Some (Edit options)) limited run closing agrees same_outside bad untouched left_as ended =
      edits_by run options limited closing agrees same_outside left_as ended
  edits_with (Some (Make number)) limited run closing agrees same_outside bad untouched left_as ended =
      edits_made number run closing agrees same_outside (untouched tt) ended
