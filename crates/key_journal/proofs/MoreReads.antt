-- What became of a journal after some reads, and one more.
use Rattle.std.proofs.Common.{◌≡◌, ℕ, ◌+◌, ◌≤◌, ◌<◌, ◌⊎◌, inl, inr, List, [], ◌∷◌, ◌++◌, length, drop, refl, sym, ap, ◌∙◌, subst, arith, length-append, append-nil, append_assoc, Ok, Err, Some, None, Option, true, false}
use Rattle.std.specs.Prelude.{◌≢◌, IsSome}
use Rattle.plcs_base.specs.Count.{raised}
use Rattle.std.specs.Io.KnownBytes.{Consumes, IsAtEnd}
use Rattle.std.proofs.KnownBytes.{Consumes-trans}
use Rattle.key_journal.specs.AfterReads.{BreaksAt, CountsEnds, CountsJournalFault, KeepsAll, KeepsAllButLast, LeadsTo}
use Rattle.key_journal.specs.Crash.{LeavesBetween, LeavesOneOf, LeavesOnly, Throughout}
use Rattle.key_journal.specs.Disk.{DiskState, Newest}
use Rattle.key_journal.specs.Journal.{PlainJournalKeys}
use Rattle.key_journal.specs.JournalRead.{Ends, Gave, ReadsKey}
use Rattle.key_journal.specs.Recovered.{recovered, kept_keys}
use Rattle.key_journal.proofs.BytesLeft.{ends_before, get_below, told_after}
use Rattle.key_journal.proofs.Moments.{newest_after, throughout_both, throughout_weaker}

-- keys between the first and all that were taken are between more
between_grown : (first taken more : List ℕ) (state : DiskState) → LeavesBetween first (first ++ taken) state →
    LeavesBetween first (first ++ (taken ++ more)) state
between_grown first taken more state between = record {
  images = λ image left. grown (recovered image) (between.images image left);
  reads = grown (recovered state.bytes) between.reads;
} where
  grown : (found : List ℕ) →
      ((some : List ℕ) × (rest : List ℕ) × (found ≡ first ++ some) × (first ++ taken ≡ found ++ rest)) →
      (some : List ℕ) × (rest : List ℕ) × (found ≡ first ++ some) × (first ++ (taken ++ more) ≡ found ++ rest)
  grown found parts = (
    parts.0,
    parts.1 ++ more,
    parts.2,
    sym (append_assoc first taken more) ∙ ap (λ (keys : List ℕ). keys ++ more) parts.3 ∙
        append_assoc found parts.1 more,
  )

-- all that were taken, or one more, are between the first and that one
between_one : (first taken more : List ℕ) (state : DiskState) → LeavesOneOf (first ++ taken) more state →
    LeavesBetween first (first ++ (taken ++ more)) state
between_one first taken more state one = record {
  images = λ image left. either (recovered image) (one.images image left);
  reads = either (recovered state.bytes) one.reads;
} where
  either : (found : List ℕ) → (found ≡ first ++ taken) ⊎ (found ≡ (first ++ taken) ++ more) →
      (some : List ℕ) × (rest : List ℕ) × (found ≡ first ++ some) × (first ++ (taken ++ more) ≡ found ++ rest)
  either found (inl same) =
      (taken, more, same, sym (append_assoc first taken more) ∙ ap (λ (keys : List ℕ). keys ++ more) (sym same))
  either found (inr whole) = (
    taken ++ more,
    [],
    whole ∙ append_assoc first taken more,
    sym (append_assoc first taken more) ∙ sym whole ∙ sym (append-nil found),
  )

-- at each moment over both
moments_grown : (first old now : List DiskState) (given : ℕ) (taken more : List ℕ) →
    KeepsAll first old given taken → kept_keys old ≡ kept_keys first ++ taken →
    Throughout (LeavesOneOf (kept_keys old) more) old now →
    Throughout (LeavesBetween (kept_keys first) (kept_keys first ++ (taken ++ more))) first now
moments_grown first old now given taken more keeps same each =
    throughout_both _ first old now
    (throughout_weaker _ _ first old (between_grown (kept_keys first) taken more) keeps.each)
    (throughout_weaker _ _ old now (between_one (kept_keys first) taken more)
    (subst (λ (keys : List ℕ). Throughout (LeavesOneOf keys more) old now) same each))

-- a disk that tells nothing keeps what it keeps
untold_keeps : (now : List DiskState) (given : ℕ) (taken : List ℕ) → now ≡ [] → KeepsAll [] now given taken
untold_keeps now given taken none =
    subst (λ (states : List DiskState). KeepsAll [] states given taken) (sym none)
    (record { each = refl; safe = tt; within = tt; behind = inr tt })

-- one more key was given
pub keeps_key : (first old now : List DiskState) (given key : ℕ) (taken more : List ℕ) →
    KeepsAll first old given taken → length more ≤ 1 → (more ≡ []) ⊎ (drop given (kept_keys old) ≡ []) →
    Throughout (LeavesOneOf (kept_keys old) more) old now → Newest (Gave given key (kept_keys old ++ more)) now →
    KeepsAll first now (given + 1) (taken ++ more)
keeps_key [] [] now given key taken more keeps few behind each gave = untold_keeps now (given + 1) (taken ++ more) each
keeps_key [] (state ∷ old) now given key taken more keeps few behind each gave = absurd (cc (keeps.each))
keeps_key (start ∷ first) [] now given key taken more keeps few behind each gave =
    absurd (told_after _ start first keeps.each)
keeps_key (start ∷ first) (state ∷ old) [] given key taken more keeps few behind each gave =
    absurd (told_after _ state old each)
keeps_key (start ∷ first) (state ∷ old) (next ∷ now) given key taken more keeps few behind each gave =
    let keys : List ℕ = recovered start.bytes ++ taken in
    let same : recovered state.bytes ≡ keys = keeps.safe.reads in
    let all : recovered state.bytes ++ more ≡ recovered start.bytes ++ (taken ++ more) =
    ap (λ (keys : List ℕ). keys ++ more) same ∙ append_assoc (recovered start.bytes) taken more in
    let below : given + 1 ≤ length (recovered state.bytes ++ more) =
    let under : given < length (recovered state.bytes ++ more) = get_below _ given key gave.next in omega (arith, under) in
    let total : length (recovered state.bytes ++ more) ≡ length keys + length more =
    length-append (recovered state.bytes) more ∙ ap (λ (keys : List ℕ). length keys + length more) same in
    let whole : length (recovered start.bytes ++ (taken ++ more)) ≡ length keys + length more =
    ap length (sym all) ∙ total in
    record {
      each = moments_grown (start ∷ first) (state ∷ old) (next ∷ now) given taken more keeps same each;
      safe = subst (λ (keys : List ℕ). LeavesOnly keys next) all gave.safe;
      within = omega (arith, below, total, whole);
      behind = placed behind keeps.behind below total whole;
    } where
      placed : (more ≡ []) ⊎ (drop given (recovered state.bytes) ≡ []) →
          (taken ≡ []) ⊎ (given ≡ length (recovered start.bytes ++ taken)) →
          given + 1 ≤ length (recovered state.bytes ++ more) →
          length (recovered state.bytes ++ more) ≡ length (recovered start.bytes ++ taken) + length more →
          length (recovered start.bytes ++ (taken ++ more)) ≡ length (recovered start.bytes ++ taken) + length more →
          (taken ++ more ≡ []) ⊎ (given + 1 ≡ length (recovered start.bytes ++ (taken ++ more)))
      placed (inl none) (inl nothing) below total whole = inl (rw (none, nothing) refl)
      placed (inl none) (inr at_end) below total whole =
          let zero_more : length more ≡ 0 = ap length none in absurd (omega (arith, below, total, zero_more, at_end))
      placed (inr ended) taken_all below total whole =
          let ends : length (recovered state.bytes) ≤ given = ends_before _ given ended in
          let sum : length (recovered state.bytes ++ more) ≡ length (recovered state.bytes) + length more =
          length-append (recovered state.bytes) more in
          inr (omega (arith, ends, sum, below, total, whole, few))

-- it was the end
pub keeps_end : (first old now : List DiskState) (given : ℕ) (taken more : List ℕ)
    (left : Option (List ℕ)) → KeepsAll first old given taken →
    Throughout (LeavesOneOf (kept_keys old) more) old now → Ends left given (kept_keys old) more now →
    KeepsAll first now given (taken ++ more)
keeps_end [] [] now given taken more left keeps each ends = untold_keeps now given (taken ++ more) each
keeps_end [] (state ∷ old) now given taken more left keeps each ends = absurd (cc (keeps.each))
keeps_end (start ∷ first) [] now given taken more left keeps each ends =
    absurd (told_after _ start first keeps.each)
keeps_end (start ∷ first) (state ∷ old) [] given taken more left keeps each ends =
    absurd (told_after _ state old each)
keeps_end (start ∷ first) (state ∷ old) (next ∷ now) given taken more left keeps each ends =
    let same : recovered state.bytes ≡ recovered start.bytes ++ taken = keeps.safe.reads in
    let no_more : taken ++ more ≡ taken = ap (λ (keys : List ℕ). taken ++ keys) ends.none ∙ append-nil taken in
    record {
      each = moments_grown (start ∷ first) (state ∷ old) (next ∷ now) given taken more keeps same each;
      safe = subst (λ (keys : List ℕ). LeavesOnly keys next)
          (same ∙ ap (λ (keys : List ℕ). recovered start.bytes ++ keys) (sym no_more)) ends.safe;
      within = subst (λ (keys : List ℕ). given ≤ length (recovered start.bytes ++ keys)) (sym no_more) keeps.within;
      behind = subst (λ (keys : List ℕ). (keys ≡ []) ⊎ (given ≡ length (recovered start.bytes ++ keys))) (sym no_more) keeps.behind;
    }

-- it wasn't Ok
pub keeps_fault : (first old now : List DiskState) (given : ℕ) (taken more : List ℕ) →
    KeepsAll first old given taken → (more ≡ []) ⊎ (drop given (kept_keys old) ≡ []) →
    Throughout (LeavesOneOf (kept_keys old) more) old now → KeepsAllButLast first now given taken more
keeps_fault [] [] now given taken more keeps behind each =
    subst (λ (states : List DiskState). KeepsAllButLast [] states given taken more) (sym each)
    (record { each = refl; safe = tt; within = tt; behind = inr tt })
keeps_fault [] (state ∷ old) now given taken more keeps behind each = absurd (cc (keeps.each))
keeps_fault (start ∷ first) [] now given taken more keeps behind each =
    absurd (told_after _ start first keeps.each)
keeps_fault (start ∷ first) (state ∷ old) [] given taken more keeps behind each =
    absurd (told_after _ state old each)
keeps_fault (start ∷ first) (state ∷ old) (next ∷ now) given taken more keeps behind each =
    let same : recovered state.bytes ≡ recovered start.bytes ++ taken = keeps.safe.reads in
    record {
      each = subst (λ (all : List ℕ). Throughout (LeavesBetween (recovered start.bytes) all) (start ∷ first) (next ∷ now))
          (sym (append_assoc (recovered start.bytes) taken more))
          (moments_grown (start ∷ first) (state ∷ old) (next ∷ now) given taken more keeps same each);
      safe = newest_after (LeavesOneOf (recovered start.bytes ++ taken) more) (state ∷ old) (next ∷ now)
          (record { images = λ image left. inl (keeps.safe.images image left); reads = inl keeps.safe.reads })
          (subst (λ (keys : List ℕ). Throughout (LeavesOneOf keys more) (state ∷ old) (next ∷ now)) same each);
      within = keeps.within;
      behind = placed behind keeps.behind;
    } where
      placed : (more ≡ []) ⊎ (drop given (recovered state.bytes) ≡ []) →
          (taken ≡ []) ⊎ (given ≡ length (recovered start.bytes ++ taken)) →
          (taken ++ more ≡ []) ⊎ (given ≡ length (recovered start.bytes ++ taken))
      placed (inl none) (inl nothing) = inl (rw (none, nothing) refl)
      placed (inl none) (inr at_end) = inr at_end
      placed (inr ended) taken_all =
          let ends : length (recovered state.bytes) ≤ given = ends_before _ given ended in
          let many : length (recovered state.bytes) ≡ length (recovered start.bytes ++ taken) = ap length keeps.safe.reads in
          inr (omega (arith, ends, many, keeps.within))

-- what is left of a told source is told
told_left : (left left_after : Option (List ℕ)) (taken : List ℕ) → Consumes left left_after taken →
    IsSome left → (bytes : List ℕ) × (left_after ≡ Some bytes)
told_left None left_after taken consumes told = absurd (cc)
told_left (Some left) None taken consumes told = absurd consumes
told_left (Some left) (Some bytes) taken consumes told = (bytes, refl)

none_taken : (taken bytes : List ℕ) → [] ≡ taken ++ bytes → taken ≡ []
none_taken [] bytes empty = refl
none_taken (byte ∷ taken) bytes empty = absurd (cc)

-- behind the end of a told source, with all kept keys given, nothing is taken
ended_takes : (left left_after : Option (List ℕ)) (taken : List ℕ) (bytes : List ℕ) → left ≡ Some bytes →
    IsAtEnd left → Consumes left left_after taken → taken ≡ []
ended_takes None left_after taken bytes told ended consumes = absurd (cc)
ended_takes (Some left) None taken bytes told ended consumes = absurd consumes
ended_takes (Some left) (Some after) taken bytes told ended consumes =
    none_taken taken after (sym ended ∙ consumes)

-- and no key is given
no_key_behind : (old now : List DiskState) (given key : ℕ) (more : List ℕ) → more ≡ [] →
    drop given (kept_keys old) ≡ [] → Throughout (LeavesOneOf (kept_keys old) more) old now → now ≢ [] →
    Newest (Gave given key (kept_keys old ++ more)) now → ⊥
no_key_behind old [] given key more none all each told gave = told refl
no_key_behind old (next ∷ now) given key more none all each told gave =
    let below : given < length (kept_keys old ++ more) = get_below _ given key gave.next in
    let total : length (kept_keys old ++ more) ≡ length (kept_keys old) + length more = length-append (kept_keys old) more in
    let zero_more : length more ≡ 0 = ap length none in
    let ends : length (kept_keys old) ≤ given = ends_before _ given all in
    omega (arith, below, total, zero_more, ends)

-- a disk that told nothing before tells nothing
untold_before : (before now : List DiskState) (P : DiskState → Type 0) → before ≡ [] →
    Throughout P before now → now ≡ []
untold_before [] now P none each = each
untold_before (state ∷ before) now P none each = absurd (cc)

-- the ends after one more key
counts_key : {S D E : Type 0} (left : S → Option (List ℕ)) (past : D → List DiskState)
    (first old now : PlainJournalKeys S D) (key : ℕ) (taken : List ℕ) → CountsEnds left past first old →
    Consumes (left first.inner) (left old.inner) taken →
    ReadsKey {E = E} (left old.inner) (left now.inner) old.given (past old.disk) (past now.disk) (Ok (Some key)) →
    now.given ≡ old.given + 1 → now.reads ≡ raised old.reads → now.ended ≡ false →
    CountsEnds left past first now
counts_key left past first old now key taken counts consumes reads one read not_ended = record {
  ends = counts.ends;
  counted = λ few.
      let before : old.reads + first.given ≡ first.reads + old.given + counts.ends = counts.counted (omega (arith, few, read)) in
      omega (arith, few, read, one, before);
  noted = λ fresh none. not_ended;
  at_end = λ fresh ended. absurd (cc);
  stays = λ fresh told disk. still fresh told disk (counts.stays fresh told (old_told disk));
} where
  old_told : past now.disk ≢ [] → past old.disk ≢ []
  old_told disk none = disk (untold_before (past old.disk) (past now.disk) _ none reads.each)

  still : first.ended ≡ false → IsSome (left first.inner) → past now.disk ≢ [] →
      (counts.ends ≡ 0) ⊎ (old.ended ≡ true) → (counts.ends ≡ 0) ⊎ (now.ended ≡ true)
  still fresh told disk (inl none) = inl none
  still fresh told disk (inr ended) =
      let there : (bytes : List ℕ) × (left old.inner ≡ Some bytes) =
      told_left (left first.inner) (left old.inner) taken consumes told in
      let end : IsAtEnd (left old.inner) × (drop old.given (kept_keys (past old.disk)) ≡ []) = counts.at_end fresh ended in
      let none : reads.taken ≡ [] =
      ended_takes (left old.inner) (left now.inner) reads.taken there.0 there.1 end.0 reads.consumes in
      absurd (no_key_behind (past old.disk) (past now.disk) old.given key reads.taken none end.1 reads.each disk reads.answer)

-- what is kept doesn't change at the end
kept_end : (old now : List DiskState) (given : ℕ) (more : List ℕ) (left : Option (List ℕ)) →
    Throughout (LeavesOneOf (kept_keys old) more) old now → Ends left given (kept_keys old) more now →
    drop given (kept_keys now) ≡ []
kept_end [] now given more left each ends =
    ap (λ (states : List DiskState). drop given (kept_keys states)) each ∙ ends.all
kept_end (state ∷ old) [] given more left each ends = absurd (told_after _ state old each)
kept_end (state ∷ old) (next ∷ now) given more left each ends =
    ap (λ (keys : List ℕ). drop given keys) ends.safe.reads ∙ ends.all

-- the ends behind one more
counts_end : {S D E : Type 0} (left : S → Option (List ℕ)) (past : D → List DiskState)
    (first old now : PlainJournalKeys S D) → CountsEnds left past first old →
    ReadsKey {E = E} (left old.inner) (left now.inner) old.given (past old.disk) (past now.disk) (Ok None) →
    now.given ≡ old.given → now.reads ≡ raised old.reads → now.ended ≡ true →
    CountsEnds left past first now
counts_end left past first old now counts reads same read ended = record {
  ends = counts.ends + 1;
  counted = λ few.
      let before : old.reads + first.given ≡ first.reads + old.given + counts.ends = counts.counted (omega (arith, few, read)) in
      omega (arith, few, read, same, before);
  noted = λ fresh none. absurd (omega (arith, none));
  at_end = λ fresh noted. (
    reads.answer.source,
    subst (λ (given : ℕ). drop given (kept_keys (past now.disk)) ≡ []) (sym same)
        (kept_end (past old.disk) (past now.disk) old.given reads.taken (left now.inner) reads.each reads.answer),
  );
  stays = λ fresh told disk. inr ended;
}

-- the ends before a read that wasn't Ok
counts_fault : {S D E : Type 0} (left : S → Option (List ℕ)) (past : D → List DiskState)
    (first old now : PlainJournalKeys S D) (fault : E) (taken : List ℕ) → CountsEnds left past first old →
    Consumes (left first.inner) (left old.inner) taken →
    (reads : ReadsKey {E = E} (left old.inner) (left now.inner) old.given (past old.disk) (past now.disk) (Err fault)) →
    now.given ≡ old.given → now.reads ≡ raised old.reads → CountsJournalFault left past first now reads.taken
counts_fault left past first old now fault taken counts consumes reads same read = record {
  ends = counts.ends;
  counted = λ few.
      let before : old.reads + first.given ≡ first.reads + old.given + counts.ends = counts.counted (omega (arith, few, read)) in
      omega (arith, few, read, same, before);
  none_behind = λ fresh told disk. still fresh told (counts.stays fresh told (old_told disk));
} where
  old_told : past now.disk ≢ [] → past old.disk ≢ []
  old_told disk none = disk (untold_before (past old.disk) (past now.disk) _ none reads.each)

  still : first.ended ≡ false → IsSome (left first.inner) →
      (counts.ends ≡ 0) ⊎ (old.ended ≡ true) → (counts.ends ≡ 0) ⊎ (reads.taken ≡ [])
  still fresh told (inl none) = inl none
  still fresh told (inr ended) =
      let there : (bytes : List ℕ) × (left old.inner ≡ Some bytes) =
      told_left (left first.inner) (left old.inner) taken consumes told in
      inr (ended_takes (left old.inner) (left now.inner) reads.taken there.0 there.1 (counts.at_end fresh ended).0 reads.consumes)

-- a journal after one more key
pub leads_key : {S D E : Type 0} (left : S → Option (List ℕ)) (source_faults : S → ℕ)
    (leads_to : S → S → Type 0) (past : D → List DiskState) (disk_faults : D → ℕ)
    (first old now : PlainJournalKeys S D) (key : ℕ) →
    LeadsTo left source_faults leads_to past disk_faults first old →
    (leads_to first.inner old.inner → leads_to first.inner now.inner) →
    source_faults now.inner ≡ source_faults old.inner → disk_faults now.disk ≡ disk_faults old.disk →
    ReadsKey {E = E} (left old.inner) (left now.inner) old.given (past old.disk) (past now.disk) (Ok (Some key)) →
    now.given ≡ old.given + 1 → now.reads ≡ raised old.reads → now.ended ≡ false →
    LeadsTo left source_faults leads_to past disk_faults first now
leads_key left source_faults leads_to past disk_faults first old now key leads led source_same disk_same reads one read not_ended = record {
  source = led leads.source;
  source_same = source_same ∙ leads.source_same;
  disk_same = disk_same ∙ leads.disk_same;
  taken = leads.taken ++ reads.taken;
  consumes = Consumes-trans (left first.inner) (left old.inner) (left now.inner) leads.taken reads.taken leads.consumes reads.consumes;
  given_later = omega (arith, leads.given_later, one);
  counts = counts_key left past first old now key leads.taken leads.counts leads.consumes reads one read not_ended;
  keeps = λ few safe.
      subst (λ (given : ℕ). KeepsAll (past first.disk) (past now.disk) given (leads.taken ++ reads.taken)) (sym one)
      (keeps_key (past first.disk) (past old.disk) (past now.disk) old.given key leads.taken reads.taken
      (leads.keeps few safe) reads.few reads.behind reads.each reads.answer);
}

-- a journal at the end
pub leads_end : {S D E : Type 0} (left : S → Option (List ℕ)) (source_faults : S → ℕ)
    (leads_to : S → S → Type 0) (past : D → List DiskState) (disk_faults : D → ℕ)
    (first old now : PlainJournalKeys S D) →
    LeadsTo left source_faults leads_to past disk_faults first old →
    (leads_to first.inner old.inner → leads_to first.inner now.inner) →
    source_faults now.inner ≡ source_faults old.inner → disk_faults now.disk ≡ disk_faults old.disk →
    ReadsKey {E = E} (left old.inner) (left now.inner) old.given (past old.disk) (past now.disk) (Ok None) →
    now.given ≡ old.given → now.reads ≡ raised old.reads → now.ended ≡ true →
    LeadsTo left source_faults leads_to past disk_faults first now
leads_end left source_faults leads_to past disk_faults first old now leads led source_same disk_same reads same read ended = record {
  source = led leads.source;
  source_same = source_same ∙ leads.source_same;
  disk_same = disk_same ∙ leads.disk_same;
  taken = leads.taken ++ reads.taken;
  consumes = Consumes-trans (left first.inner) (left old.inner) (left now.inner) leads.taken reads.taken leads.consumes reads.consumes;
  given_later = omega (arith, leads.given_later, same);
  counts = counts_end left past first old now leads.counts reads same read ended;
  keeps = λ few safe.
      subst (λ (given : ℕ). KeepsAll (past first.disk) (past now.disk) given (leads.taken ++ reads.taken)) (sym same)
      (keeps_end (past first.disk) (past old.disk) (past now.disk) old.given leads.taken reads.taken (left now.inner)
      (leads.keeps few safe) reads.each reads.answer);
}

-- a journal after a read that wasn't Ok
pub breaks : {S D E : Type 0} (left : S → Option (List ℕ)) (source_faults : S → ℕ)
    (leads_to breaks_at : S → S → Type 0) (past : D → List DiskState) (disk_faults : D → ℕ)
    (first old now : PlainJournalKeys S D) (fault : E) →
    LeadsTo left source_faults leads_to past disk_faults first old →
    (leads_to first.inner old.inner → leads_to first.inner now.inner ⊎ breaks_at first.inner now.inner) →
    source_faults old.inner ≤ source_faults now.inner → disk_faults old.disk ≤ disk_faults now.disk →
    ReadsKey {E = E} (left old.inner) (left now.inner) old.given (past old.disk) (past now.disk) (Err fault) →
    now.given ≡ old.given → now.reads ≡ raised old.reads →
    BreaksAt left source_faults leads_to breaks_at past disk_faults first now
breaks left source_faults leads_to breaks_at past disk_faults first old now fault leads broke source_later disk_later reads same read = record {
  source = broke leads.source;
  source_later = omega (arith, leads.source_same, source_later);
  disk_later = omega (arith, leads.disk_same, disk_later);
  taken = leads.taken;
  last = reads.taken;
  few = reads.few;
  consumes = Consumes-trans (left first.inner) (left old.inner) (left now.inner) leads.taken reads.taken leads.consumes reads.consumes;
  given_later = omega (arith, leads.given_later, same);
  counts = counts_fault left past first old now fault leads.taken leads.counts leads.consumes reads same read;
  keeps = λ few safe.
      subst (λ (given : ℕ). KeepsAllButLast (past first.disk) (past now.disk) given leads.taken reads.taken) (sym same)
      (keeps_fault (past first.disk) (past old.disk) (past now.disk) old.given leads.taken reads.taken
      (leads.keeps few safe) reads.behind reads.each);
}
