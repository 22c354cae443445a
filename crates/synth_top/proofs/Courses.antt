-- What a run has done, from what its keys did.
use Rattle.std.proofs.Common.{◌≡◌, IsTrue, ◌≤◌, ◌⊎◌, ℕ, ◌+◌, false, List, [], ◌∷◌, ◌++◌, Option, None, length, take, refl, sym, ap, ◌∙◌, subst, append-nil, arith, length-append, inl, inr}
use Rattle.std.proofs.lemmas.List.{take_all}
use Rattle.std.proofs.Math.Seq.{take-append-add}
use Rattle.std.proofs.KnownBytes.{Appends-trans, Consumes-nil}
use Rattle.std.specs.Io.KnownBytes.{Appends, Consumes}
use Rattle.plcs_base.specs.Count.{Rose, RoseBy, raised_by}
use Rattle.plcs_base.specs.PlainCounts.{PlainCounts}
use Rattle.synth_outside.specs.Sink.{AppendsFront}
use Rattle.synth_outside.specs.Files.{PlainFiles}
use Rattle.synth_session.specs.declared.key.Key.{Key}
use Rattle.synth_session.specs.KeyReply.{CountsWant, Reply}
use Rattle.synth_session.specs.KeyRequest.{request}
use Rattle.synth_session.specs.MemoryTaken.{key_takes_memory}
use Rattle.synth_session.specs.PlainSession.{PlainSession}
use Rattle.synth_session.specs.Press.{press}
use Rattle.synth_session.specs.SessionView.{CountsWanted}
use Rattle.synth_session.specs.SessionScreen.{grid}
use Rattle.synth_top.specs.declared.status.Status.{Status}
use Rattle.synth_top.specs.declared.status.Status.TheVariants.{WriteFault, NoMemory}
use Rattle.synth_top.specs.Keys.{IsFront, completed, keys}
use Rattle.synth_top.specs.Counted.{CountsFor}
use Rattle.synth_top.specs.Options.{PlainOptions}
use Rattle.synth_top.specs.Private.Pressing.{AllShown, Moment, UpToLast, state_at}
use Rattle.synth_top.specs.Private.EditorRuns.{EditorRuns}
use Rattle.synth_top.specs.WholeRun.{AtLastKey, Course, NoKeyComes, LeavesSource, OpeningCut, ReadsInTurn, Stopped, Told, ToldStreams, all_shots, fetches_due, opening, painted_over, run_bill, state_after, written}
use Rattle.synth_top.specs.Turn.{HasReply, HaveReplies, IsToldAs, LeftAtLast, PressedKey, EditorState, bills, state_after_keys, ends, failures, grids, keys_pressed, no_bill, shot_of, shots}
use Rattle.synth_top.proofs.CountsInTurn.{counts_both, counts_within, due_after}
use Rattle.synth_top.proofs.TurnsInOrder.{ended_left}

-- what is told of keys and screens at a moment, and of all
abbrev pub told_at : Option (List ℕ) → ℕ → Moment → ToldStreams
told_at left reads m = record { left = left; reads = reads; taken = m.taken; wants = m.wanted }

abbrev pub whole_at : Option (List ℕ) → ℕ → Moment → Told
whole_at left reads m = record { streams = told_at left reads m; files = m.files; counts = m.counts }

-- the opening screen of a state was written, and the files are as before
pub record Opened (first : EditorState) (before : Told) (m : Moment) : Type 0 where
  pub wrote : Appends before.streams.taken m.taken (opening first.session)
  pub state : state_at m ≡ first
  pub shown : m.shown ≡ grid first.session
  pub unwanted : m.wanted ≡ before.streams.wants
  pub faults : m.files.faults ≡ before.files.faults
  pub wants : m.files.wants ≡ before.files.wants
  pub counts : CountsFor no_bill (shot_of first.session ∷ []) None before.counts m.counts

-- no byte of keys was read before the keys that those before it complete
abbrev pub InTurn : List ℕ → List PressedKey → Type 0
InTurn bytes pressed = (seen : List ℕ) (newest : ℕ) → bytes ≡ seen ++ newest ∷ [] → IsFront (completed seen) (keys_pressed pressed)

-- ---- the opening screen was cut short

-- no list with a byte at its end is empty
pub one_byte : (seen : List ℕ) (newest : ℕ) → [] ≡ seen ++ newest ∷ [] → ⊥
one_byte [] newest e = absurd (cc)
one_byte (first ∷ rest) newest e = absurd (cc)

module _ (options : PlainOptions) (first : EditorState) (before now : Told) (session : PlainSession)
    (read : now.streams.left ≡ before.streams.left) (unread : now.streams.reads ≡ before.streams.reads)
    (front : AppendsFront before.streams.taken now.streams.taken (opening first.session)) (same : session ≡ first.session)
    (untouched : now.files ≡ before.files) (told : IsToldAs first.files before.files.stored)
    (counts : CountsFor no_bill (shot_of first.session ∷ []) None before.counts now.counts) where
  opening_wrote : Appends before.streams.taken now.streams.taken (take front.0 (written first []))
  unfolding written
  opening_wrote = subst (λ l. Appends before.streams.taken now.streams.taken (take front.0 l)) (sym (append-nil (opening first.session))) front.1

  abbrev opening_course : Course options first before.streams now.streams
  opening_course = record {
    bytes = [];
    lost = [];
    read = subst (λ left. Consumes before.streams.left left []) (sym read) (Consumes-nil before.streams.left);
    one = omega arith;
    within = omega arith;
    reads = 0;
    made = omega (arith, unread);
    pressed = [];
    can_reply = tt;
    left = tt;
    in_order = (keys [], refl);
    complete = inl (completed [], refl);
    count = front.0;
    wrote = opening_wrote;
  }

  opening_cut : OpeningCut opening_course
  opening_cut = record { no_read = refl; no_byte = refl; no_key = refl }

  opening_runs : (status : Status) (stopped : Stopped opening_course before.files.wants now.files.wants status)
      → fetches_due opening_course before.files.wants now.files.wants status stopped ≡ None → {after_reads after_fault : Type 0} → after_reads
      → EditorRuns status options first before now after_reads after_fault session
  opening_runs status stopped due led = record {
    course = opening_course;
    stopped = stopped;
    source = inl (led, refl);
    session_is = same;
    files = subst (λ (files : PlainFiles). IsToldAs first.files files.stored) (sym untouched) told;
    faults = omega (arith, ap (λ (files : PlainFiles). files.faults) untouched);
    wants = omega (arith, ap (λ (files : PlainFiles). files.wants) untouched);
    counts = subst
        (λ (d : Option ℕ). CountsFor (run_bill opening_course before.files.wants now.files.wants status stopped) (all_shots opening_course) d before.counts now.counts)
        (sym due)
        (counts_within no_bill (run_bill opening_course before.files.wants now.files.wants status stopped) (all_shots opening_course) None
        before.counts now.counts (omega arith) (omega arith) counts);
  }

  pub opening_failed : {after_reads after_fault : Type 0} → after_reads → EditorRuns WriteFault options first before now after_reads after_fault session
  opening_failed led = opening_runs WriteFault (refl, inl opening_cut) refl led

  pub opening_wanted : {after_reads after_fault : Type 0} → Rose before.streams.wants now.streams.wants → after_reads
      → EditorRuns NoMemory options first before now after_reads after_fault session
  opening_wanted rose led = opening_runs NoMemory (inr (inl (refl, inl opening_cut, rose))) refl led

module _ (options : PlainOptions) (first : EditorState) (before : Told) (opened m : Moment) (left : Option (List ℕ)) (now_reads : ℕ)
    (is_opened : Opened first before opened) where
  -- all that is written, from the opening screen on
  written_is : (ps : List PressedKey) → written first ps ≡ opening first.session ++ painted_over opened.shown (grids (state_at opened) ps)
  unfolding written
  written_is ps =
      ap (λ s. opening first.session ++ painted_over (grid first.session) (grids s ps)) (sym is_opened.state)
      ∙ ap (λ g. opening first.session ++ painted_over g (grids (state_at opened) ps)) (sym is_opened.shown)

  pub length_is : (ps : List PressedKey)
      → length (written first ps) ≡ length (opening first.session) + length (painted_over opened.shown (grids (state_at opened) ps))
  length_is ps = ap length (written_is ps) ∙ length-append (opening first.session) (painted_over opened.shown (grids (state_at opened) ps))

  -- what was counted, from the opening screen on, and what was due
  pub counts_all : (ps : List PressedKey) (due : Option ℕ) (now : PlainCounts)
      → CountsFor (bills (state_at opened) ps) (shots (state_at opened) ps) due opened.counts now
      → CountsFor (bills first ps) (shot_of first.session ∷ shots first ps) (due_after (shot_of first.session ∷ []) due) before.counts now
  counts_all ps due now counts =
      counts_both no_bill (bills first ps) (bills first ps) (shot_of first.session ∷ []) (shots first ps) due before.counts opened.counts now
      (omega arith) (omega arith) is_opened.counts
      (subst (λ (s : EditorState). CountsFor (bills s ps) (shots s ps) due opened.counts now) is_opened.state counts)

  -- what can be replied to a key after some, and what it counts
  pub reply_after : (ps : List PressedKey) (pressed : PressedKey) → HasReply (state_after_keys (state_at opened) ps) pressed
      → HasReply (state_after_keys first ps) pressed
  reply_after ps pressed can = subst (λ (s : EditorState). HasReply (state_after_keys s ps) pressed) is_opened.state can

  pub work_after : (ps : List PressedKey) (key : Key) (reply : Reply) (b c : PlainCounts)
      → CountsWanted (press (state_after_keys (state_at opened) ps).session key reply) b c
      → CountsWanted (press (state_after_keys first ps).session key reply) b c
  work_after ps key reply b c work = subst (λ (s : EditorState). CountsWanted (press (state_after_keys s ps).session key reply) b c) is_opened.state work

  -- what is seen after some keys: the session, the map that is claimed, and the faults of the files
  session_after : (ps : List PressedKey) → m.session ≡ (state_after_keys (state_at opened) ps).session → m.session ≡ (state_after_keys first ps).session
  session_after ps is = is ∙ ap (λ s. (state_after_keys s ps).session) is_opened.state

  files_told_after : (ps : List PressedKey) → IsToldAs (state_after_keys (state_at opened) ps).files m.files.stored → IsToldAs (state_after_keys first ps).files m.files.stored
  files_told_after ps told = subst (λ s. IsToldAs (state_after_keys s ps).files m.files.stored) is_opened.state told

  faults_after : (ps : List PressedKey) → RoseBy (failures ps) opened.files.faults m.files.faults → RoseBy (failures ps) before.files.faults m.files.faults
  faults_after ps faults = omega (arith, is_opened.faults, faults)

  -- ---- all keys were shown
  module _ (bytes lost : List ℕ) (read : Consumes before.streams.left left (bytes ++ lost)) (one : length lost ≤ 1) (within : length bytes ≤ options.key_limit)
      (reads : ℕ) (made : now_reads ≡ raised_by reads before.streams.reads) (ps : List PressedKey) (all : AllShown opened m ps) (order : IsFront (keys_pressed ps) (keys bytes))
      (complete : IsFront (keys_pressed ps) (completed bytes) ⊎ NoKeyComes options (told_at left now_reads m) bytes reads) where
    pub all_wrote : Appends before.streams.taken m.taken (take (length (written first ps)) (written first ps))
    all_wrote =
        subst (Appends before.streams.taken m.taken)
        (sym (take_all (length (written first ps)) (written first ps) (omega arith) ∙ written_is ps))
        (Appends-trans before.streams.taken opened.taken m.taken _ _ is_opened.wrote all.wrote)

    abbrev pub all_course : Course options first before.streams (told_at left now_reads m)
    all_course = record {
      bytes = bytes;
      lost = lost;
      read = read;
      one = one;
      within = within;
      reads = reads;
      made = made;
      pressed = ps;
      can_reply = subst (λ s. HaveReplies s ps) is_opened.state all.can_reply;
      left = ended_left first ps all.ended;
      in_order = order;
      complete = complete;
      count = length (written first ps);
      wrote = all_wrote;
    }

    -- none ended the session
    pub all_going : ends first ps ≡ false
    all_going = subst (λ s. ends s ps ≡ false) is_opened.state all.going

    -- what a key takes after them, and how it counts wants
    pub all_takes : (key : Key) → IsTrue (key_takes_memory (state_after_keys (state_at opened) ps).session key) → IsTrue (key_takes_memory (state_after_keys first ps).session key)
    all_takes key takes = subst (λ (s : EditorState). IsTrue (key_takes_memory (state_after_keys s ps).session key)) is_opened.state takes

    pub all_counts : (key : Key) (now : ℕ) → CountsWant (request (state_after_keys (state_at opened) ps).session key) opened.files.wants now
        → CountsWant (request (state_after_keys first ps).session key) before.files.wants now
    all_counts key now counts =
        subst (λ (s : EditorState). CountsWant (request (state_after_keys s ps).session key) before.files.wants now) is_opened.state
        (subst (λ wants. CountsWant (request (state_after_keys (state_at opened) ps).session key) wants now) is_opened.wants counts)

    -- the run that stopped so after them, with what was counted then
    pub all_runs_counting : (status : Status) → before.files.wants ≤ m.files.wants → (stopped : Stopped all_course before.files.wants m.files.wants status)
        (counts : PlainCounts)
        → CountsFor (run_bill all_course before.files.wants m.files.wants status stopped) (all_shots all_course)
        (fetches_due all_course before.files.wants m.files.wants status stopped) before.counts counts
        → {after_reads after_fault : Type 0} → LeavesSource all_course after_reads after_fault
        → EditorRuns status options first before (whole_at left now_reads (record m { counts = counts })) after_reads after_fault m.session
    all_runs_counting status wants stopped counts counted source = record {
      course = all_course;
      stopped = stopped;
      source = source;
      session_is = session_after ps all.session;
      files = files_told_after ps all.files;
      faults = faults_after ps all.faults;
      wants = wants;
      counts = counted;
    }

    -- the run where nothing more was counted
    pub all_runs : (status : Status) → before.files.wants ≤ m.files.wants → (stopped : Stopped all_course before.files.wants m.files.wants status)
        → fetches_due all_course before.files.wants m.files.wants status stopped ≡ None → {after_reads after_fault : Type 0}
        → LeavesSource all_course after_reads after_fault
        → EditorRuns status options first before (whole_at left now_reads m) after_reads after_fault m.session
    all_runs status wants stopped due source =
        all_runs_counting status wants stopped m.counts
        (subst
        (λ (d : Option ℕ). CountsFor (run_bill all_course before.files.wants m.files.wants status stopped) (all_shots all_course) d before.counts m.counts)
        (sym due)
        (counts_within (bills first ps) (run_bill all_course before.files.wants m.files.wants status stopped) (all_shots all_course) None
        before.counts m.counts (omega arith) (omega arith) (counts_all ps None m.counts all.counts)))
        source

  -- ---- keys were shown up to a last one
  module _ (bytes : List ℕ) (read : Consumes before.streams.left left (bytes ++ [])) (within : length bytes ≤ options.key_limit)
      (reads : ℕ) (made : now_reads ≡ raised_by reads before.streams.reads) (earlier : List PressedKey) (last : PressedKey) (count : ℕ) {due : Option ℕ} (up_to : UpToLast opened m earlier last count due)
      (order : IsFront (keys_pressed (earlier ++ last ∷ [])) (keys bytes))
      (complete : IsFront (keys_pressed (earlier ++ last ∷ [])) (completed bytes) ⊎ NoKeyComes options (told_at left now_reads m) bytes reads) where
    pub last_wrote : Appends before.streams.taken m.taken (take (length (opening first.session) + count) (written first (earlier ++ last ∷ [])))
    last_wrote =
        let screens = painted_over opened.shown (grids (state_at opened) (earlier ++ last ∷ [])) in
        subst (Appends before.streams.taken m.taken)
        (sym (ap (take (length (opening first.session) + count)) (written_is (earlier ++ last ∷ [])) ∙ take-append-add (opening first.session) screens count))
        (Appends-trans before.streams.taken opened.taken m.taken (opening first.session) (take count screens) is_opened.wrote up_to.wrote)

    abbrev pub last_course : Course options first before.streams (told_at left now_reads m)
    last_course = record {
      bytes = bytes;
      lost = [];
      read = read;
      one = omega arith;
      within = within;
      reads = reads;
      made = made;
      pressed = earlier ++ last ∷ [];
      can_reply = subst (λ s. HaveReplies s (earlier ++ last ∷ [])) is_opened.state up_to.can_reply;
      left = subst (λ s. LeftAtLast s (earlier ++ last ∷ [])) is_opened.state up_to.left;
      in_order = order;
      complete = complete;
      count = length (opening first.session) + count;
      wrote = last_wrote;
    }

    abbrev pub at_last : InTurn bytes earlier → ReadsInTurn options (told_at left now_reads m) bytes reads earlier → AtLastKey last_course
    at_last in_turn reads_in_turn = record {
      earlier = earlier;
      last = last;
      is_last = refl;
      going = subst (λ s. ends s earlier ≡ false) is_opened.state up_to.going;
      shown = omega (arith, length_is earlier, up_to.whole);
      taken = record { in_turn = in_turn; reads = reads_in_turn };
    }

    -- whether the last one ended the session
    pub last_ends : ends first (earlier ++ last ∷ []) ≡ ends (state_at opened) (earlier ++ last ∷ [])
    last_ends = ap (λ s. ends s (earlier ++ last ∷ [])) (sym is_opened.state)

    -- all was written
    pub last_all : length (painted_over opened.shown (grids (state_at opened) (earlier ++ last ∷ []))) ≤ count
        → length (written first (earlier ++ last ∷ [])) ≤ length (opening first.session) + count
    last_all all = omega (arith, length_is (earlier ++ last ∷ []), all)

    -- the session at the last one
    pub last_session : m.session ≡ (state_after last_course).session
    last_session = session_after (earlier ++ last ∷ []) up_to.session

    -- the run that stopped so at the last one
    pub last_runs : (status : Status) (stopped : Stopped last_course before.files.wants m.files.wants status)
        → due_after (shot_of first.session ∷ []) due ≡ fetches_due last_course before.files.wants m.files.wants status stopped
        → {after_reads after_fault : Type 0} → after_reads
        → EditorRuns status options first before (whole_at left now_reads m) after_reads after_fault m.session
    last_runs status stopped all_due led = record {
      course = last_course;
      stopped = stopped;
      source = inl (led, refl);
      session_is = last_session;
      files = files_told_after (earlier ++ last ∷ []) up_to.files;
      faults = faults_after (earlier ++ last ∷ []) up_to.faults;
      wants = omega (arith, up_to.wants, is_opened.wants);
      counts = subst
          (λ (d : Option ℕ). CountsFor (run_bill last_course before.files.wants m.files.wants status stopped) (all_shots last_course) d before.counts m.counts)
          all_due
          (counts_within (bills first (earlier ++ last ∷ [])) (run_bill last_course before.files.wants m.files.wants status stopped) (all_shots last_course)
          (due_after (shot_of first.session ∷ []) due) before.counts m.counts (omega arith) (omega arith)
          (counts_all (earlier ++ last ∷ []) due m.counts up_to.counts));
    }
