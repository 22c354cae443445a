-- A run, byte by byte.
use Rattle.std.proofs.Common.{◌≡◌, ◌<◌, ◌≤◌, ◌⊎◌, ℕ, ◌+◌, true, false, List, [], ◌∷◌, ◌++◌, Option, Some, None, length, refl, sym, ap, ◌∙◌, subst, append_assoc, append-nil, arith, length-append, inl, inr}
use Rattle.std.proofs.lemmas.Bool.{true≢false}
use Rattle.std.proofs.lemmas.List.{same_from_push}
use Rattle.std.proofs.KnownBytes.{Consumes-nil, Consumes-trans}
use Rattle.std.specs.Io.KnownBytes.{Consumes, IsAtEnd}
use Rattle.plcs_base.specs.Count.{Rose, raised, raised_by}
use Rattle.synth_session.specs.declared.key.Key.{Key}
use Rattle.synth_session.specs.declared.key.Key.TheVariants.{Other}
use Rattle.synth_session.specs.KeyReply.{CountsWant, Reply, Request}
use Rattle.synth_session.specs.KeyRequest.{request}
use Rattle.synth_session.specs.PlainSession.{PlainSession}
use Rattle.synth_session.specs.Press.{press}
use Rattle.synth_session.specs.SessionView.{CountsWanted}
use Rattle.synth_session.specs.Tick.{CallsNext}
use Rattle.synth_top.specs.declared.key.Keys.{Keys}
use Rattle.synth_top.specs.declared.editor.Going.{Going}
use Rattle.synth_top.specs.declared.editor.Going.TheVariants.{On, Over}
use Rattle.synth_top.specs.declared.status.Status.{Status}
use Rattle.synth_top.specs.declared.status.Status.TheVariants.{Done, ReadFault, WriteFault, NoMemory, BadWords, KeyLimit}
use Rattle.synth_top.specs.Counted.{CountsFor, all_fetched}
use Rattle.synth_top.specs.Keys.{Feeds, IsFront, IsHeld, completed, keys, listed_keys}
use Rattle.synth_top.specs.Private.Pressing.{AllShown, KeysCut, KeysQuit, KeysShown, KeysStepWanted, KeysWanted, Moment, Pressed, UpToLast, ended_as, state_at}
use Rattle.synth_top.specs.Private.EditorRuns.{EditorRuns}
use Rattle.synth_top.specs.WholeRun.{AtLastKey, Course, EndRead, NoKeyComes, KeyWanted, LimitTaken, PressedAll, ReadCut, ReadsInTurn, ScreenCut, StepWanted, Stopped, Told, all_shots, fetches_due, painted_over, run_bill, state_after, written}
use Rattle.synth_top.specs.Turn.{KeyBill, PressedKey, EditorState, bill, bills, state_after_keys, ends, grids, keys_pressed, pressed_whole, shot_of, shots, steps_of, turn}
use Rattle.synth_top.specs.Options.{PlainOptions}
use Rattle.synth_top.proofs.CountsInTurn.{counts_wanted, due_after, fetched-append}
use Rattle.synth_top.proofs.Courses.{InTurn, Opened, all_counts, all_course, all_going, all_runs, all_runs_counting, all_takes, at_last, work_after, reply_after, counts_all, last_all, last_course, last_ends, last_runs, last_session, one_byte, told_at, whole_at}
use Rattle.synth_top.proofs.KeysInOrder.{keys_pressed-append, work_more, counts_more, due_more, reply_more, takes_more, both_shown, then_up_to, front_after, wanted_after, ends_more, painted_more}
use Rattle.synth_top.proofs.OneKey.{none_shown, unchanged_itself}

-- so many bytes were read, one a read, all keys that they complete were pressed, and all screens were written
pub record SoFar (number : ℕ) (first : EditorState) (before : Told) (left : Option (List ℕ)) (reads : ℕ) (held : List ℕ) (m : Moment) : Type 0 where
  pub bytes : List ℕ
  pub many : length bytes ≡ number
  pub read : Consumes before.streams.left left bytes
  pub made : reads ≡ raised_by number before.streams.reads
  pub held_is : IsHeld held
  pub opened : Moment
  pub is_opened : Opened first before opened
  pub pressed : List PressedKey
  pub all : AllShown opened m pressed
  pub wants : m.files.wants ≡ opened.files.wants
  pub keys_are : (rest : List ℕ) → keys (bytes ++ rest) ≡ keys_pressed pressed ++ keys (held ++ rest)
  pub completed_are : (rest : List ℕ) → completed (bytes ++ rest) ≡ keys_pressed pressed ++ completed (held ++ rest)
  pub in_turn : InTurn bytes pressed

-- ---- lists

-- what is before one key more
front_without : (xs ys : List Key) (key : Key) → IsFront (xs ++ key ∷ []) ys → IsFront xs ys
front_without xs ys key front = (key ∷ front.0, front.1 ∙ append_assoc xs (key ∷ []) front.0)

-- the first of the first
front_trans : (xs ys zs : List Key) → IsFront xs ys → IsFront ys zs → IsFront xs zs
front_trans xs ys zs first second =
    (first.0 ++ second.0, second.1 ∙ ap (λ l. l ++ second.0) first.1 ∙ append_assoc xs first.0 second.0)

-- bytes held back complete no key
held_completes : (held : List ℕ) → IsHeld held → completed held ≡ []
unfolding completed
held_completes held (inl none) = ap completed none
held_completes held (inr (inl escape)) = ap completed escape
held_completes held (inr (inr bracket)) = ap completed bracket

-- a byte more, for the keys and for those completed
fed : (f : List ℕ → List Key) (bytes held now : List ℕ) (byte : ℕ) (before given : List Key) → ((rest : List ℕ) → f (bytes ++ rest) ≡ before ++ f (held ++ rest))
    → ((rest : List ℕ) → f (held ++ byte ∷ rest) ≡ given ++ f (now ++ rest))
    → (rest : List ℕ) → f ((bytes ++ byte ∷ []) ++ rest) ≡ (before ++ given) ++ f (now ++ rest)
fed f bytes held now byte before given so feeds rest =
    ap f (append_assoc bytes (byte ∷ []) rest) ∙ so (byte ∷ rest) ∙ ap (λ l. before ++ l) (feeds rest) ∙ sym (append_assoc before given (f (now ++ rest)))

-- with nothing behind
ended_list : (f : List ℕ → List Key) (bytes held : List ℕ) (before : List Key) → ((rest : List ℕ) → f (bytes ++ rest) ≡ before ++ f (held ++ rest))
    → f bytes ≡ before ++ f held
ended_list f bytes held before so =
    ap f (sym (append-nil bytes)) ∙ so [] ∙ ap (λ l. before ++ f l) (append-nil held)

-- and where nothing is complete
completed_list : (bytes held : List ℕ) (before : List Key) → ((rest : List ℕ) → completed (bytes ++ rest) ≡ before ++ completed (held ++ rest)) → IsHeld held
    → completed bytes ≡ before
completed_list bytes held before so held_is =
    ended_list completed bytes held before so ∙ ap (λ l. before ++ l) (held_completes held held_is) ∙ append-nil before

-- what isn't complete is no key, or one that ends no session
other_goes_on : (s : EditorState) (reply : Reply) (left : Option ℕ) → ends s (record { key = Other; reply = reply; left_after = left } ∷ []) ≡ false
unfolding turn press
other_goes_on s reply left = refl

rest_of_one : (m now : Moment) (rest : List Key) → rest ≡ Other ∷ [] → KeysQuit rest m now → ⊥
rest_of_one m now rest one quit = quits_at quit.earlier quit.last quit.front quit.quit where
  quits_at : (earlier : List PressedKey) (last : PressedKey) → IsFront (keys_pressed (earlier ++ last ∷ [])) rest
      → ends (state_at m) (earlier ++ last ∷ []) ≡ true → ⊥
  quits_at [] last front ended =
      let is_other : last.key ≡ Other = cc (front.1, one) in
      absurd
      (true≢false
      (sym ended ∙ ap (λ key. ends (state_at m) (record { key = key; reply = last.reply; left_after = last.left_after } ∷ [])) is_other
      ∙ other_goes_on (state_at m) last.reply last.left_after))
  quits_at (first ∷ []) last front ended = absurd (cc (front.1, one))
  quits_at (first ∷ next ∷ earlier) last front ended = absurd (cc (front.1, one))

rest_of_none : (m now : Moment) (rest : List Key) → rest ≡ [] → KeysQuit rest m now → ⊥
rest_of_none m now rest none quit = quits_at quit.earlier quit.last quit.front where
  quits_at : (earlier : List PressedKey) (last : PressedKey) → IsFront (keys_pressed (earlier ++ last ∷ [])) rest → ⊥
  quits_at [] last front = absurd (cc (front.1, none))
  quits_at (first ∷ earlier) last front = absurd (cc (front.1, none))

rest_goes_on : (held : List ℕ) (m now : Moment) → IsHeld held → KeysQuit (keys held) m now → ⊥
unfolding keys
rest_goes_on held m now (inl none) quit = rest_of_none m now (keys held) (ap keys none) quit
rest_goes_on held m now (inr (inl escape)) quit = rest_of_one m now (keys held) (ap keys escape) quit
rest_goes_on held m now (inr (inr bracket)) quit = rest_of_one m now (keys held) (ap keys bracket) quit

-- a count of wants never falls over a key that wanted memory
wants_rose : (asks : Request) (before now : ℕ) → CountsWant asks before now → before ≤ now
wants_rose Request.Nothing before now counts = omega (arith, counts)
wants_rose (Request.Read category text) before now counts = omega (arith, counts)
wants_rose (Request.Resume kept c tree) before now counts = omega (arith, counts)
wants_rose (Request.Save name bytes) before now counts = omega (arith, counts)
wants_rose (Request.Load name) before now counts = counts

-- ---- the opening screen was written, and nothing was read
pub so_far_none : (first : EditorState) (before : Told) (left : Option (List ℕ)) (reads : ℕ) (held : List ℕ) (m : Moment) → left ≡ before.streams.left
    → reads ≡ before.streams.reads → held ≡ [] → Opened first before m → SoFar 0 first before left reads held m
so_far_none first before left reads held m same unread none is_opened = record {
  bytes = [];
  many = refl;
  read = subst (λ l. Consumes before.streams.left l []) (sym same) (Consumes-nil before.streams.left);
  made = omega (arith, unread);
  held_is = inl none;
  opened = m;
  is_opened = is_opened;
  pressed = [];
  all = none_shown m m (unchanged_itself m);
  wants = refl;
  keys_are = λ rest. ap (λ l. keys (l ++ rest)) (sym none);
  completed_are = λ rest. ap (λ l. completed (l ++ rest)) (sym none);
  in_turn = λ seen newest e. absurd (one_byte seen newest e);
}

module _ (number : ℕ) (options : PlainOptions) (first : EditorState) (before : Told) (left : Option (List ℕ)) (so_reads : ℕ) (held : List ℕ) (m : Moment)
    (so : SoFar number first before left so_reads held m)
    (now_left : Option (List ℕ)) (now_reads : ℕ) (now : Moment) where
  -- the keys so far
  abbrev pressed_keys : List Key
  pressed_keys = keys_pressed so.pressed

  -- one read more
  made_more : now_reads ≡ raised so_reads → now_reads ≡ raised_by (number + 1) before.streams.reads
  made_more one = omega (arith, so.made, one)

  -- ---- some more keys, one of which ended the run
  module _ (bytes : List ℕ) (more : List Key) (read : Consumes before.streams.left now_left bytes) (within : length bytes ≤ options.key_limit)
      (reads : ℕ) (made : now_reads ≡ raised_by reads before.streams.reads) (order : IsFront (pressed_keys ++ more) (keys bytes))
      (complete : IsFront (pressed_keys ++ more) (completed bytes) ⊎ NoKeyComes options (told_at now_left now_reads now) bytes reads)
      (in_turn : (earlier : List PressedKey) → InTurn bytes (so.pressed ++ earlier))
      (reads_in_turn : (earlier : List PressedKey) → ReadsInTurn options (told_at now_left now_reads now) bytes reads (so.pressed ++ earlier))
      (quit_last : KeysQuit more m now → reads ≡ length bytes) where
    no_byte_after : Consumes before.streams.left now_left (bytes ++ [])
    no_byte_after = subst (Consumes before.streams.left now_left) (sym (append-nil bytes)) read

    module _ (earlier : List PressedKey) (last : PressedKey) (front : IsFront (keys_pressed (earlier ++ last ∷ [])) more) (count : ℕ)
        {due : Option ℕ} (up_to : UpToLast m now earlier last count due) where
      joined : so.pressed ++ (earlier ++ last ∷ []) ≡ (so.pressed ++ earlier) ++ last ∷ []
      joined = sym (append_assoc so.pressed earlier (last ∷ []))

      in_front : IsFront (keys_pressed ((so.pressed ++ earlier) ++ last ∷ [])) (pressed_keys ++ more)
      in_front =
          subst (λ l. IsFront (keys_pressed l) (pressed_keys ++ more)) joined (front_after so.pressed pressed_keys more (earlier ++ last ∷ []) refl front)

      complete_front : IsFront (keys_pressed ((so.pressed ++ earlier) ++ last ∷ [])) (completed bytes) ⊎ NoKeyComes options (told_at now_left now_reads now) bytes reads
      complete_front = elim complete as (λ _. IsFront (keys_pressed ((so.pressed ++ earlier) ++ last ∷ [])) (completed bytes) ⊎ NoKeyComes options (told_at now_left now_reads now) bytes reads)
          [ inl h ↦ inl (front_trans _ _ _ in_front h) | inr h ↦ inr h ]

      all_up_to : UpToLast so.opened now (so.pressed ++ earlier) last (length (painted_over so.opened.shown (grids (state_at so.opened) so.pressed)) + count)
          (due_after (shots (state_at so.opened) so.pressed) due)
      all_up_to = then_up_to so.opened m so.pressed so.all now earlier last count due so.wants up_to

      abbrev course : Course options first before.streams (told_at now_left now_reads now)
      course = last_course options first before so.opened now now_left now_reads so.is_opened bytes no_byte_after within reads made (so.pressed ++ earlier) last _ all_up_to
          (front_trans _ _ _ in_front order) complete_front

      abbrev at_key : AtLastKey course
      at_key = at_last options first before so.opened now now_left now_reads so.is_opened bytes no_byte_after within reads made (so.pressed ++ earlier) last _ all_up_to
          (front_trans _ _ _ in_front order) complete_front (in_turn earlier) (reads_in_turn earlier)

      ends_as : (b : _) → ends (state_at m) (earlier ++ last ∷ []) ≡ b → ends first ((so.pressed ++ earlier) ++ last ∷ []) ≡ b
      ends_as b e =
          last_ends options first before so.opened now now_left now_reads so.is_opened bytes no_byte_after within reads made (so.pressed ++ earlier) last _ all_up_to
          (front_trans _ _ _ in_front order) complete_front
          ∙ ap (ends (state_at so.opened)) (sym joined) ∙ ends_more so.opened m so.pressed so.all (earlier ++ last ∷ []) ∙ e

      all_written : length (painted_over m.shown (grids (state_at m) (earlier ++ last ∷ []))) ≤ count
          → length (written first ((so.pressed ++ earlier) ++ last ∷ [])) ≤ course.count
      all_written all =
          let shown_bytes = painted_over so.opened.shown (grids (state_at so.opened) so.pressed) in
          let bytes_are : length (painted_over so.opened.shown (grids (state_at so.opened) ((so.pressed ++ earlier) ++ last ∷ [])))
          ≡ length shown_bytes + length (painted_over m.shown (grids (state_at m) (earlier ++ last ∷ []))) =
          ap (λ l. length (painted_over so.opened.shown (grids (state_at so.opened) l))) (sym joined)
          ∙ ap length (painted_more so.opened m so.pressed so.all (earlier ++ last ∷ []))
          ∙ length-append shown_bytes (painted_over m.shown (grids (state_at m) (earlier ++ last ∷ []))) in
          last_all options first before so.opened now now_left now_reads so.is_opened bytes no_byte_after within reads made (so.pressed ++ earlier) last _ all_up_to
          (front_trans _ _ _ in_front order) complete_front (omega (arith, bytes_are, all))

      screen_cut : ends (state_at m) (earlier ++ last ∷ []) ≡ false → ScreenCut course
      screen_cut going = record { at_key = at_key; going = ends_as false going }

      session_is : now.session ≡ (state_after course).session
      session_is =
          last_session options first before so.opened now now_left now_reads so.is_opened bytes no_byte_after within reads made (so.pressed ++ earlier) last _ all_up_to
          (front_trans _ _ _ in_front order) complete_front

      -- the run that stopped there
      last_stopped : (status : Status) (stopped : Stopped course before.files.wants now.files.wants status)
          → due_after (shot_of first.session ∷ []) (due_after (shots (state_at so.opened) so.pressed) due)
          ≡ fetches_due course before.files.wants now.files.wants status stopped
          → {after_reads after_fault : Type 0} → after_reads
          → EditorRuns status options first before (whole_at now_left now_reads now) after_reads after_fault now.session
      last_stopped status stopped all_due led =
          last_runs options first before so.opened now now_left now_reads so.is_opened bytes no_byte_after within reads made (so.pressed ++ earlier) last _ all_up_to
          (front_trans _ _ _ in_front order) complete_front status stopped all_due led

    -- ---- keys up to one in whose turn a step wanted memory
    module _ (next : KeysStepWanted more m now) where
      abbrev stepped_course : Course options first before.streams (told_at now_left now_reads now)
      stepped_course = course next.earlier next.last next.front next.count next.up_to

      abbrev step_wanted : StepWanted stepped_course before.files.wants now.files.wants
      step_wanted = record {
        at_key = at_key next.earlier next.last next.front next.count next.up_to;
        number = next.number;
        left = next.left;
        calls = subst (λ (s : PlainSession). CallsNext (steps_of s) s) (session_is next.earlier next.last next.front next.count next.up_to) next.calls;
        wants = next.up_to.wants ∙ so.wants ∙ so.is_opened.wants;
        going = ends_as next.earlier next.last next.front next.count next.up_to false next.going;
      }

      abbrev step_stop : Stopped stepped_course before.files.wants now.files.wants NoMemory
      step_stop = inr (inr (all_written next.earlier next.last next.front next.count next.up_to next.all, refl, inr step_wanted))

      -- so many instructions were due as if the last turn had come to its end
      steps_due : due_after (shot_of first.session ∷ [])
          (due_after (shots (state_at so.opened) so.pressed) (Some (all_fetched (shots (state_at m) (next.earlier ++ record (next.last) { left_after = None } ∷ [])))))
          ≡ fetches_due stepped_course before.files.wants now.files.wants NoMemory step_stop
      steps_due =
          let last = record (next.last) { left_after = None } in
          let whole = shots first ((so.pressed ++ next.earlier) ++ last ∷ []) in
          let sum : all_fetched (shot_of first.session ∷ []) + all_fetched whole ≡ all_fetched (shot_of first.session ∷ whole) = omega arith in
          ap (due_after (shot_of first.session ∷ [])) (due_more so.opened m so.pressed so.all next.earlier (record (next.last) { left_after = None }))
          ∙ ap
          (λ (s : EditorState). due_after (shot_of first.session ∷ [])
          (Some (all_fetched (shots s ((so.pressed ++ next.earlier) ++ record (next.last) { left_after = None } ∷ [])))))
          so.is_opened.state
          ∙ ap (λ (n : ℕ). Some n) sum

      step_wanted_runs : {after_reads after_fault : Type 0} → after_reads
          → EditorRuns NoMemory options first before (whole_at now_left now_reads now) after_reads after_fault now.session
      step_wanted_runs led = last_stopped next.earlier next.last next.front next.count next.up_to NoMemory step_stop steps_due led

    -- ---- keys up to one that wanted memory
    module _ (next : KeysWanted more m now) where
      -- what is seen but for the checks of that key
      abbrev shown_now : Moment
      shown_now = record now { counts = next.counted }

      all_shown : AllShown so.opened shown_now (so.pressed ++ next.pressed)
      all_shown = both_shown so.opened m so.pressed so.all shown_now next.pressed next.shown

      up_to_wanted : IsFront (keys_pressed (so.pressed ++ next.pressed) ++ next.wanted ∷ []) (pressed_keys ++ more)
      up_to_wanted = wanted_after so.pressed pressed_keys more next.pressed next.wanted refl next.front

      in_keys : IsFront (keys_pressed (so.pressed ++ next.pressed) ++ next.wanted ∷ []) (keys bytes)
      in_keys = front_trans _ _ _ up_to_wanted order

      in_complete : IsFront (keys_pressed (so.pressed ++ next.pressed) ++ next.wanted ∷ []) (completed bytes) ⊎ NoKeyComes options (told_at now_left now_reads now) bytes reads
      in_complete = elim complete as (λ _. IsFront (keys_pressed (so.pressed ++ next.pressed) ++ next.wanted ∷ []) (completed bytes) ⊎ NoKeyComes options (told_at now_left now_reads now) bytes reads)
          [ inl h ↦ inl (front_trans _ _ _ up_to_wanted h) | inr h ↦ inr h ]

      pressed_complete : IsFront (keys_pressed (so.pressed ++ next.pressed)) (completed bytes) ⊎ NoKeyComes options (told_at now_left now_reads now) bytes reads
      pressed_complete = elim in_complete as (λ _. IsFront (keys_pressed (so.pressed ++ next.pressed)) (completed bytes) ⊎ NoKeyComes options (told_at now_left now_reads now) bytes reads)
          [ inl h ↦ inl (front_without _ _ next.wanted h) | inr h ↦ inr h ]

      abbrev wanting_course : Course options first before.streams (told_at now_left now_reads now)
      wanting_course = all_course options first before so.opened shown_now now_left now_reads so.is_opened bytes [] no_byte_after (omega arith) within reads made
          (so.pressed ++ next.pressed) all_shown (front_without _ _ next.wanted in_keys) pressed_complete

      abbrev key_wanted : KeyWanted wanting_course before.files.wants now.files.wants
      key_wanted = record {
        wanted = next.wanted;
        reply = next.reply;
        can_reply = reply_after options first before so.opened shown_now now_left now_reads so.is_opened (so.pressed ++ next.pressed)
            (pressed_whole next.wanted next.reply)
            (reply_more so.opened m so.pressed so.all next.pressed next.wanted next.reply next.can_reply);
        takes = all_takes options first before so.opened shown_now now_left now_reads so.is_opened bytes [] no_byte_after (omega arith) within reads made
            (so.pressed ++ next.pressed) all_shown (front_without _ _ next.wanted in_keys) pressed_complete next.wanted
            (takes_more so.opened m so.pressed so.all next.pressed next.wanted next.takes);
        counts = all_counts options first before so.opened shown_now now_left now_reads so.is_opened bytes [] no_byte_after (omega arith) within reads made
            (so.pressed ++ next.pressed) all_shown (front_without _ _ next.wanted in_keys) pressed_complete next.wanted now.files.wants
            (counts_more so.opened m so.pressed so.all next.pressed next.wanted now.files.wants so.wants next.counts);
        next = in_keys;
        complete = in_complete;
        ended = all_shown.ended;
        going = all_going options first before so.opened shown_now now_left now_reads so.is_opened bytes [] no_byte_after (omega arith) within reads made
            (so.pressed ++ next.pressed) all_shown (front_without _ _ next.wanted in_keys) pressed_complete;
        taken = record { in_turn = in_turn next.pressed; reads = reads_in_turn next.pressed };
      }

      abbrev wanted_stop : Stopped wanting_course before.files.wants now.files.wants NoMemory
      wanted_stop = inr (inr (omega arith, refl, inl key_wanted))

      -- its bill after all keys pressed, and what it counted under it
      abbrev bill_then : KeyBill
      bill_then = bill (state_after_keys first (so.pressed ++ next.pressed)) (pressed_whole next.wanted next.reply)

      wanted_work : CountsWanted (press (state_after_keys first (so.pressed ++ next.pressed)).session next.wanted next.reply) next.counted now.counts
      wanted_work =
          work_after options first before so.opened shown_now now_left now_reads so.is_opened (so.pressed ++ next.pressed) next.wanted next.reply next.counted now.counts
          (work_more so.opened m so.pressed so.all next.pressed next.wanted next.reply next.counted now.counts next.work)

      -- what was counted, with this
      wanted_counts : CountsFor (run_bill wanting_course before.files.wants now.files.wants NoMemory wanted_stop) (all_shots wanting_course)
          (fetches_due wanting_course before.files.wants now.files.wants NoMemory wanted_stop) before.counts now.counts
      wanted_counts =
          let state = state_after_keys first (so.pressed ++ next.pressed) in
          let both = fetched-append (all_shots wanting_course) (turn state (pressed_whole next.wanted next.reply)).shots in
          let fetched = next.law state next.wanted next.reply in
          counts_wanted (bills first (so.pressed ++ next.pressed)) bill_then (run_bill wanting_course before.files.wants now.files.wants NoMemory wanted_stop)
          (press state.session next.wanted next.reply).fetches (all_fetched (all_shots wanting_course ++ (turn state (pressed_whole next.wanted next.reply)).shots))
          (all_shots wanting_course) before.counts next.counted now.counts (omega arith) (omega arith) (omega (arith, both, fetched))
          (counts_all options first before so.opened shown_now now_left now_reads so.is_opened (so.pressed ++ next.pressed) None next.counted all_shown.counts)
          wanted_work

      -- the run that stopped there
      key_wanted_runs : {after_reads after_fault : Type 0} → after_reads
          → EditorRuns NoMemory options first before (whole_at now_left now_reads now) after_reads after_fault now.session
      key_wanted_runs led =
          all_runs_counting options first before so.opened shown_now now_left now_reads so.is_opened bytes [] no_byte_after (omega arith) within reads made
          (so.pressed ++ next.pressed) all_shown (front_without _ _ next.wanted in_keys) pressed_complete NoMemory
          (wants_rose (request (state_after_keys first (so.pressed ++ next.pressed)).session key_wanted.wanted) before.files.wants now.files.wants key_wanted.counts)
          wanted_stop now.counts wanted_counts (inl (led, refl))

    -- a screen of one of the keys was cut short, or one of them wanted memory
    module _ {after_reads after_fault : Type 0} (led : after_reads) where
      out_of_memory : (KeysCut more m now × Rose m.wanted now.wanted) ⊎ (KeysWanted more m now ⊎ KeysStepWanted more m now)
          → EditorRuns NoMemory options first before (whole_at now_left now_reads now) after_reads after_fault now.session
      out_of_memory (inl cut) =
          last_stopped cut.0.earlier cut.0.last cut.0.front cut.0.count cut.0.up_to NoMemory
          (inr (inl (
            refl,
            inr (screen_cut cut.0.earlier cut.0.last cut.0.front cut.0.count cut.0.up_to cut.0.going),
            omega (arith, cut.1, so.all.unwanted, so.is_opened.unwanted),
          ))) refl led
      out_of_memory (inr (inl next)) = key_wanted_runs next led
      out_of_memory (inr (inr next)) = step_wanted_runs next led

    -- by the status
    pub stopped_at_key : (status : Status) → Pressed (Over status) more m now → {after_reads after_fault : Type 0} → after_reads
        → EditorRuns status options first before (whole_at now_left now_reads now) after_reads after_fault now.session
    stopped_at_key Done next led =
        last_stopped next.earlier next.last next.front next.count next.up_to Done (
          all_written next.earlier next.last next.front next.count next.up_to next.all,
          refl,
          inr (record {
            at_key = at_key next.earlier next.last next.front next.count next.up_to;
            quit = ends_as next.earlier next.last next.front next.count next.up_to true next.quit;
            no_read = quit_last next;
          }),
        ) refl led
    stopped_at_key WriteFault next led =
        last_stopped next.earlier next.last next.front next.count next.up_to WriteFault
        (refl, inr (screen_cut next.earlier next.last next.front next.count next.up_to next.going)) refl led
    stopped_at_key NoMemory next led = out_of_memory led next
    stopped_at_key ReadFault next led = absurd next
    stopped_at_key BadWords next led = absurd next
    stopped_at_key KeyLimit next led = absurd next

  -- ---- one more byte
  module _ (byte : ℕ) (given : Keys) (now_held : List ℕ) (feeds : Feeds held byte given now_held) (now_held_is : IsHeld now_held)
      (read : Consumes left now_left (byte ∷ [])) (one : now_reads ≡ raised so_reads) where
    abbrev now_bytes : List ℕ
    now_bytes = so.bytes ++ byte ∷ []

    keys_now : (rest : List ℕ) → keys (now_bytes ++ rest) ≡ (pressed_keys ++ listed_keys given) ++ keys (now_held ++ rest)
    keys_now = fed keys so.bytes held now_held byte pressed_keys (listed_keys given) so.keys_are feeds.all

    completed_now : (rest : List ℕ) → completed (now_bytes ++ rest) ≡ (pressed_keys ++ listed_keys given) ++ completed (now_held ++ rest)
    completed_now = fed completed so.bytes held now_held byte pressed_keys (listed_keys given) so.completed_are feeds.complete

    in_turn_now : (earlier : List PressedKey) → InTurn now_bytes (so.pressed ++ earlier)
    in_turn_now earlier seen newest e =
        let same : seen ≡ so.bytes = sym (same_from_push so.bytes seen byte newest e).0 in
        let done : completed seen ≡ pressed_keys = ap completed same ∙ completed_list so.bytes held pressed_keys so.completed_are so.held_is in
        (keys_pressed earlier, keys_pressed-append so.pressed earlier ∙ ap (λ l. l ++ keys_pressed earlier) (sym done))

    now_many : length now_bytes ≡ number + 1
    now_many = length-append so.bytes (byte ∷ []) ∙ ap (λ n. n + 1) so.many

    now_read : Consumes before.streams.left now_left now_bytes
    now_read = Consumes-trans _ _ _ so.bytes (byte ∷ []) so.read read

    -- all its keys were shown
    pub so_far_more : (kept : List ℕ) → kept ≡ now_held → KeysShown (listed_keys given) m now → SoFar (number + 1) first before now_left now_reads kept now
    so_far_more kept same next =
        let all : pressed_keys ++ listed_keys given ≡ keys_pressed (so.pressed ++ next.pressed) =
        ap (λ l. pressed_keys ++ l) (sym next.all) ∙ sym (keys_pressed-append so.pressed next.pressed) in
        subst (λ h. SoFar (number + 1) first before now_left now_reads h now) (sym same)
        (record {
          bytes = now_bytes;
          many = now_many;
          read = now_read;
          made = made_more one;
          held_is = now_held_is;
          opened = so.opened;
          is_opened = so.is_opened;
          pressed = so.pressed ++ next.pressed;
          all = both_shown so.opened m so.pressed so.all now next.pressed next.shown;
          wants = next.wants ∙ so.wants;
          keys_are = λ rest. keys_now rest ∙ ap (λ l. l ++ keys (now_held ++ rest)) all;
          completed_are = λ rest. completed_now rest ∙ ap (λ l. l ++ completed (now_held ++ rest)) all;
          in_turn = in_turn_now next.pressed;
        })

    -- one of its keys ended the run
    pub ended_by_byte : (status : Status) → number < options.key_limit → Pressed (Over status) (listed_keys given) m now → {after_reads after_fault : Type 0} → after_reads
        → EditorRuns status options first before (whole_at now_left now_reads now) after_reads after_fault now.session
    ended_by_byte status below next led =
        let done : completed now_bytes ≡ pressed_keys ++ listed_keys given = completed_list now_bytes now_held (pressed_keys ++ listed_keys given) completed_now now_held_is in
        stopped_at_key now_bytes (listed_keys given) now_read (omega (arith, now_many, below)) (number + 1) (made_more one)
        (keys now_held, ended_list keys now_bytes now_held (pressed_keys ++ listed_keys given) keys_now)
        (inl ([], done ∙ sym (append-nil (pressed_keys ++ listed_keys given)))) in_turn_now (λ earlier. inl (sym now_many)) (λ quit. sym now_many) status next led

  -- ---- a read gave no answer
  module _ (lost : List ℕ) (below : number < options.key_limit) (few : length lost ≤ 1) (read : Consumes left now_left lost) (one : now_reads ≡ raised so_reads)
      (same : now ≡ m) where
    cut_shown : AllShown so.opened now so.pressed
    cut_shown = subst (λ z. AllShown so.opened z so.pressed) (sym same) so.all

    cut_done : completed so.bytes ≡ pressed_keys
    cut_done = completed_list so.bytes held pressed_keys so.completed_are so.held_is

    cut_read : Consumes before.streams.left now_left (so.bytes ++ lost)
    cut_read = Consumes-trans _ _ _ so.bytes lost so.read read

    cut_order : IsFront pressed_keys (keys so.bytes)
    cut_order = (keys held, ended_list keys so.bytes held pressed_keys so.keys_are)

    cut_complete : IsFront pressed_keys (completed so.bytes) ⊎ NoKeyComes options (told_at now_left now_reads now) so.bytes (number + 1)
    cut_complete = inl ([], cut_done ∙ sym (append-nil pressed_keys))

    abbrev cut_course : Course options first before.streams (told_at now_left now_reads now)
    cut_course = all_course options first before so.opened now now_left now_reads so.is_opened so.bytes lost cut_read few (omega (arith, so.many, below))
        (number + 1) (made_more one) so.pressed cut_shown cut_order cut_complete

    read_cut : ReadCut cut_course
    read_cut = record {
      all = record {
        pressed = sym cut_done;
        ended = cut_shown.ended;
        going = all_going options first before so.opened now now_left now_reads so.is_opened so.bytes lost cut_read few (omega (arith, so.many, below))
            (number + 1) (made_more one) so.pressed cut_shown cut_order cut_complete;
      };
      below = omega (arith, so.many, below);
      one_more = ap (λ n. n + 1) (sym so.many);
    }

    cut_runs : (status : Status) (stopped : Stopped cut_course before.files.wants now.files.wants status)
        → fetches_due cut_course before.files.wants now.files.wants status stopped ≡ None → {after_reads after_fault : Type 0} → after_fault
        → EditorRuns status options first before (whole_at now_left now_reads now) after_reads after_fault now.session
    cut_runs status stopped due broke =
        all_runs options first before so.opened now now_left now_reads so.is_opened so.bytes lost cut_read few (omega (arith, so.many, below))
        (number + 1) (made_more one) so.pressed cut_shown cut_order cut_complete status
        (omega (arith, ap (λ (z : Moment). z.files.wants) same, so.wants, so.is_opened.wants)) stopped due (inr (broke, read_cut))

    pub read_failed : {after_reads after_fault : Type 0} → after_fault → EditorRuns ReadFault options first before (whole_at now_left now_reads now) after_reads after_fault now.session
    read_failed broke = cut_runs ReadFault (omega arith, read_cut) refl broke

    pub read_wanted : {after_reads after_fault : Type 0} → after_fault → EditorRuns NoMemory options first before (whole_at now_left now_reads now) after_reads after_fault now.session
    read_wanted broke = cut_runs NoMemory (inl (omega arith, read_cut)) refl broke

  -- ---- no byte comes any more
  module _ (read : Consumes left now_left []) (within : number ≤ options.key_limit) (reads : ℕ) (made : now_reads ≡ raised_by reads before.streams.reads)
      (over : NoKeyComes options (told_at now_left now_reads now) so.bytes reads) where
    all_read : Consumes before.streams.left now_left so.bytes
    all_read = subst (Consumes before.streams.left now_left) (append-nil so.bytes) (Consumes-trans _ _ _ so.bytes [] so.read read)

    all_keys : keys so.bytes ≡ pressed_keys ++ keys held
    all_keys = ended_list keys so.bytes held pressed_keys so.keys_are

    in_turn_still : (earlier : List PressedKey) → InTurn so.bytes (so.pressed ++ earlier)
    in_turn_still earlier seen newest e =
        front_trans _ _ _ (so.in_turn seen newest e) (keys_pressed earlier, keys_pressed-append so.pressed earlier)

    -- the source's end was read after the keys that the bytes complete
    reads_still : (earlier : List PressedKey) → ReadsInTurn options (told_at now_left now_reads now) so.bytes reads (so.pressed ++ earlier)
    reads_still earlier =
        let done : completed so.bytes ≡ pressed_keys = completed_list so.bytes held pressed_keys so.completed_are so.held_is in
        let front : IsFront (completed so.bytes) (keys_pressed (so.pressed ++ earlier)) =
        (keys_pressed earlier, keys_pressed-append so.pressed earlier ∙ ap (λ l. l ++ keys_pressed earlier) (sym done)) in
        elim over as (λ _. ReadsInTurn options (told_at now_left now_reads now) so.bytes reads (so.pressed ++ earlier))
        [ inl end ↦ inr (end, front) | inr limit ↦ inl limit.one_each ]

    -- what isn't complete ended the run
    pub ended_by_rest : (status : Status) → Pressed (Over status) (keys held) m now → {after_reads after_fault : Type 0} → after_reads
        → EditorRuns status options first before (whole_at now_left now_reads now) after_reads after_fault now.session
    ended_by_rest status next led =
        stopped_at_key so.bytes (keys held) all_read (omega (arith, so.many, within)) reads made ([], all_keys ∙ sym (append-nil (pressed_keys ++ keys held))) (inr over)
        in_turn_still reads_still (λ quit. absurd (rest_goes_on held m now so.held_is quit)) status next led

    -- all was shown
    module _ (next : KeysShown (keys held) m now) where
      abbrev ended_keys : List PressedKey
      ended_keys = so.pressed ++ next.pressed

      pub ended_shown : AllShown so.opened now ended_keys
      ended_shown = both_shown so.opened m so.pressed so.all now next.pressed next.shown

      ended_pressed : keys_pressed ended_keys ≡ keys so.bytes
      ended_pressed = keys_pressed-append so.pressed next.pressed ∙ ap (λ l. pressed_keys ++ l) next.all ∙ sym all_keys

      pub ended_order : IsFront (keys_pressed ended_keys) (keys so.bytes)
      ended_order = ([], sym ended_pressed ∙ sym (append-nil (keys_pressed ended_keys)))

      pub ended_read : Consumes before.streams.left now_left (so.bytes ++ [])
      ended_read = subst (Consumes before.streams.left now_left) (sym (append-nil so.bytes)) all_read

      abbrev ended_course : Course options first before.streams (told_at now_left now_reads now)
      ended_course = all_course options first before so.opened now now_left now_reads so.is_opened so.bytes [] ended_read (omega arith)
          (omega (arith, so.many, within)) reads made ended_keys ended_shown ended_order (inr over)

      pub pressed_all : PressedAll ended_course (keys so.bytes)
      pressed_all = record {
        pressed = ended_pressed;
        ended = ended_shown.ended;
        going = all_going options first before so.opened now now_left now_reads so.is_opened so.bytes [] ended_read (omega arith)
            (omega (arith, so.many, within)) reads made ended_keys ended_shown ended_order (inr over);
      }

      pub ended_runs : (status : Status) (stopped : Stopped ended_course before.files.wants now.files.wants status)
          → fetches_due ended_course before.files.wants now.files.wants status stopped ≡ None → {after_reads after_fault : Type 0} → after_reads
          → EditorRuns status options first before (whole_at now_left now_reads now) after_reads after_fault now.session
      ended_runs status stopped due led =
          all_runs options first before so.opened now now_left now_reads so.is_opened so.bytes [] ended_read (omega arith)
          (omega (arith, so.many, within)) reads made ended_keys ended_shown ended_order (inr over) status
          (omega (arith, next.wants, so.wants, so.is_opened.wants)) stopped due (inl (led, refl))

  -- the source ended
  module _ (read : Consumes left now_left []) (ended : IsAtEnd now_left) (below : number < options.key_limit) (one : now_reads ≡ raised so_reads) where
    end_read : EndRead options (told_at now_left now_reads now) so.bytes (number + 1)
    end_read = record { one_more = ap (λ n. n + 1) (sym so.many); below = omega (arith, so.many, below); ended = ended }

    pub ended_at_end : (going : Going) → Pressed going (keys held) m now → {after_reads after_fault : Type 0} → after_reads
        → EditorRuns (ended_as going Done) options first before (whole_at now_left now_reads now) after_reads after_fault now.session
    ended_at_end On next led =
        ended_runs read (omega (arith, below)) (number + 1) (made_more one) (inl end_read) next Done
        (omega arith, refl, inl (record { all = pressed_all read (omega (arith, below)) (number + 1) (made_more one) (inl end_read) next; end = end_read })) refl led
    ended_at_end (Over status) next led = ended_by_rest read (omega (arith, below)) (number + 1) (made_more one) (inl end_read) status next led

  -- as many bytes were read as the limit allows
  module _ (read : Consumes left now_left []) (all : number ≡ options.key_limit) (unread : now_reads ≡ so_reads) where
    limit_taken : LimitTaken options so.bytes number
    limit_taken = record { one_each = sym so.many; many = so.many ∙ all }

    pub ended_at_limit : (going : Going) → Pressed going (keys held) m now → {after_reads after_fault : Type 0} → after_reads
        → EditorRuns (ended_as going KeyLimit) options first before (whole_at now_left now_reads now) after_reads after_fault now.session
    ended_at_limit On next led =
        ended_runs read (omega (arith, all)) number (unread ∙ so.made) (inr limit_taken) next KeyLimit
        (omega arith, refl, record { all = pressed_all read (omega (arith, all)) number (unread ∙ so.made) (inr limit_taken) next; limit = limit_taken }) refl led
    ended_at_limit (Over status) next led = ended_by_rest read (omega (arith, all)) number (unread ∙ so.made) (inr limit_taken) status next led
