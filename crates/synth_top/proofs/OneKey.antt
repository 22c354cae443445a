-- One key, as the first of a list: what its turn is, by its answer.
use Rattle.std.proofs.Common.{◌≡◌, ◌<◌, ◌≤◌, ◌⊎◌, inl, inr, IsTrue, ℕ, zero, suc, ◌+◌, ◌-◌, Bool, true, false, ◌||◌, if◌then◌else◌, List, [], ◌∷◌, ◌++◌, length, take, Option, Some, None, Result, Ok, Err, OnOk, refl, sym, ap, ◌∙◌, subst, append-nil, arith}
use Rattle.std.proofs.Math.Bool.{false≢true}
use Rattle.std.proofs.KnownBytes.{Appends-nil}
use Rattle.std.specs.Io.KnownBytes.{Appends}
use Rattle.plcs_base.specs.Count.{Rose, RoseBy}
use Rattle.plcs_base.specs.PlainCounts.{PlainCounts}
use Rattle.synth_outside.specs.Cause.{HasCause, RisesWith}
use Rattle.synth_outside.specs.Files.{FileMap, PlainFiles}
use Rattle.synth_outside.specs.Sink.{AppendsFront}
use Rattle.synth_outside.specs.declared.faults.SinkFault.{SinkFault}
use Rattle.screen_window.specs.Paint.{Paint}
use Rattle.screen_window.specs.PlainGrid.{PlainGrid}
use Rattle.screen_window.specs.Screen.{window_rows}
use Rattle.screen_window.specs.Writes.{Writes}
use Rattle.synth_session.specs.declared.answer.Answer.{Answer}
use Rattle.synth_session.specs.declared.answer.Answer.TheVariants.{Done, Refused, Quit, Running}
use Rattle.synth_session.specs.declared.answer.Refusal.{Refusal}
use Rattle.synth_session.specs.declared.key.Key.{Key}
use Rattle.synth_session.specs.declared.tick.Tick.{Tick}
use Rattle.synth_session.specs.CountedKey.{CountsPressed, CountsScreen}
use Rattle.synth_session.specs.KeyReply.{HaveNoMemory, Reply}
use Rattle.synth_session.specs.KeyOutcome.{KeyOutcome}
use Rattle.synth_session.specs.KeyRequest.{request}
use Rattle.synth_session.specs.MemoryTaken.{key_takes_memory}
use Rattle.synth_session.specs.PlainSession.{PlainSession}
use Rattle.synth_session.specs.Press.{StillKeysFetchNothing, press}
use Rattle.synth_session.specs.SessionScreen.{grid, screen_fetches}
use Rattle.synth_session.specs.SessionView.{CountsWanted}
use Rattle.synth_session.specs.Tick.{AreMade, Steps, TickOutcome, steps_left, tick}
use Rattle.synth_top.specs.declared.editor.Going.{Going}
use Rattle.synth_top.specs.declared.editor.Going.TheVariants.{On, Over}
use Rattle.synth_top.specs.declared.status.Status.TheVariants as status
use Rattle.synth_top.specs.Counted.{CountsFor, all_fetched, all_window_rows}
use Rattle.synth_top.specs.Private.PaintedScreen.{going_after}
use Rattle.synth_top.specs.Private.Pressing.{AllShown, IsPressed, KeysCut, KeysQuit, KeysShown, KeysStepWanted, KeysWanted, MayEnd, Moment, Pressed, PressesFetchForShots, UpToLast, last_shown, state_at}
use Rattle.synth_top.specs.Private.TicksShown.{MadeTicks, MadeUntil, ShowsUntil, TicksLeft, TicksShown, TicksWanted, shots_until, ticks_from}
use Rattle.synth_top.specs.WholeRun.{painted_over}
use Rattle.synth_top.specs.Turn.{CameToEnd, HasReply, IsToldAs, MayBeLeft, PressedKey, Shot, Ticks, Turn, all_ticks, bill, bills, ends, failure, failures, files_after, grids, is_quit, last_tick, left_shots, makes_steps, no_bill, running_turn, screens_of, shot_after, shots, state_after_keys, steps_of, still_turn, tick_by, ticks, turn, turn_with}
use Rattle.synth_top.proofs.ClaimedFiles.{fault_counted, told_after, told_same}
use Rattle.synth_top.proofs.CountsInTurn.{CountsPress, counts_nothing, counts_shot, counts_turn, counts_turn_left, counts_within}

or_nothing : (a : Bool) → (a || false) ≡ a
or_nothing true = refl
or_nothing false = refl

-- ---- a turn of a key, between two moments

-- the turn of a key was made: it is this one, and session and files are as after it
pub record IsTurn (a c : Moment) (p : PressedKey) (t : Turn) : Type 0 where
  pub is : turn (state_at a) p ≡ t
  pub can_reply : HasReply (state_at a) p
  pub session : c.session ≡ t.after.session
  pub files : IsToldAs t.after.files c.files.stored
  pub faults : RoseBy (failure p.reply) a.files.faults c.files.faults
  pub wants : c.files.wants ≡ a.files.wants

module _ (a c : Moment) (p : PressedKey) (t : Turn) (done : IsTurn a c p t) where
  ends_is : ends (state_at a) (p ∷ []) ≡ t.ends
  ends_is = ap (λ (u : Turn). u.ends || false) done.is ∙ or_nothing t.ends

  pub shots_are : shots (state_at a) (p ∷ []) ≡ t.shots
  shots_are = ap (λ (u : Turn). u.shots ++ []) done.is ∙ append-nil t.shots

  bytes_are : painted_over a.shown (grids (state_at a) (p ∷ [])) ≡ painted_over a.shown (screens_of t.shots)
  bytes_are = ap (λ (l : List Shot). painted_over a.shown (screens_of l)) shots_are

  -- the session and the map after it
  session_is : c.session ≡ (state_after_keys (state_at a) (p ∷ [])).session
  session_is = done.session ∙ sym (ap (λ (u : Turn). u.after.session) done.is)

  files_told : IsToldAs (state_after_keys (state_at a) (p ∷ [])).files c.files.stored
  files_told = subst (λ (u : Turn). IsToldAs u.after.files c.files.stored) (sym done.is) done.files

  -- the failures of the files in it
  faults_are : RoseBy (failures (p ∷ [])) a.files.faults c.files.faults
  faults_are = let one = done.faults in omega (arith, one)

  -- what was counted in it under its bill
  counts_one : (due : Option ℕ) → CountsFor (bill (state_at a) p) t.shots due a.counts c.counts
      → CountsFor (bills (state_at a) (p ∷ [])) (shots (state_at a) (p ∷ [])) due a.counts c.counts
  counts_one due counts =
      subst (λ (l : List Shot). CountsFor (bills (state_at a) (p ∷ [])) l due a.counts c.counts) (sym shots_are)
      (counts_within (bill (state_at a) p) (bills (state_at a) (p ∷ [])) t.shots due a.counts c.counts (omega arith) (omega arith) counts)

  -- it came to its end, and all its screens were written
  turn_shown : CameToEnd p → t.ends ≡ false → c.shown ≡ last_shown a.shown (screens_of t.shots)
      → Appends a.taken c.taken (painted_over a.shown (screens_of t.shots)) → c.wanted ≡ a.wanted
      → CountsFor (bill (state_at a) p) t.shots None a.counts c.counts → KeysShown (p.key ∷ []) a c
  turn_shown ended going shown wrote unwanted counts = record {
    pressed = p ∷ [];
    all = refl;
    shown = record {
      can_reply = (done.can_reply, tt);
      going = ends_is ∙ going;
      session = session_is;
      files = files_told;
      shown = shown ∙ sym (ap (λ (l : List Shot). last_shown a.shown (screens_of l)) shots_are);
      wrote = subst (Appends a.taken c.taken) (sym bytes_are) wrote;
      unwanted = unwanted;
      faults = faults_are;
      ended = (ended, tt);
      counts = counts_one None counts;
    };
    wants = done.wants;
  }

  -- some of its screens were written
  turn_up_to : (count : ℕ) (due : Option ℕ) → MayBeLeft (state_at a) p p.left_after
      → Appends a.taken c.taken (take count (painted_over a.shown (screens_of t.shots))) → CountsFor (bill (state_at a) p) t.shots due a.counts c.counts
      → UpToLast a c [] p count due
  turn_up_to count due left wrote counts = record {
    can_reply = (done.can_reply, tt);
    going = refl;
    session = session_is;
    files = files_told;
    wrote = subst (λ (l : List ℕ). Appends a.taken c.taken (take count l)) (sym bytes_are) wrote;
    whole = omega arith;
    faults = faults_are;
    wants = done.wants;
    left = left;
    counts = counts_one due counts;
  }

  -- it ended the session, and nothing was written
  turn_quit : MayBeLeft (state_at a) p p.left_after → t.ends ≡ true → t.shots ≡ [] → c.taken ≡ a.taken
      → CountsFor (bill (state_at a) p) t.shots None a.counts c.counts → KeysQuit (p.key ∷ []) a c
  turn_quit left quit none same counts =
      let no_bytes : painted_over a.shown (screens_of t.shots) ≡ [] = ap (λ (l : List Shot). painted_over a.shown (screens_of l)) none in
      record {
        earlier = [];
        last = p;
        front = ([], refl);
        count = 0;
        up_to = turn_up_to 0 None left
            (subst (λ (l : List ℕ). Appends a.taken c.taken (take 0 l)) (sym no_bytes)
            (subst (λ (t : Option (List ℕ)). Appends a.taken t []) (sym same) (Appends-nil a.taken)))
            counts;
        quit = ends_is ∙ quit;
        all = omega (arith, ap (λ (l : List ℕ). length l) (bytes_are ∙ no_bytes));
      }

  -- a screen of it was cut short
  turn_cut : (count : ℕ) → MayBeLeft (state_at a) p p.left_after → t.ends ≡ false
      → Appends a.taken c.taken (take count (painted_over a.shown (screens_of t.shots))) → CountsFor (bill (state_at a) p) t.shots None a.counts c.counts
      → KeysCut (p.key ∷ []) a c
  turn_cut count left going wrote counts = record {
    earlier = [];
    last = p;
    front = ([], refl);
    count = count;
    up_to = turn_up_to count None left wrote counts;
    going = ends_is ∙ going;
  }

-- ---- the ticks of a turn, with what was fetched in the press and without

-- shots that show the same, with so much more fetched for them
record SameShots (fetches : ℕ) (part whole : List Shot) : Type 0 where
  pub screens : screens_of whole ≡ screens_of part
  pub counts : CountsPress fetches part whole

same_cons : (fetches : ℕ) (x y : Shot) (rest : List Shot) → x.screen ≡ y.screen → x.fetched ≡ fetches + y.fetched → SameShots fetches (y ∷ rest) (x ∷ rest)
same_cons fetches x y rest screen fetched = record {
  screens = ap (λ (g : PlainGrid). g ∷ screens_of rest) screen;
  counts = record {
    rows = let rows = ap (λ (g : PlainGrid). window_rows g.rows) screen in omega (arith, rows);
    fetched = omega (arith, fetched);
  };
}

-- ticks of which the first has so much more fetched for its shot than the first of others, and which are the same else
record MoreFetched (fetches : ℕ) (part whole : Ticks) : Type 0 where
  pub first : Shot
  pub of_part : Shot
  pub rest : List Shot
  pub whole_is : whole.shots ≡ first ∷ rest
  pub part_is : part.shots ≡ of_part ∷ rest
  pub screen : first.screen ≡ of_part.screen
  pub fetched : first.fetched ≡ fetches + of_part.fetched
  pub after : whole.after ≡ part.after

more_by : (t : Tick) (fetches : ℕ) (outcome : TickOutcome) (go : PlainSession → Ticks) → MoreFetched fetches (tick_by t 0 outcome go) (tick_by t fetches outcome go)
more_by Tick.Over fetches outcome go = record {
  first = shot_after (fetches + outcome.fetches) outcome.after;
  of_part = shot_after (0 + outcome.fetches) outcome.after;
  rest = [];
  whole_is = refl;
  part_is = refl;
  screen = refl;
  fetched = omega arith;
  after = refl;
}
more_by Tick.Again fetches outcome go = record {
  first = shot_after (fetches + outcome.fetches) outcome.after;
  of_part = shot_after (0 + outcome.fetches) outcome.after;
  rest = (go outcome.after).shots;
  whole_is = refl;
  part_is = refl;
  screen = refl;
  fetched = omega arith;
  after = refl;
}

ticks_more : (steps : Steps) (left fetches : ℕ) (s : PlainSession) → MoreFetched fetches (ticks steps left 0 s) (ticks steps left fetches s)
ticks_more steps zero fetches s = more_by Tick.Over fetches (tick steps s) (λ (x : PlainSession). last_tick 0 (tick steps x))
ticks_more steps (suc left) fetches s = more_by (tick steps s).tick fetches (tick steps s) (ticks steps left 0)

module _ (fetches : ℕ) (part whole : Ticks) (more : MoreFetched fetches part whole) where
  all_same : SameShots fetches part.shots whole.shots
  all_same =
      subst (λ (l : List Shot). SameShots fetches part.shots l) (sym more.whole_is)
      (subst (λ (l : List Shot). SameShots fetches l (more.first ∷ more.rest)) (sym more.part_is)
      (same_cons fetches more.first more.of_part more.rest more.screen more.fetched))

  front_same : (number : ℕ) → 0 < number → SameShots fetches (take number part.shots) (take number whole.shots)
  front_same zero below = absurd (omega (arith, below))
  front_same (suc number) below =
      subst (λ (l : List Shot). SameShots fetches (take (suc number) part.shots) (take (suc number) l)) (sym more.whole_is)
      (subst (λ (l : List Shot). SameShots fetches (take (suc number) l) (take (suc number) (more.first ∷ more.rest))) (sym more.part_is)
      (same_cons fetches more.first more.of_part (take number more.rest) more.screen more.fetched))

  -- where each step is shown
  shown_same : (trace : Bool) (number : ℕ) → trace ≡ true → 0 < number
      → SameShots fetches (if trace then take number part.shots else []) (if trace then take number whole.shots else [])
  shown_same true number is below = front_same number below
  shown_same false number is below = absurd (false≢true is)

-- those until so many steps, perhaps none
record SameUntil (fetches : ℕ) (part whole : List Shot) : Type 0 where
  pub screens : screens_of whole ≡ screens_of part
  pub rows : all_window_rows whole ≡ all_window_rows part
  pub fetched : all_fetched whole ≤ fetches + all_fetched part

until_same : (fetches : ℕ) (part whole : Ticks) → MoreFetched fetches part whole → (trace : Bool) (number : ℕ)
    → SameUntil fetches (if trace then take number part.shots else []) (if trace then take number whole.shots else [])
until_same fetches part whole more false number = record { screens = refl; rows = refl; fetched = omega arith }
until_same fetches part whole more true zero = record { screens = refl; rows = refl; fetched = omega arith }
until_same fetches part whole more true (suc number) =
    let same = front_same fetches part whole more (suc number) (omega arith) in
    let fetched = same.counts.fetched in
    record { screens = same.screens; rows = same.counts.rows; fetched = omega (arith, fetched) }

-- ---- a key that was answered

-- what is seen of screens didn't change in a press
pub record IsUnseen (a b : Moment) : Type 0 where
  pub shown : b.shown ≡ a.shown
  pub taken : b.taken ≡ a.taken
  pub wanted : b.wanted ≡ a.wanted

module _ (key : Key) (answer : Answer) (a b : Moment) (pressed : IsPressed key answer a.session b.session a.files b.files) (unseen : IsUnseen a b) where
  -- the key with what was replied, and with where its turn was left
  abbrev one : Option ℕ → PressedKey
  one left = record { key = key; reply = pressed.reply; left_after = left }

  -- what comes of it
  abbrev outcome : KeyOutcome
  outcome = press a.session key pressed.reply

  abbrev told : KeyOutcome
  told = record outcome { after = b.session; answer = answer }

  -- the map that is claimed after it
  abbrev files_claimed : Option FileMap
  files_claimed = files_after (request a.session key) pressed.reply a.files.stored

  -- its turn, by its answer
  turn_is : (left : Option ℕ) → turn (state_at a) (one left) ≡ turn_with told files_claimed left
  unfolding turn
  turn_is left =
      sym (ap (λ (z : PlainSession). turn_with (record outcome { after = z; answer = answer }) files_claimed left) pressed.session
      ∙ ap (λ (z : Answer). turn_with (record outcome { after = outcome.after; answer = z }) files_claimed left) pressed.answered)

  -- a turn of it was made
  made_turn : (c : Moment) (left : Option ℕ) (t : Turn) → turn_with told files_claimed left ≡ t → c.files ≡ b.files → c.session ≡ t.after.session
      → t.after.files ≡ files_claimed → IsTurn a c (one left) t
  made_turn c left t is same session claimed = record {
    is = turn_is left ∙ is;
    can_reply = pressed.files.can;
    session = session;
    files = subst (λ (f : Option FileMap). IsToldAs f c.files.stored) (sym claimed)
        (subst (λ (f : PlainFiles). IsToldAs files_claimed f.stored) (sym same)
        (told_after (request a.session key) pressed.reply a.files.stored b.files.stored pressed.files.stored));
    faults =
        let one_fault = fault_counted pressed.reply a.files.faults b.files.faults pressed.files.faults in
        let same_faults = ap (λ (f : PlainFiles). f.faults) same in
        omega (arith, one_fault, same_faults);
    wants = ap (λ (f : PlainFiles). f.wants) same ∙ pressed.files.wants;
  }

  -- what was counted in the press
  abbrev CountsIt : Type 0
  CountsIt = CountsPressed outcome.checks outcome.emits outcome.fetches outcome.fetches a.counts b.counts

  -- ---- no run goes on in its turn

  abbrev still_by : (quit : Bool) → Turn
  still_by quit = record {
    shots = if quit then [] else shot_after outcome.fetches b.session ∷ [];
    after = record { session = b.session; files = files_claimed };
    ends = quit;
  }

  still_is : (quit : Bool) → makes_steps answer ≡ false → is_quit answer ≡ quit → turn_with told files_claimed None ≡ still_by quit
  still_is quit still is =
      ap (λ (m : Bool). if m then running_turn told files_claimed None else still_turn told files_claimed) still ∙ ap still_by is

  -- it ended the session, and nothing was written
  pub one_quit : StillKeysFetchNothing → answer ≡ Quit → CountsIt → KeysQuit (key ∷ []) a b
  one_quit law quit counts =
      let nothing : outcome.fetches ≡ 0 = law a.session key pressed.reply (λ running. absurd (cc (running, pressed.answered, quit))) in
      turn_quit a b (one None) (still_by true)
      (made_turn b None (still_by true) (still_is true (ap makes_steps quit) (ap is_quit quit)) refl refl refl)
      tt refl refl unseen.taken
      (counts_turn (bill (state_at a) (one None)) outcome.fetches [] [] a.counts b.counts b.counts
      (record { rows = refl; fetched = omega (arith, nothing) }) counts (counts_nothing b.counts))

  -- its screen was drawn, and all of it was written, or some
  module _ (still : makes_steps answer ≡ false) (going : is_quit answer ≡ false) (c : Moment) (session : c.session ≡ b.session) (files : c.files ≡ b.files)
      (counts : CountsIt) (drawn : CountsScreen (window_rows b.session.size.rows) (screen_fetches b.session) b.counts c.counts) where
    still_turn_made : IsTurn a c (one None) (still_by false)
    still_turn_made = made_turn c None (still_by false) (still_is false still going) files session refl

    still_counts : CountsFor (bill (state_at a) (one None)) (still_by false).shots None a.counts c.counts
    still_counts =
        counts_turn (bill (state_at a) (one None)) outcome.fetches (shot_after 0 b.session ∷ []) (shot_after outcome.fetches b.session ∷ [])
        a.counts b.counts c.counts (record { rows = refl; fetched = omega arith }) counts (counts_shot b.session b.counts c.counts drawn)

    still_bytes : Paint b.shown (grid b.session) ≡ painted_over a.shown (screens_of (still_by false).shots)
    still_bytes = ap (λ (g : PlainGrid). Paint g (grid b.session)) unseen.shown ∙ sym (append-nil (Paint a.shown (grid b.session)))

    one_shown : Appends b.taken c.taken (Paint b.shown (grid b.session)) → c.shown ≡ grid b.session → c.wanted ≡ b.wanted → KeysShown (key ∷ []) a c
    one_shown wrote shown unwanted =
        turn_shown a c (one None) (still_by false) still_turn_made refl refl shown
        (subst (λ (t : Option (List ℕ)). Appends t c.taken (painted_over a.shown (screens_of (still_by false).shots))) unseen.taken
        (subst (Appends b.taken c.taken) still_bytes wrote))
        (unwanted ∙ unseen.wanted) still_counts

    one_cut : AppendsFront b.taken c.taken (Paint b.shown (grid b.session)) → KeysCut (key ∷ []) a c
    one_cut front =
        turn_cut a c (one None) (still_by false) still_turn_made front.0 tt refl
        (subst (λ (t : Option (List ℕ)). Appends t c.taken (take front.0 (painted_over a.shown (screens_of (still_by false).shots)))) unseen.taken
        (subst (λ (l : List ℕ). Appends b.taken c.taken (take front.0 l)) still_bytes front.1))
        still_counts

    -- by how it was written
    pub one_painted : (faults_before faults_now : ℕ) (painted : Result Unit SinkFault)
        → Writes (Paint b.shown (grid b.session)) painted b.taken c.taken faults_before faults_now b.wanted c.wanted
        → OnOk painted (c.shown ≡ grid b.session) → Pressed (going_after painted) (key ∷ []) a c
    one_painted faults_before faults_now (Ok nothing) wrote shown = one_shown wrote.all shown (wrote.want.same (λ e. absurd (cc)))
    one_painted faults_before faults_now (Err SinkFault.Failed) wrote shown = one_cut wrote.front
    one_painted faults_before faults_now (Err SinkFault.OutOfMemory) wrote shown =
        let rose = wrote.want.rose refl in
        let same = unseen.wanted in
        inl (one_cut wrote.front, omega (arith, rose, same))

  -- ---- a run goes on in its turn

  module _ (running : makes_steps answer ≡ true) (counts : CountsIt) where
    running_is : (left : Option ℕ) → turn_with told files_claimed left ≡ running_turn told files_claimed left
    running_is left = ap (λ (m : Bool). if m then running_turn told files_claimed left else still_turn told files_claimed) running

    more : MoreFetched outcome.fetches (ticks_from b.session) (all_ticks told)
    more = ticks_more (steps_of b.session) (steps_left b.session) outcome.fetches b.session

    same : SameShots outcome.fetches (ticks_from b.session).shots (all_ticks told).shots
    same = all_same outcome.fetches (ticks_from b.session) (all_ticks told) more

    -- all ticks were shown
    running_shown : (c : Moment) → TicksShown b c → KeysShown (key ∷ []) a c
    running_shown c ticks_shown =
        turn_shown a c (one None) (running_turn told files_claimed None)
        (made_turn c None (running_turn told files_claimed None) (running_is None) ticks_shown.files (ticks_shown.session ∙ sym more.after) refl)
        refl refl
        (ticks_shown.shown ∙ ap (λ (g : PlainGrid). last_shown g (screens_of (ticks_from b.session).shots)) unseen.shown
        ∙ ap (last_shown a.shown) (sym same.screens))
        (subst (λ (t : Option (List ℕ)). Appends t c.taken (painted_over a.shown (screens_of (all_ticks told).shots))) unseen.taken
        (subst (Appends b.taken c.taken)
        (ap (λ (g : PlainGrid). painted_over g (screens_of (ticks_from b.session).shots)) unseen.shown ∙ ap (painted_over a.shown) (sym same.screens))
        ticks_shown.wrote))
        (ticks_shown.unwanted ∙ unseen.wanted)
        (counts_turn (bill (state_at a) (one None)) outcome.fetches (ticks_from b.session).shots (all_ticks told).shots a.counts b.counts c.counts
        same.counts counts ticks_shown.counts)

    -- the turn may be left where the ticks were
    may_be_left : (left : Option ℕ) → MadeUntil b.session left → MayBeLeft (state_at a) (one left) left
    may_be_left None made = tt
    may_be_left (Some number) made =
        let within = made.0 in
        record {
          goes_on = subst (λ (z : Answer). IsTrue (makes_steps z)) pressed.answered running;
          within = subst (λ (z : PlainSession). number ≤ z.asked) pressed.session (omega (arith, within));
          made = subst (λ (z : PlainSession). AreMade (steps_of z) number z) pressed.session made.1;
        }

    -- what was written of its screens
    written_is : (c : Moment) (count : ℕ) (part whole : List Shot) → screens_of whole ≡ screens_of part
        → Appends b.taken c.taken (take count (painted_over b.shown (screens_of part)))
        → Appends a.taken c.taken (take count (painted_over a.shown (screens_of whole)))
    written_is c count part whole screens wrote =
        subst (λ (t : Option (List ℕ)). Appends t c.taken (take count (painted_over a.shown (screens_of whole)))) unseen.taken
        (subst (λ (l : List ℕ). Appends b.taken c.taken (take count l))
        (ap (λ (g : PlainGrid). painted_over g (screens_of part)) unseen.shown ∙ ap (painted_over a.shown) (sym screens)) wrote)

    -- a screen of a tick was cut short
    cut_at : (c : Moment) (left : Option ℕ) (count : ℕ) → ShowsUntil b.session left → TicksLeft b c left count None → KeysCut (key ∷ []) a c
    cut_at c None count shows is_left =
        turn_cut a c (one None) (running_turn told files_claimed None)
        (made_turn c None (running_turn told files_claimed None) (running_is None) is_left.files (is_left.session ∙ sym more.after) refl)
        count tt refl (written_is c count (ticks_from b.session).shots (all_ticks told).shots same.screens is_left.wrote)
        (counts_turn (bill (state_at a) (one None)) outcome.fetches (ticks_from b.session).shots (all_ticks told).shots a.counts b.counts c.counts
        same.counts counts is_left.counts)
    cut_at c (Some number) count shows is_left =
        let until = shown_same outcome.fetches (ticks_from b.session) (all_ticks told) more b.session.trace number shows.0 shows.1 in
        turn_cut a c (one (Some number)) (running_turn told files_claimed (Some number))
        (made_turn c (Some number) (running_turn told files_claimed (Some number)) (running_is (Some number)) is_left.files is_left.session refl)
        count (may_be_left (Some number) is_left.made) refl
        (written_is c count (shots_until b.session (Some number)) (left_shots number told) until.screens is_left.wrote)
        (counts_turn (bill (state_at a) (one (Some number))) outcome.fetches (shots_until b.session (Some number)) (left_shots number told)
        a.counts b.counts c.counts until.counts counts is_left.counts)

    -- all shots of its turn, if it had come to its end
    whole_shots : shots (state_at a) (one None ∷ []) ≡ (all_ticks told).shots
    whole_shots = ap (λ (u : Turn). u.shots ++ []) (turn_is None ∙ running_is None) ∙ append-nil (all_ticks told).shots

    -- a step wanted memory
    running_wanted : (c : Moment) → TicksWanted b c → KeysStepWanted (key ∷ []) a c
    running_wanted c wants =
        let number = wants.number in
        let until = until_same outcome.fetches (ticks_from b.session) (all_ticks told) more b.session.trace number in
        let t = running_turn told files_claimed (Some number) in
        let done = made_turn c (Some number) t (running_is (Some number)) wants.is_left.files wants.is_left.session refl in
        let all_due = ap all_fetched whole_shots in
        let fetched = same.counts.fetched in
        let bytes = ap (λ (l : List Shot). length (painted_over a.shown (screens_of l))) (shots_are a c (one (Some number)) t done) in
        let screens = ap (λ (gs : List PlainGrid). length (painted_over a.shown gs)) until.screens in
        let shown = ap (λ (g : PlainGrid). length (painted_over g (screens_of (shots_until b.session (Some number))))) unseen.shown in
        let all = wants.all in
        record {
          earlier = [];
          last = one (Some number);
          front = ([], refl);
          number = number;
          left = refl;
          count = wants.count;
          up_to = turn_up_to a c (one (Some number)) t done wants.count (Some (all_fetched (shots (state_at a) (one None ∷ []))))
              (may_be_left (Some number) wants.is_left.made)
              (written_is c wants.count (shots_until b.session (Some number)) (left_shots number told) until.screens wants.is_left.wrote)
              (counts_turn_left (bill (state_at a) (one (Some number))) outcome.fetches (all_fetched (ticks_from b.session).shots)
              (all_fetched (shots (state_at a) (one None ∷ []))) (shots_until b.session (Some number)) (left_shots number told)
              a.counts b.counts c.counts until.rows until.fetched (omega (arith, all_due, fetched)) counts wants.is_left.counts);
          all = omega (arith, bytes, screens, shown, all);
          calls = wants.calls;
          going = ends_is a c (one (Some number)) t done;
        }

    -- by what became of its ticks
    pub one_ticked : (c : Moment) (gone : Going) → MadeTicks gone b c → Pressed gone (key ∷ []) a c
    one_ticked c On made = running_shown c made
    one_ticked c (Over status.WriteFault) made = cut_at c made.left made.count made.shows made.is_left
    one_ticked c (Over status.NoMemory) made =
        elim made as (λ _. (KeysCut (key ∷ []) a c × Rose a.wanted c.wanted) ⊎ (KeysWanted (key ∷ []) a c ⊎ KeysStepWanted (key ∷ []) a c)) [
          | inl cut ↦ inl (cut_at c cut.0.left cut.0.count cut.0.shows cut.0.is_left, subst (λ (n : ℕ). Rose n c.wanted) unseen.wanted cut.1)
          | inr wants ↦ inr (inr (running_wanted c wants))
        ]
    one_ticked c (Over status.Done) made = absurd made
    one_ticked c (Over status.ReadFault) made = absurd made
    one_ticked c (Over status.BadWords) made = absurd made
    one_ticked c (Over status.KeyLimit) made = absurd made

-- what ticks may end a run with
pub ticks_may_end : (gone : Going) (b c : Moment) → MadeTicks gone b c → MayEnd gone
ticks_may_end On b c made = tt
ticks_may_end (Over status.WriteFault) b c made = tt
ticks_may_end (Over status.NoMemory) b c made = tt
ticks_may_end (Over status.Done) b c made = tt
ticks_may_end (Over status.ReadFault) b c made = absurd made
ticks_may_end (Over status.BadWords) b c made = absurd made
ticks_may_end (Over status.KeyLimit) b c made = absurd made

-- what a painted screen may end a run with
pub painted_may_end : (painted : Result Unit SinkFault) → MayEnd (going_after painted)
painted_may_end (Ok nothing) = tt
painted_may_end (Err SinkFault.Failed) = tt
painted_may_end (Err SinkFault.OutOfMemory) = tt

-- a write failed exactly where the sink's count rose
pub painted_caused : (painted : Result Unit SinkFault) (before now : ℕ) → HasCause SinkFault.Failed before now painted
    → RisesWith (going_after painted ≡ Over status.WriteFault) before now
painted_caused (Ok nothing) before now cause =
    record { later = cause.later; rose = λ e. absurd (cc); same = λ other. cause.same (λ e. absurd (cc)); last = cause.last }
painted_caused (Err SinkFault.Failed) before now cause =
    record { later = cause.later; rose = λ e. cause.rose refl; same = λ other. absurd (other refl); last = cause.last }
painted_caused (Err SinkFault.OutOfMemory) before now cause =
    record { later = cause.later; rose = λ e. absurd (cc); same = λ other. cause.same (λ e. absurd (cc)); last = cause.last }

-- an answer after which the session goes on, and no run in it
pub still_answer : (answer : Answer) → (answer ≡ Done) ⊎ ((why : Refusal) × (answer ≡ Refused why))
    → (makes_steps answer ≡ false) × (is_quit answer ≡ false)
still_answer answer (inl done) = (ap makes_steps done, ap is_quit done)
still_answer answer (inr refused) = (ap makes_steps refused.1, ap is_quit refused.1)

-- ---- no key

-- nothing but the count of wants of the files is seen to have changed
pub record IsUnchanged (a b : Moment) : Type 0 where
  pub session : b.session ≡ a.session
  pub shown : b.shown ≡ a.shown
  pub taken : b.taken ≡ a.taken
  pub wanted : b.wanted ≡ a.wanted
  pub stored : b.files.stored ≡ a.files.stored
  pub faults : b.files.faults ≡ a.files.faults
  pub counts : b.counts ≡ a.counts

-- nothing at all
pub unchanged_itself : (a : Moment) → IsUnchanged a a
unchanged_itself a = record { session = refl; shown = refl; taken = refl; wanted = refl; stored = refl; faults = refl; counts = refl }

-- no key was pressed
pub none_shown : (a b : Moment) → IsUnchanged a b → AllShown a b []
none_shown a b same = record {
  can_reply = tt;
  going = refl;
  session = same.session;
  files = told_same a.files.stored b.files.stored same.stored;
  shown = same.shown;
  wrote = subst (λ taken. Appends a.taken taken []) (sym same.taken) (Appends-nil a.taken);
  unwanted = same.wanted;
  faults = omega (arith, same.faults);
  ended = tt;
  counts = subst (λ (counts : PlainCounts). CountsFor no_bill [] None a.counts counts) (sym same.counts) (counts_nothing a.counts);
}

-- ---- a key that wanted memory

-- what is fetched in a press is fetched for the shots of its turn
fetched_in_ticks : (steps : Steps) (left fetches : ℕ) (s : PlainSession) → fetches ≤ all_fetched (ticks steps left fetches s).shots
fetched_in_ticks steps left fetches s =
    let counted = (all_same fetches (ticks steps left 0 s) (ticks steps left fetches s) (ticks_more steps left fetches s)).counts.fetched in
    omega (arith, counted)

fetched_in : (answer : Answer) (outcome : KeyOutcome) (files : Option FileMap) → ((answer ≡ Running → ⊥) → outcome.fetches ≡ 0)
    → outcome.fetches ≤ all_fetched (turn_with (record outcome { answer = answer }) files None).shots
fetched_in Running outcome files law = fetched_in_ticks (steps_of outcome.after) (steps_left outcome.after) outcome.fetches outcome.after
fetched_in Done outcome files law = omega arith
fetched_in (Refused why) outcome files law = omega arith
fetched_in Quit outcome files law = let nothing = law (λ e. absurd (cc)) in omega (arith, nothing)

pub presses_fetch : StillKeysFetchNothing → PressesFetchForShots
unfolding turn
presses_fetch law state key reply =
    fetched_in (press state.session key reply).answer (press state.session key reply) (files_after (request state.session key) reply state.files)
    (law state.session key reply)

-- the key wanted memory, and did nothing but count
pub one_wanted : {reply : Reply} (key : Key) (a b : Moment) → StillKeysFetchNothing → IsTrue (key_takes_memory a.session key)
    → HaveNoMemory (request a.session key) reply a.files b.files → b.session ≡ a.session → IsUnseen a b
    → CountsWanted (press a.session key reply) a.counts b.counts → KeysWanted (key ∷ []) a b
one_wanted {reply} key a b law takes files session unseen work = record {
  pressed = [];
  wanted = key;
  takes = takes;
  counts = files.wants;
  front = ([], refl);
  counted = a.counts;
  shown = none_shown a (record b { counts = a.counts })
      (record {
        session = session;
        shown = unseen.shown;
        taken = unseen.taken;
        wanted = unseen.wanted;
        stored = files.stored;
        faults = files.faults;
        counts = refl;
      });
  reply = reply;
  can_reply = files.can;
  work = work;
  law = presses_fetch law;
}
