-- A whole run: from the bytes of keys to the bytes of screens.
use Rattle.std.proofs.Common.{inl, inr}
use Rattle.std.specs.Prelude.{◌≡◌, ◌⊎◌, ℕ, ◌+◌, ◌<◌, ◌≤◌, true, false, IsTrue, List, [], ◌∷◌, ◌++◌, length, take, Option, Some, None, codes}
use Rattle.std.specs.Io.KnownBytes.{Appends, Consumes, IsAtEnd}
use Rattle.plcs_base.specs.Count.{Rose, RoseBy, raised_by}
use Rattle.plcs_base.specs.PlainCounts.{CountsNothing, PlainCounts}
use Rattle.synth_outside.specs.Files.{PlainFiles}
use Rattle.screen_window.specs.Paint.{Paint, control}
use Rattle.screen_window.specs.PlainGrid.{PlainGrid, blank_grid}
use Rattle.synth_session.specs.declared.key.Key.{Key}
use Rattle.synth_session.specs.KeyReply.{CountsWant, Reply}
use Rattle.synth_session.specs.KeyRequest.{request}
use Rattle.synth_session.specs.MemoryTaken.{key_takes_memory}
use Rattle.synth_session.specs.CountedKey.{CountsProgram}
use Rattle.synth_session.specs.PlainSession.{PlainSession}
use Rattle.synth_session.specs.SessionScreen.{grid}
use Rattle.synth_session.specs.Tick.{CallsNext}
use Rattle.synth_top.specs.declared.status.Status.{Status}
use Rattle.synth_top.specs.declared.status.Status.TheVariants.{Done, ReadFault, WriteFault, NoMemory, BadWords, KeyLimit}
use Rattle.synth_top.specs.Counted.{CountsFor, all_fetched}
use Rattle.synth_top.specs.Keys.{IsFront, completed, keys}
use Rattle.synth_top.specs.Making.{MadeAs, ToldMaking}
use Rattle.synth_top.specs.Loads.{CanLoad, PlainFirstLoads, first_state, load_failures, opening_bill}
use Rattle.synth_top.specs.Options.{PlainOptions}
use Rattle.synth_top.specs.Rescue.{CountsRescueWant, IsRescue, Rescue, files_with, rescue_failure}
use Rattle.synth_top.specs.Task.{PlainTask}
use Rattle.synth_top.specs.Task.PlainTask.{Edit, Make}
use Rattle.synth_top.specs.Turn.{AllCameToEnd, KeyBill, HasReply, HaveReplies, IsToldAs, LeftAtLast, PressedKey, EditorState, Shot, bill, bills, both_bills, state_after_keys, ends, failures, grids, keys_pressed, no_bill, pressed_whole, shot_of, shots, steps_of, turn}

-- ---- what is written

-- the first piece that a whole run writes, which sets the default image and clears the screen
abbrev pub clear_piece : List ℕ
clear_piece = control (codes "0m") ++ control (codes "2J")

-- the bytes of the opening screen of a whole run, which is painted over a cleared one
unfoldable pub opening : PlainSession → List ℕ
opening s = clear_piece ++ Paint (blank_grid s.size.rows s.size.cols) (grid s)

-- the bytes of a run's screens in turn: each painted over the one before, the first over the one that is shown
abbrev pub painted_over : PlainGrid → List PlainGrid → List ℕ
painted_over shown [] = []
painted_over shown (next ∷ rest) = Paint shown next ++ painted_over next rest

-- all bytes that a whole run writes: the opening screen, and then turn by turn each screen over the one before
unfoldable pub written : EditorState → List PressedKey → List ℕ
written state pressed =
    opening state.session ++ painted_over (grid state.session) (grids state pressed)

-- ---- what a run begins with

-- what is told, at a moment of a whole run, of the bytes of keys and those of screens: the bytes that the source has
-- left and how many reads it counted, and the bytes that the sink took and how many wants of memory it counted
pub record ToldStreams : Type 0 where
  pub left : Option (List ℕ)
  pub reads : ℕ
  pub taken : Option (List ℕ)
  pub wants : ℕ

-- what is told of all that is handed in, at a moment of a run: keys and screens, files, and what was counted
pub record Told : Type 0 where
  pub streams : ToldStreams
  pub files : PlainFiles
  pub counts : PlainCounts

-- ---- what a run has done

-- in a run below the limit one read was made after these bytes, and it found the source's end
pub record EndRead (options : PlainOptions) (now : ToldStreams) (bytes : List ℕ) (reads : ℕ) : Type 0 where
  pub one_more : reads ≡ length bytes + 1
  pub below : length bytes < options.key_limit
  pub ended : IsAtEnd now.left

-- a run took as many bytes as the limit says, and made no read after them
pub record LimitTaken (options : PlainOptions) (bytes : List ℕ) (reads : ℕ) : Type 0 where
  pub one_each : reads ≡ length bytes
  pub many : length bytes ≡ options.key_limit

-- no byte of keys comes after these in a run: the source's end was read, or the limit is met
abbrev pub NoKeyComes : PlainOptions → ToldStreams → List ℕ → ℕ → Type 0
NoKeyComes options now bytes reads = EndRead options now bytes reads ⊎ LimitTaken options bytes reads

-- one read a byte was made; or the source's end was read too, and these keys begin with all that the
-- bytes complete
abbrev pub ReadsInTurn : PlainOptions → ToldStreams → List ℕ → ℕ → List PressedKey → Type 0
ReadsInTurn options now bytes reads pressed =
    (reads ≡ length bytes)
    ⊎ (EndRead options now bytes reads × IsFront (completed bytes) (keys_pressed pressed))

-- what a whole run from this state of its opening screen has done between two moments: the bytes of keys that it took,
-- the keys that it pressed, and how much of its screens it wrote
pub record Course (options : PlainOptions) (first : EditorState) (before now : ToldStreams) : Type 0 where
  -- the bytes of keys, each taken once and in order, and at most one that a failed read lost
  pub bytes : List ℕ
  pub lost : List ℕ
  pub read : Consumes before.left now.left (bytes ++ lost)
  pub one : length lost ≤ 1
  pub within : length bytes ≤ options.key_limit
  -- how many reads of keys the whole run made
  pub reads : ℕ
  pub made : now.reads ≡ raised_by reads before.reads
  -- the keys pressed, each with what was replied in it; none but the last was left before its end, and what isn't
  -- complete is pressed only where no byte comes any more
  pub pressed : List PressedKey
  pub can_reply : HaveReplies first pressed
  pub left : LeftAtLast first pressed
  pub in_order : IsFront (keys_pressed pressed) (keys bytes)
  pub complete : IsFront (keys_pressed pressed) (completed bytes) ⊎ NoKeyComes options now bytes reads
  -- how many bytes the sink took of all that the run writes on screens
  pub count : ℕ
  pub wrote : Appends before.taken now.taken (take count (written first pressed))

-- ---- why a run stopped

module _ {options : PlainOptions} {first : EditorState} {before now : ToldStreams}
    (course : Course options first before now) where
  -- the state after all keys that a whole run pressed
  abbrev pub state_after : EditorState
  state_after = state_after_keys first course.pressed

  -- all shots of a whole run: that of the opening screen, and then those of the keys
  abbrev pub all_shots : List Shot
  all_shots = shot_of first.session ∷ shots first course.pressed

  -- the sink took all that a run writes
  abbrev pub AllWritten : Type 0
  AllWritten = length (written first course.pressed) ≤ course.count

  -- a whole run lost no byte of the keys that its source had
  abbrev pub NoneLost : Type 0
  NoneLost = course.lost ≡ []

  -- a whole run pressed just these keys, each turn came to its end, and none ended the session
  pub record PressedAll (all : List Key) : Type 0 where
    pub pressed : keys_pressed course.pressed ≡ all
    pub ended : AllCameToEnd course.pressed
    pub going : ends first course.pressed ≡ false

  -- a whole run stopped at the source's end: that was read below the limit, and then what isn't complete was pressed
  -- too
  pub record SourceEnded : Type 0 where
    pub all : PressedAll (keys course.bytes)
    pub end : EndRead options now course.bytes course.reads

  -- a run took as many bytes as the limit says, and then what isn't complete was pressed too
  pub record LimitMet : Type 0 where
    pub all : PressedAll (keys course.bytes)
    pub limit : LimitTaken options course.bytes course.reads

  -- in a run below the limit the read after the bytes gave no answer, and what isn't complete wasn't pressed
  pub record ReadCut : Type 0 where
    pub all : PressedAll (completed course.bytes)
    pub below : length course.bytes < options.key_limit
    pub one_more : course.reads ≡ length course.bytes + 1

  -- in a run the newest byte was taken, and the source's end read, only after the keys that the bytes before it
  -- complete, which are among these
  pub record TakenAfter (pressed : List PressedKey) : Type 0 where
    pub in_turn : (seen : List ℕ) (newest : ℕ) → course.bytes ≡ seen ++ newest ∷ [] →
        IsFront (completed seen) (keys_pressed pressed)
    pub reads : ReadsInTurn options now course.bytes course.reads pressed

  -- the run stopped at the last key pressed: none before it ended the session, the screens of those
  -- were all written, and no byte was taken before they were pressed
  pub record AtLastKey : Type 0 where
    pub earlier : List PressedKey
    pub last : PressedKey
    pub is_last : course.pressed ≡ earlier ++ last ∷ []
    pub going : ends first earlier ≡ false
    pub shown : length (written first earlier) ≤ course.count
    pub taken : TakenAfter earlier

  -- in a run the last key pressed ended the session, and no read was made after its byte
  pub record QuitPressed : Type 0 where
    pub at_key : AtLastKey
    pub quit : ends first course.pressed ≡ true
    pub no_read : course.reads ≡ length course.bytes

  -- in a run a write of the opening screen gave no answer, before any read
  pub record OpeningCut : Type 0 where
    pub no_read : course.reads ≡ 0
    pub no_byte : course.bytes ≡ []
    pub no_key : course.pressed ≡ []

  -- in a run a write of a screen of the last key pressed gave no answer
  pub record ScreenCut : Type 0 where
    pub at_key : AtLastKey
    pub going : ends first course.pressed ≡ false

  -- in a run a key wanted memory, which is one that takes some, between these counts of the files' wants: it isn't
  -- among those pressed but is the next one of the keys of the bytes, those pressed didn't end the session, and no
  -- byte was taken before they were. What it checked is billed by this reply, which what it asks can have, whether or
  -- not it came to one
  pub record KeyWanted (wants_before wants_now : ℕ) : Type 0 where
    pub wanted : Key
    pub reply : Reply
    pub can_reply : HasReply state_after (pressed_whole wanted reply)
    pub takes : IsTrue (key_takes_memory state_after.session wanted)
    pub counts : CountsWant (request state_after.session wanted) wants_before wants_now
    pub next : IsFront (keys_pressed course.pressed ++ wanted ∷ []) (keys course.bytes)
    pub complete : IsFront (keys_pressed course.pressed ++ wanted ∷ []) (completed course.bytes)
        ⊎ NoKeyComes options now course.bytes course.reads
    pub ended : AllCameToEnd course.pressed
    pub going : ends first course.pressed ≡ false
    pub taken : TakenAfter course.pressed

  -- in a whole run a step of the program's run wanted memory, in the turn of the last key pressed, which was taken and
  -- which asked the files for nothing; so many steps were made before that one, which calls a procedure, and the turn
  -- was left there; none before it ended the session
  pub record StepWanted (wants_before wants_now : ℕ) : Type 0 where
    pub at_key : AtLastKey
    pub number : ℕ
    pub left : at_key.last.left_after ≡ Some number
    pub calls : CallsNext (steps_of state_after.session) state_after.session
    pub wants : wants_now ≡ wants_before
    pub going : ends first course.pressed ≡ false

  -- in a run memory ran out in a turn: a key wanted some, or a step in the turn of a key that was taken
  abbrev pub TurnWanted : (wants_before wants_now : ℕ) → Type 0
  TurnWanted wants_before wants_now = KeyWanted wants_before wants_now ⊎ StepWanted wants_before wants_now

  -- what each status says of the whole run, between these counts of the files' wants
  abbrev pub Stopped : (wants_before wants_now : ℕ) → Status → Type 0
  Stopped wants_before wants_now Done = AllWritten × NoneLost × (SourceEnded ⊎ QuitPressed)
  Stopped wants_before wants_now KeyLimit = AllWritten × NoneLost × LimitMet
  Stopped wants_before wants_now ReadFault = AllWritten × ReadCut
  Stopped wants_before wants_now WriteFault = NoneLost × (OpeningCut ⊎ ScreenCut)
  Stopped wants_before wants_now NoMemory =
      (AllWritten × ReadCut)
      ⊎ ((NoneLost × (OpeningCut ⊎ ScreenCut) × Rose before.wants now.wants)
      ⊎ (AllWritten × NoneLost × TurnWanted wants_before wants_now))
  Stopped wants_before wants_now BadWords = ⊥

  -- in a whole run the bill of the turn in which memory ran out, where the key isn't among those pressed
  abbrev pub wanted_bill : (wants_before wants_now : ℕ) → TurnWanted wants_before wants_now → KeyBill
  wanted_bill wants_before wants_now (inl last) = bill state_after (pressed_whole last.wanted last.reply)
  wanted_bill wants_before wants_now (inr step) = no_bill

  -- by why a whole run stopped, the bill of the key after those that it pressed: of one that wanted memory, and else
  -- there is none
  abbrev pub last_bill : (wants_before wants_now : ℕ) (status : Status) → Stopped wants_before wants_now status → KeyBill
  last_bill wants_before wants_now NoMemory (inl cut) = no_bill
  last_bill wants_before wants_now NoMemory (inr (inl cut)) = no_bill
  last_bill wants_before wants_now NoMemory (inr (inr later)) = wanted_bill wants_before wants_now later.2
  last_bill wants_before wants_now status stopped = no_bill

  -- the bill of a whole run that stopped so, from the opening screen on: those of the keys pressed together, and that
  -- of a key which wanted memory
  abbrev pub run_bill : (wants_before wants_now : ℕ) (status : Status) → Stopped wants_before wants_now status → KeyBill
  run_bill wants_before wants_now status stopped =
      both_bills (bills first course.pressed) (last_bill wants_before wants_now status stopped)

  -- the shots that were due in a whole run where memory ran out in a turn: those of the turn of the key that wanted
  -- some, as if it hadn't, or those of the last turn as if it had come to its end
  abbrev pub wanted_shots : (wants_before wants_now : ℕ) → TurnWanted wants_before wants_now → List Shot
  wanted_shots wants_before wants_now (inl last) =
      all_shots ++ (turn state_after (pressed_whole last.wanted last.reply)).shots
  wanted_shots wants_before wants_now (inr step) =
      shot_of first.session ∷ shots first (step.at_key.earlier ++ record (step.at_key.last) { left_after = None } ∷ [])

  -- how many instructions were due in a whole run that stopped so, where memory ran out in a turn, and else none is
  -- told
  abbrev pub fetches_due : (wants_before wants_now : ℕ) (status : Status) → Stopped wants_before wants_now status
      → Option ℕ
  fetches_due wants_before wants_now NoMemory (inl cut) = None
  fetches_due wants_before wants_now NoMemory (inr (inl cut)) = None
  fetches_due wants_before wants_now NoMemory (inr (inr later)) =
      Some (all_fetched (wanted_shots wants_before wants_now later.2))
  fetches_due wants_before wants_now status stopped = None

  -- how a whole run left its source: what that keeps besides its bytes is as after reads that were Ok, and then no byte
  -- was lost; or as after one that wasn't, and then that read cut the run
  abbrev pub LeavesSource : Type 0 → Type 0 → Type 0
  LeavesSource after_reads after_fault = (after_reads × NoneLost) ⊎ (after_fault × ReadCut)

-- ---- a whole run

-- a whole run in which memory ran out where a session was opened over what these loads gave: each phrase of its
-- program was checked once at most, each instruction of its code emitted once at most, and nothing else was counted
pub record OpeningWanted (options : PlainOptions) (before now : Told) : Type 0 where
  pub loads : PlainFirstLoads
  pub can_load : CanLoad options before.files.stored loads
  pub counts : CountsProgram (opening_bill loads).checks (opening_bill loads).emits before.counts now.counts

-- a whole run in which no session was opened, for want of memory: nothing was read or written, the map of the files
-- is as before, their counts haven't fallen, and nothing was counted, or what opening a session counts
pub record NotOpened (status : Status) (options : PlainOptions) (before now : Told)
    (after_reads : Type 0) : Type 0 where
  pub wanted : status ≡ NoMemory
  pub same : now.streams ≡ before.streams
  pub source : after_reads
  pub stored : now.files.stored ≡ before.files.stored
  pub faults : before.files.faults ≤ now.files.faults
  pub wants : before.files.wants ≤ now.files.wants
  pub counts : CountsNothing before.counts now.counts ⊎ OpeningWanted options before now

-- a whole run in which a session was opened: it did this, and stopped, left its source and saved as its status says
pub record Ran (status : Status) (options : PlainOptions) (before now : Told)
    (after_reads after_fault : Type 0) : Type 0 where
  -- what the files did in the whole run before its first screen, where program and input were loaded
  pub loads : PlainFirstLoads
  pub can_load : CanLoad options before.files.stored loads
  -- which bytes of keys the whole run took and which of screens it wrote, why it stopped, and how many wants the files
  -- had counted then
  pub course : Course options (first_state options before.files.stored loads) before.streams now.streams
  pub wants : ℕ
  pub wants_later : before.files.wants ≤ wants
  pub stopped : Stopped course before.files.wants wants status
  pub source : LeavesSource course after_reads after_fault
  -- what the whole run saved at its end, once it took no more keys and wrote no more screens
  pub rescue : Rescue
  pub rescued : IsRescue status rescue
  pub wants_now : CountsRescueWant rescue wants now.files.wants
  -- the map of the files as the keys and what was saved make it, and at least as many faults of theirs as
  -- failures
  pub files : IsToldAs (files_with rescue (state_after course)) now.files.stored
  pub faults : RoseBy (load_failures loads + failures course.pressed + rescue_failure rescue)
      before.files.faults now.files.faults
  -- what was counted: under the bill of the opening and those of the keys, for the shot of the opening screen and those
  -- of the keys
  pub counts : CountsFor (both_bills (opening_bill loads) (run_bill course before.files.wants wants status stopped))
      (all_shots course) (fetches_due course before.files.wants wants status stopped) before.counts now.counts

-- the editor's whole run ended so: no session was opened, or the run went to its end
abbrev pub Ended : Status → PlainOptions → (before now : Told) → (after_reads after_fault : Type 0) → Type 0
Ended status options before now after_reads after_fault =
    NotOpened status options before now after_reads ⊎ Ran status options before now after_reads after_fault

-- what a making changes of all that is told at a moment of a whole run
abbrev pub told_making : Told → ToldMaking
told_making told = record { taken = told.streams.taken; wants = told.streams.wants; counts = told.counts }

-- a whole run that made a program of so many statements, as its status says: no byte of keys was read, and neither its
-- files nor their counts were touched, also where memory ran out
pub record MakingEnded (status : Status) (number : ℕ) (before now : Told) (after_reads : Type 0) : Type 0 where
  pub made : MadeAs status number (told_making before) (told_making now)
  pub left : now.streams.left ≡ before.streams.left
  pub reads : now.streams.reads ≡ before.streams.reads
  pub source : after_reads
  pub files : now.files ≡ before.files

-- the whole run for a task ended so
abbrev pub TaskEnded : PlainTask → Status → (before now : Told) → (after_reads after_fault : Type 0) → Type 0
TaskEnded (Edit options) status before now after_reads after_fault =
    Ended status options before now after_reads after_fault
TaskEnded (Make number) status before now after_reads after_fault =
    MakingEnded status number before now after_reads
