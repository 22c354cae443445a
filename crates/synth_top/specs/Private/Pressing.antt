-- What pressing some keys does, between two moments of a run.
use Rattle.std.specs.Prelude.{◌≡◌, ◌⊎◌, ℕ, ◌≤◌, true, false, IsTrue, List, [], ◌∷◌, ◌++◌, length, take, Option, Some, None}
use Rattle.std.specs.Io.KnownBytes.{Appends, Consumes, IsAtEnd}
use Rattle.plcs_base.specs.Count.{Rose, RoseBy}
use Rattle.plcs_base.specs.PlainCounts.{PlainCounts}
use Rattle.synth_outside.specs.Files.{PlainFiles}
use Rattle.screen_window.specs.PlainGrid.{PlainGrid}
use Rattle.synth_session.specs.declared.answer.Answer.{Answer}
use Rattle.synth_session.specs.declared.key.Key.{Key}
use Rattle.synth_session.specs.KeyReply.{CountsWant, HaveReplied, Reply}
use Rattle.synth_session.specs.KeyRequest.{request}
use Rattle.synth_session.specs.MemoryTaken.{key_takes_memory}
use Rattle.synth_session.specs.PlainSession.{PlainSession}
use Rattle.synth_session.specs.Press.{press}
use Rattle.synth_session.specs.SessionView.{CountsWanted, IsReadyForKey}
use Rattle.synth_session.specs.Tick.{CallsNext}
use Rattle.synth_top.specs.declared.editor.Editor.{Editor}
use Rattle.synth_top.specs.declared.editor.Going.{Going}
use Rattle.synth_top.specs.declared.editor.Going.TheVariants.{On, Over}
use Rattle.synth_top.specs.declared.status.Status.{Status}
use Rattle.synth_top.specs.declared.status.Status.TheVariants.{Done, ReadFault, WriteFault, NoMemory, BadWords, KeyLimit}
use Rattle.synth_top.specs.Counted.{CountsFor, all_fetched}
use Rattle.synth_top.specs.WholeRun.{painted_over}
use Rattle.synth_outside.specs.Cause.{RisesWith}
use Rattle.synth_top.specs.Turn.{AllCameToEnd, HasReply, HaveReplies, IsToldAs, LeftAtLast, PressedKey, EditorState, bills, state_after_keys, ends, failures, grids, keys_pressed, pressed_whole, shots, steps_of, turn}
use Rattle.synth_top.specs.Keys.{IsFront}

-- ---- an editor

-- an editor is ready for keys that are pressed: its session keeps its conditions
abbrev pub IsReady : {W : Type 0} → Editor W → Type 0
IsReady e = IsReadyForKey e.session

-- between two moments of a run in which keys are pressed their next byte was read, or nothing is left
abbrev pub ReadsByte : Option ℕ → Option (List ℕ) → Option (List ℕ) → Type 0
ReadsByte (Some byte) before now = Consumes before now (byte ∷ [])
ReadsByte None before now = Consumes before now [] × IsAtEnd now

-- ---- one key

-- one key was pressed between two moments of a run: what it asked was replied to, and the session and the answer are
-- what comes of that
pub record IsPressed (key : Key) (answer : Answer) (before now : PlainSession)
    (files_before files_now : PlainFiles) : Type 0 where
  pub reply : Reply
  pub files : HaveReplied (request before key) reply files_before files_now
  pub session : now ≡ (press before key reply).after
  pub answered : answer ≡ (press before key reply).answer

-- ---- some keys

-- what is seen of a run at a moment before or after some keys are pressed: its session, the screen that is shown, the
-- bytes that the sink took and its count of wants, the files, and what was counted
pub record Moment : Type 0 where
  pub session : PlainSession
  pub shown : PlainGrid
  pub taken : Option (List ℕ)
  pub wanted : ℕ
  pub files : PlainFiles
  pub counts : PlainCounts

-- the moment before or after some keys are pressed at which a run has this session and this screen shown, these bytes
-- and wants of its sink, these files and these counts
abbrev pub moment_of : PlainSession → PlainGrid → Option (List ℕ) → ℕ → PlainFiles → PlainCounts → Moment
moment_of session shown taken wanted files counts = record {
  session = session;
  shown = shown;
  taken = taken;
  wanted = wanted;
  files = files;
  counts = counts;
}

-- the state that is seen at one of two moments between which keys are pressed: the map is claimed that the files tell
abbrev pub state_at : Moment → EditorState
state_at m = record { session = m.session; files = m.files.stored }

-- the screen that is shown after pressing keys that showed these: the last of them, or where there is none this one
abbrev pub last_shown : PlainGrid → List PlainGrid → PlainGrid
last_shown shown [] = shown
last_shown shown (next ∷ rest) = last_shown next rest

-- between two moments these keys were pressed, none ended the session, and all their screens were written
pub record AllShown (before now : Moment) (pressed : List PressedKey) : Type 0 where
  pub can_reply : HaveReplies (state_at before) pressed
  pub going : ends (state_at before) pressed ≡ false
  pub session : now.session ≡ (state_after_keys (state_at before) pressed).session
  pub files : IsToldAs (state_after_keys (state_at before) pressed).files now.files.stored
  pub shown : now.shown ≡ last_shown before.shown (grids (state_at before) pressed)
  pub wrote : Appends before.taken now.taken (painted_over before.shown (grids (state_at before) pressed))
  pub unwanted : now.wanted ≡ before.wanted
  pub faults : RoseBy (failures pressed) before.files.faults now.files.faults
  pub ended : AllCameToEnd pressed
  pub counts : CountsFor (bills (state_at before) pressed)
      (shots (state_at before) pressed) None before.counts now.counts

-- what pressing these keys did, up to a last one, between two moments of a run: none before it ended the session, all
-- screens before its own were written, and of its own so much that `count` bytes were written in all; where memory ran
-- out, so many instructions were due
pub record UpToLast (before now : Moment) (earlier : List PressedKey) (last : PressedKey) (count : ℕ) (due : Option ℕ)
    : Type 0 where
  pub can_reply : HaveReplies (state_at before) (earlier ++ last ∷ [])
  pub going : ends (state_at before) earlier ≡ false
  pub session : now.session ≡ (state_after_keys (state_at before) (earlier ++ last ∷ [])).session
  pub files : IsToldAs (state_after_keys (state_at before) (earlier ++ last ∷ [])).files now.files.stored
  pub wrote : Appends before.taken now.taken
      (take count (painted_over before.shown (grids (state_at before) (earlier ++ last ∷ []))))
  pub whole : length (painted_over before.shown (grids (state_at before) earlier)) ≤ count
  pub faults : RoseBy (failures (earlier ++ last ∷ [])) before.files.faults now.files.faults
  pub wants : now.files.wants ≡ before.files.wants
  pub left : LeftAtLast (state_at before) (earlier ++ last ∷ [])
  pub counts : CountsFor (bills (state_at before) (earlier ++ last ∷ []))
      (shots (state_at before) (earlier ++ last ∷ [])) due
      before.counts now.counts

-- between two moments of a run all of these keys were pressed
pub record KeysShown (keys : List Key) (before now : Moment) : Type 0 where
  pub pressed : List PressedKey
  pub all : keys_pressed pressed ≡ keys
  pub shown : AllShown before now pressed
  pub wants : now.files.wants ≡ before.files.wants

-- between two moments of a run these keys were pressed up to one that ended the session
pub record KeysQuit (keys : List Key) (before now : Moment) : Type 0 where
  pub earlier : List PressedKey
  pub last : PressedKey
  pub front : IsFront (keys_pressed (earlier ++ last ∷ [])) keys
  pub count : ℕ
  pub up_to : UpToLast before now earlier last count None
  pub quit : ends (state_at before) (earlier ++ last ∷ []) ≡ true
  pub all : length (painted_over before.shown (grids (state_at before) (earlier ++ last ∷ []))) ≤ count

-- these keys were pressed, between two moments of a run, up to one a screen of which was cut short
pub record KeysCut (keys : List Key) (before now : Moment) : Type 0 where
  pub earlier : List PressedKey
  pub last : PressedKey
  pub front : IsFront (keys_pressed (earlier ++ last ∷ [])) keys
  pub count : ℕ
  pub up_to : UpToLast before now earlier last count None
  pub going : ends (state_at before) (earlier ++ last ∷ []) ≡ false

-- between two moments of a run these keys were pressed up to one in whose turn a step of the program's run wanted
-- memory
pub record KeysStepWanted (keys : List Key) (before now : Moment) : Type 0 where
  pub earlier : List PressedKey
  pub last : PressedKey
  pub front : IsFront (keys_pressed (earlier ++ last ∷ [])) keys
  pub number : ℕ
  pub left : last.left_after ≡ Some number
  pub count : ℕ
  pub up_to : UpToLast before now earlier last count
      (Some (all_fetched (shots (state_at before) (earlier ++ record last { left_after = None } ∷ []))))
  pub all : length (painted_over before.shown (grids (state_at before) (earlier ++ last ∷ []))) ≤ count
  pub calls : CallsNext (steps_of now.session) now.session
  pub going : ends (state_at before) (earlier ++ last ∷ []) ≡ false

-- of whatever key is pressed between two moments of a run: no more is fetched in its press than for the shots of its
-- turn
abbrev pub PressesFetchForShots : Type 0
PressesFetchForShots =
    (state : EditorState) (key : Key) (reply : Reply)
    → (press state.session key reply).fetches ≤ all_fetched (turn state (pressed_whole key reply)).shots

-- these keys were pressed up to one that wanted memory, and so did nothing: from these counts on it counted under the
-- outcome that it has with this reply, which what it asks can have
pub record KeysWanted (keys : List Key) (before now : Moment) : Type 0 where
  pub pressed : List PressedKey
  pub wanted : Key
  pub takes : IsTrue (key_takes_memory (state_after_keys (state_at before) pressed).session wanted)
  pub counts : CountsWant
      (request (state_after_keys (state_at before) pressed).session wanted) before.files.wants now.files.wants
  pub front : IsFront (keys_pressed pressed ++ wanted ∷ []) keys
  pub counted : PlainCounts
  pub shown : AllShown before (record now { counts = counted }) pressed
  pub reply : Reply
  pub can_reply : HasReply (state_after_keys (state_at before) pressed) (pressed_whole wanted reply)
  pub work : CountsWanted (press (state_after_keys (state_at before) pressed).session wanted reply) counted now.counts
  pub law : PressesFetchForShots

-- what became of the keys, by whether the session goes on
abbrev pub Pressed : Going → List Key → Moment → Moment → Type 0
Pressed On keys before now = KeysShown keys before now
Pressed (Over Done) keys before now = KeysQuit keys before now
Pressed (Over WriteFault) keys before now = KeysCut keys before now
Pressed (Over NoMemory) keys before now =
    (KeysCut keys before now × Rose before.wanted now.wanted)
    ⊎ (KeysWanted keys before now ⊎ KeysStepWanted keys before now)
Pressed (Over ReadFault) keys before now = ⊥
Pressed (Over BadWords) keys before now = ⊥
Pressed (Over KeyLimit) keys before now = ⊥

-- what pressing keys may end a run with
abbrev pub MayEnd : Going → Type 0
MayEnd On = Unit {0}
MayEnd (Over Done) = Unit {0}
MayEnd (Over WriteFault) = Unit {0}
MayEnd (Over NoMemory) = Unit {0}
MayEnd (Over ReadFault) = ⊥
MayEnd (Over BadWords) = ⊥
MayEnd (Over KeyLimit) = ⊥

-- keys were pressed: what became of them, and the count of the sink's faults
pub record PressesKeys (going : Going) (keys : List Key) (before now : Moment) (faults_before faults_now : ℕ)
    : Type 0 where
  pub ends : MayEnd going
  pub pressed : Pressed going keys before now
  pub cause : RisesWith (going ≡ Over WriteFault) faults_before faults_now

-- the status with which pressing keys ended the run, or else this one
abbrev pub ended_as : Going → Status → Status
ended_as On status = status
ended_as (Over ended) status = ended
