-- What the ticks of a pressed key do, between two moments of a run: from after the key was pressed on.
use Rattle.std.specs.Prelude.{◌≡◌, ◌⊎◌, ℕ, ◌<◌, ◌≤◌, true, List, [], length, take, Option, Some, None, if◌then◌else◌}
use Rattle.std.specs.Io.KnownBytes.{Appends}
use Rattle.plcs_base.specs.Count.{Rose}
use Rattle.synth_session.specs.PlainSession.{PlainSession}
use Rattle.synth_session.specs.Tick.{AreMade, CallsNext, steps_left}
use Rattle.synth_top.specs.declared.editor.Going.{Going}
use Rattle.synth_top.specs.declared.editor.Going.TheVariants.{On, Over}
use Rattle.synth_top.specs.declared.status.Status.TheVariants.{Done, ReadFault, WriteFault, NoMemory, BadWords, KeyLimit}
use Rattle.synth_top.specs.Counted.{CountsFor, all_fetched}
use Rattle.synth_top.specs.Turn.{Shot, Ticks, left_session, no_bill, screens_of, steps_of, ticks}
use Rattle.synth_top.specs.WholeRun.{painted_over}
use Rattle.synth_top.specs.Private.Pressing.{Moment, last_shown}

-- the ticks of a pressed key in this session, from after the key was pressed on: what was fetched in the press isn't
-- counted here
abbrev pub ticks_from : PlainSession → Ticks
ticks_from s = ticks (steps_of s) (steps_left s) 0 s

-- the shots of the ticks of a pressed key, from after it was pressed on, that are made where the ticks are left after
-- so many steps, or at the last one
abbrev pub shots_until : PlainSession → Option ℕ → List Shot
shots_until s None = (ticks_from s).shots
shots_until s (Some number) = if s.trace then take number (ticks_from s).shots else []

-- the session where the ticks of a pressed key, from after it was pressed on, are left after so many steps, or at the
-- last one
abbrev pub session_until : PlainSession → Option ℕ → PlainSession
session_until s None = (ticks_from s).after
session_until s (Some number) = left_session (steps_of s) number s

-- so many steps are made where the ticks of a pressed key, from after it was pressed on, are left
abbrev pub MadeUntil : PlainSession → Option ℕ → Type 0
MadeUntil s None = Unit {0}
MadeUntil s (Some number) = (number ≤ steps_left s) × AreMade (steps_of s) number s

-- all ticks of a key were made, and all their screens written
pub record TicksShown (before now : Moment) : Type 0 where
  pub session : now.session ≡ (ticks_from before.session).after
  pub files : now.files ≡ before.files
  pub shown : now.shown ≡ last_shown before.shown (screens_of (ticks_from before.session).shots)
  pub wrote : Appends before.taken now.taken (painted_over before.shown (screens_of (ticks_from before.session).shots))
  pub unwanted : now.wanted ≡ before.wanted
  pub counts : CountsFor no_bill (ticks_from before.session).shots None before.counts now.counts

-- the ticks of a key were left so, with so many bytes of their screens written; where memory ran out, so many
-- instructions were due
pub record TicksLeft (before now : Moment) (left : Option ℕ) (count : ℕ) (due : Option ℕ) : Type 0 where
  pub made : MadeUntil before.session left
  pub session : now.session ≡ session_until before.session left
  pub files : now.files ≡ before.files
  pub wrote : Appends before.taken now.taken
      (take count (painted_over before.shown (screens_of (shots_until before.session left))))
  pub counts : CountsFor no_bill (shots_until before.session left) due before.counts now.counts

-- a screen may be cut short where the ticks of a key that was pressed are left so: that of the last one, or one that
-- shows a step
abbrev pub ShowsUntil : PlainSession → Option ℕ → Type 0
ShowsUntil s None = Unit {0}
ShowsUntil s (Some number) = (s.trace ≡ true) × (0 < number)

-- after a key was pressed, the screen of one of its ticks was cut short
pub record TicksCut (before now : Moment) : Type 0 where
  pub left : Option ℕ
  pub shows : ShowsUntil before.session left
  pub count : ℕ
  pub is_left : TicksLeft before now left count None

-- after a key was pressed, a step in one of its ticks wanted memory
pub record TicksWanted (before now : Moment) : Type 0 where
  pub number : ℕ
  pub within : number < steps_left before.session
  pub count : ℕ
  pub is_left : TicksLeft before now (Some number) count (Some (all_fetched (ticks_from before.session).shots))
  pub all : length (painted_over before.shown (screens_of (shots_until before.session (Some number)))) ≤ count
  pub calls : CallsNext (steps_of now.session) now.session
  pub unwanted : now.wanted ≡ before.wanted

-- what became of the ticks of a key, by whether the session goes on
abbrev pub MadeTicks : Going → Moment → Moment → Type 0
MadeTicks On before now = TicksShown before now
MadeTicks (Over WriteFault) before now = TicksCut before now
MadeTicks (Over NoMemory) before now = (TicksCut before now × Rose before.wanted now.wanted) ⊎ TicksWanted before now
MadeTicks (Over Done) before now = ⊥
MadeTicks (Over ReadFault) before now = ⊥
MadeTicks (Over BadWords) before now = ⊥
MadeTicks (Over KeyLimit) before now = ⊥
