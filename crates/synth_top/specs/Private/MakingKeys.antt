-- What pressing some keys of a making does, between two moments of it.
use Rattle.std.specs.Prelude.{◌≡◌, ℕ, List, Option, Some, None, Result, Ok, Err}
use Rattle.plcs_base.specs.PlainCounts.{PlainCounts}
use Rattle.synth_session.specs.CountedKey.{CountsPressed, CountsPressedAtMost}
use Rattle.synth_session.specs.declared.key.Key.{Key}
use Rattle.synth_session.specs.SessionView.{IsReadyForKey, plain_session}
use Rattle.synth_top.specs.declared.maker.Maker.{Maker}
use Rattle.synth_top.specs.Keys.{IsFront}
use Rattle.synth_session.specs.PlainSession.{PlainSession}
use Rattle.synth_top.specs.Making.{AllMade, made_from, turns_fetched}
use Rattle.synth_top.specs.Turn.{AllCameToEnd, EditorState, HaveReplies, PressedKey, bills, keys_pressed, state_after_keys}

-- the state of a making that a maker is in: its session, and the map of its own files
abbrev pub state_of : {W : Type 0} → Maker W → EditorState
state_of m = record { session = plain_session m.session; files = Some m.files.stored }

-- the maker can press the next key of a making: its session keeps its conditions
abbrev pub CanPress : {W : Type 0} → Maker W → Type 0
CanPress m = IsReadyForKey m.session

-- between two moments of a making all of these keys were pressed
pub record KeysMade (keys : List Key) (before now : EditorState) (counts_before counts_now : PlainCounts)
    : Type 0 where
  pub pressed : List PressedKey
  pub all : keys_pressed pressed ≡ keys
  pub can_reply : HaveReplies before pressed
  pub ended : AllCameToEnd pressed
  pub state : now ≡ state_after_keys before pressed
  pub counts : CountsPressed (bills before pressed).checks (bills before pressed).emits
      (turns_fetched before pressed) (turns_fetched before pressed) counts_before counts_now

-- these keys of a making were pressed up to one in whose turn memory ran out
pub record KeysUnmade (keys : List Key) (before : EditorState) (counts_before counts_now : PlainCounts) : Type 0 where
  pub pressed : List PressedKey
  pub front : IsFront (keys_pressed pressed) keys
  pub can_reply : HaveReplies before pressed
  pub ended : AllCameToEnd pressed
  pub counts : CountsPressedAtMost (bills before pressed).checks (bills before pressed).emits
      (turns_fetched before pressed) counts_before counts_now

-- what became of these keys in a making: all were pressed, or memory ran out
abbrev pub MakesKeys : {T E : Type 0} → List Key → (before now : EditorState) →
    (counts_before counts_now : PlainCounts) → Result T E → Type 0
MakesKeys keys before now counts_before counts_now (Ok done) = KeysMade keys before now counts_before counts_now
MakesKeys keys before now counts_before counts_now (Err error) = KeysUnmade keys before counts_before counts_now

-- a program of so many statements was made, and this is the session of the making then
pub record IsMade (number : ℕ) (session : PlainSession) (counts_before counts_now : PlainCounts) : Type 0 where
  pub made : AllMade number counts_before counts_now
  pub session_is : session ≡ (state_after_keys made_from made.pressed).session
