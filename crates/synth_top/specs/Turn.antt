-- The turns of keys: what each makes of the session and the files, and the shots that it shows.
use Rattle.std.specs.Prelude.{◌≡◌, ℕ, zero, suc, ◌+◌, ◌≤◌, Bool, true, false, IsTrue, ◌||◌, List, [], ◌∷◌, ◌++◌, map, take, Option, Some, None, option_map, if◌then◌else◌}
use Rattle.std.specs.FinMap.{insert}
use Rattle.synth_outside.specs.Files.{FileMap}
use Rattle.file_store.specs.declared.refusal.FileRefusal.{FileRefusal}
use Rattle.screen_window.specs.PlainGrid.{PlainGrid}
use Rattle.synth_session.specs.declared.answer.Answer.{Answer}
use Rattle.synth_session.specs.declared.answer.Answer.TheVariants.{Done, Refused, Running, Quit}
use Rattle.synth_session.specs.declared.key.Key.{Key}
use Rattle.synth_session.specs.declared.tick.Tick.{Tick}
use Rattle.synth_session.specs.KeyReply.{CanReply, Reply, Request}
use Rattle.synth_session.specs.KeyOutcome.{KeyOutcome}
use Rattle.synth_session.specs.KeyRequest.{request}
use Rattle.synth_session.specs.PlainSession.{PlainSession}
use Rattle.synth_session.specs.Press.{press}
use Rattle.synth_session.specs.SessionScreen.{grid, screen_fetches}
use Rattle.synth_session.specs.Tick.{AreMade, Steps, TickOutcome, after_steps, program_steps, steps_left, tick}

-- what a key's turn begins with: the session, and the map of the files; where there is none, nothing is claimed of the
-- files
pub record EditorState : Type 0 where
  pub session : PlainSession
  pub files : Option FileMap

-- the map of the files that is claimed in turns is the one that they tell; where there is none, nothing is claimed
abbrev pub IsToldAs : (claimed told : Option FileMap) → Type 0
IsToldAs None told = Unit {0}
IsToldAs (Some map) told = told ≡ Some map

-- a key that is pressed in a turn, what is replied to what it asks, and, where its turn was left before its end, how
-- many steps of the program's run were made in it
pub record PressedKey : Type 0 where
  pub key : Key
  pub reply : Reply
  pub left_after : Option ℕ

-- a key that is pressed in a turn that comes to its end, with this reply
abbrev pub pressed_whole : Key → Reply → PressedKey
pressed_whole key reply = record { key = key; reply = reply; left_after = None }

-- how many failures of calls on the files a reply in a key's turn is
abbrev pub failure : Reply → ℕ
failure (Reply.Refused FileRefusal.FileFault) = 1
failure reply = 0

-- ---- one turn

-- what a pressed key asks in its turn
abbrev pub asked : EditorState → PressedKey → Request
asked state pressed = request state.session pressed.key

-- in the turn of a pressed key what it asks can be replied to so
abbrev pub HasReply : EditorState → PressedKey → Type 0
HasReply state pressed = CanReply state.files (asked state pressed) pressed.reply

-- the map that is claimed of the files after a key's turn: where they reply that bytes were saved it has them under
-- their name, and else it is as before
abbrev pub files_after : Request → Reply → Option FileMap → Option FileMap
files_after (Request.Save name bytes) Reply.Saved files = option_map (λ map. insert map name bytes) files
files_after request reply files = files

-- whether a key's answer ends the session, so that its turn shows no screen
abbrev pub is_quit : Answer → Bool
is_quit Quit = true
is_quit Done = false
is_quit (Refused why) = false
is_quit Running = false

-- whether a key's answer is that a run of the program goes on in its turn, step by step
abbrev pub makes_steps : Answer → Bool
makes_steps Quit = false
makes_steps Done = false
makes_steps (Refused why) = false
makes_steps Running = true

-- a shot: a screen that is shown in a turn, and how many instructions were fetched in the turn for it, since the shot
-- before
pub record Shot : Type 0 where
  pub screen : PlainGrid
  pub fetched : ℕ

-- the shot of a session, before which so many instructions were fetched in the turn; those that it shows are fetched
-- too
abbrev pub shot_after : (fetched : ℕ) → PlainSession → Shot
shot_after fetched s = record { screen = grid s; fetched = fetched + screen_fetches s }

-- the shot of a session, before which nothing was fetched
abbrev pub shot_of : PlainSession → Shot
shot_of s = shot_after 0 s

-- what a turn gives: its shots in the order in which they are painted, the state after it, and whether
-- the session ends
pub record Turn : Type 0 where
  pub shots : List Shot
  pub after : EditorState
  pub ends : Bool

-- ---- the ticks of a turn in which the run goes on

-- what the ticks of a turn give: a shot after each, and the session after the last
pub record Ticks : Type 0 where
  pub shots : List Shot
  pub after : PlainSession

-- the last tick of a turn, before which so many instructions were fetched since the shot before
abbrev pub last_tick : (fetched : ℕ) → TickOutcome → Ticks
last_tick fetched outcome =
    record { shots = shot_after (fetched + outcome.fetches) outcome.after ∷ []; after = outcome.after }

-- a tick of a turn, before which so many instructions were fetched since the shot before, and those that come after it
abbrev pub tick_before : (fetched : ℕ) → TickOutcome → Ticks → Ticks
tick_before fetched outcome others =
    record { shots = shot_after (fetched + outcome.fetches) outcome.after ∷ others.shots; after = others.after }

-- a tick of a turn by what it answers: it is the last one, or others come after it
abbrev pub tick_by : Tick → (fetched : ℕ) → TickOutcome → (PlainSession → Ticks) → Ticks
tick_by Tick.Over fetched outcome go = last_tick fetched outcome
tick_by Tick.Again fetched outcome go = tick_before fetched outcome (go outcome.after)

-- the ticks of a turn, in which so many steps may be made yet
abbrev pub ticks : Steps → (left fetched : ℕ) → PlainSession → Ticks
ticks steps zero fetched s = last_tick fetched (tick steps s)
ticks steps (suc left) fetched s = tick_by (tick steps s).tick fetched (tick steps s) (ticks steps left 0)

-- the steps of a session's run in a turn are those of its program
abbrev pub steps_of : PlainSession → Steps
steps_of s = program_steps s.tree s.input

-- all ticks of the turn of a key with this outcome
abbrev pub all_ticks : KeyOutcome → Ticks
all_ticks outcome = ticks (steps_of outcome.after) (steps_left outcome.after) outcome.fetches outcome.after

-- the session after so many ticks of a turn, each of which shows a step
abbrev pub after_ticks : Steps → (number : ℕ) → PlainSession → PlainSession
after_ticks steps zero s = s
after_ticks steps (suc number) s = (tick steps (after_ticks steps number s)).after

-- the session where a turn is left in which so many steps were made
abbrev pub left_session : Steps → (number : ℕ) → PlainSession → PlainSession
left_session steps number s = if s.trace then after_ticks steps number s else after_steps steps number s

-- the shots of the turn of a key with this outcome that is left after so many steps: those of the steps, where they are
-- shown
abbrev pub left_shots : (number : ℕ) → KeyOutcome → List Shot
left_shots number outcome = if outcome.after.trace then take number (all_ticks outcome).shots else []

-- ---- the whole turn

-- the turn of a key in which the run goes on, up to its end, or left after so many steps
abbrev pub running_turn : KeyOutcome → Option FileMap → (left_after : Option ℕ) → Turn
running_turn outcome files None = record {
  shots = (all_ticks outcome).shots;
  after = record { session = (all_ticks outcome).after; files = files };
  ends = false;
}
running_turn outcome files (Some number) = record {
  shots = left_shots number outcome;
  after = record { session = left_session (steps_of outcome.after) number outcome.after; files = files };
  ends = false;
}

-- the turn of a key in which no run goes on: one shot, but none where the session ends
abbrev pub still_turn : KeyOutcome → Option FileMap → Turn
still_turn outcome files = record {
  shots = if is_quit outcome.answer then [] else shot_after outcome.fetches outcome.after ∷ [];
  after = record { session = outcome.after; files = files };
  ends = is_quit outcome.answer;
}

-- the turn of a key with this outcome, after which the files have this map; it was left after so many steps, or came to
-- its end
abbrev pub turn_with : KeyOutcome → Option FileMap → (left_after : Option ℕ) → Turn
turn_with outcome files left_after =
    if makes_steps outcome.answer then running_turn outcome files left_after else still_turn outcome files

-- the turn of a key, by what is replied in it
unfoldable pub turn : EditorState → PressedKey → Turn
turn state pressed =
    turn_with (press state.session pressed.key pressed.reply)
    (files_after (asked state pressed) pressed.reply state.files)
    pressed.left_after

-- what a pressed key is answered in its turn
abbrev pub answered : EditorState → PressedKey → Answer
answered state pressed = (press state.session pressed.key pressed.reply).answer

-- the session of a pressed key's turn before the steps that are made in it
abbrev pub pressed_session : EditorState → PressedKey → PlainSession
pressed_session state pressed = (press state.session pressed.key pressed.reply).after

-- a bill, as the turn of a key has it: how many phrases are checked at most, and how many instructions emitted
pub record KeyBill : Type 0 where
  pub checks : ℕ
  pub emits : ℕ

-- the bill where nothing is to be checked or emitted
abbrev pub no_bill : KeyBill
no_bill = record { checks = 0; emits = 0 }

-- two bills together, as those of the turns of two keys
abbrev pub both_bills : KeyBill → KeyBill → KeyBill
both_bills one other = record { checks = one.checks + other.checks; emits = one.emits + other.emits }

-- the bill of a key with this outcome
abbrev pub bill_of : KeyOutcome → KeyBill
bill_of outcome = record { checks = outcome.checks; emits = outcome.emits }

-- the bill of a pressed key: what is checked and emitted in its turn at most
abbrev pub bill : EditorState → PressedKey → KeyBill
bill state pressed = bill_of (press state.session pressed.key pressed.reply)

-- ---- turns that are left before their end

-- the turn of a pressed key came to its end
abbrev pub CameToEnd : PressedKey → Type 0
CameToEnd pressed = pressed.left_after ≡ None

-- the turn of a pressed key may be left after so many steps: the run goes on in it, and so many steps are made
pub record IsTurnLeft (state : EditorState) (pressed : PressedKey) (number : ℕ) : Type 0 where
  pub goes_on : IsTrue (makes_steps (answered state pressed))
  pub within : number ≤ (pressed_session state pressed).asked
  pub made : AreMade (steps_of (pressed_session state pressed)) number (pressed_session state pressed)

-- the turn of a pressed key may be left so, or came to its end
abbrev pub MayBeLeft : EditorState → PressedKey → Option ℕ → Type 0
MayBeLeft state pressed None = Unit {0}
MayBeLeft state pressed (Some number) = IsTurnLeft state pressed number

-- ---- one turn after the other

-- the state after the turns of some keys
abbrev pub state_after_keys : EditorState → List PressedKey → EditorState
state_after_keys state [] = state
state_after_keys state (first ∷ rest) = state_after_keys (turn state first).after rest

-- the shots that the turns of some keys show, in their order
abbrev pub shots : EditorState → List PressedKey → List Shot
shots state [] = []
shots state (first ∷ rest) = (turn state first).shots ++ shots (turn state first).after rest

-- the screens of shots
abbrev pub screens_of : List Shot → List PlainGrid
screens_of shots = map (λ shot. shot.screen) shots

-- the screens that the turns of some keys show, in their order
abbrev pub grids : EditorState → List PressedKey → List PlainGrid
grids state pressed = screens_of (shots state pressed)

-- whether one of the turns of some keys ends the session
abbrev pub ends : EditorState → List PressedKey → Bool
ends state [] = false
ends state (first ∷ rest) = (turn state first).ends || ends (turn state first).after rest

-- the turns of some keys can have these replies: in each, what its key asks can be replied to so
abbrev pub HaveReplies : EditorState → List PressedKey → Type 0
HaveReplies state [] = Unit {0}
HaveReplies state (first ∷ rest) = HasReply state first × HaveReplies (turn state first).after rest

-- in how many turns of some keys a call on the files failed
abbrev pub failures : List PressedKey → ℕ
failures [] = 0
failures (first ∷ rest) = failure first.reply + failures rest

-- the turns of some keys came to their end, but for the last one, which may have been left before
abbrev pub LeftAtLast : EditorState → List PressedKey → Type 0
LeftAtLast state [] = Unit {0}
LeftAtLast state (last ∷ []) = MayBeLeft state last last.left_after
LeftAtLast state (first ∷ (next ∷ rest)) = CameToEnd first × LeftAtLast (turn state first).after (next ∷ rest)

-- the turns of some keys all came to their end
abbrev pub AllCameToEnd : List PressedKey → Type 0
AllCameToEnd [] = Unit {0}
AllCameToEnd (first ∷ rest) = CameToEnd first × AllCameToEnd rest

-- the bills of the turns of some keys together
abbrev pub bills : EditorState → List PressedKey → KeyBill
bills state [] = no_bill
bills state (first ∷ rest) = both_bills (bill state first) (bills (turn state first).after rest)

-- the keys of some turns, without what was replied in them
abbrev pub keys_pressed : List PressedKey → List Key
keys_pressed pressed = map (λ p. p.key) pressed
