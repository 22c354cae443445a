-- What each key does. A key that asks for more than one thing is refused for the first of these that holds: an
-- unknown command, a wrong argument, floating point, no clip, the wrong stop, a fault in phrase text, a phrase or
-- line that is full, a limit of trees, full clips, a file, no run, a run that is over, one that may not go on, no
-- history, nothing to undo, the edge.
use Rattle.std.specs.Prelude.{◌≡◌, None, Option}
use Rattle.cursor_moves.specs.Move.{stop_down, stop_left, stop_right, stop_up}
use Rattle.synth_outside.specs.Files.{FileMap}
use Rattle.synth_session.specs.declared.key.Key.{Key}
use Rattle.synth_session.specs.declared.key.Key.TheVariants.{Char, Enter, Erase, Clear, Tab, Up, Down, Left, Right, Other}
use Rattle.synth_session.specs.declared.answer.Answer.{Answer}
use Rattle.synth_session.specs.declared.answer.Refusal.{Refusal}
use Rattle.synth_session.specs.declared.answer.Refusal.TheVariants as why
use Rattle.synth_session.specs.CursorKeys.{cursor_moved}
use Rattle.synth_session.specs.EnteredLine.{line_entered}
use Rattle.synth_session.specs.KeyReply.{CanReply, Reply}
use Rattle.synth_session.specs.KeyRequest.{request}
use Rattle.synth_session.specs.KeyOutcome.{KeyOutcome, line_acceptance_outcome, refusal_outcome}
use Rattle.synth_session.specs.PlainSession.{PlainSession}
use Rattle.synth_session.specs.RefusalText.{refusal_text}
use Rattle.synth_session.specs.Tick.{IsRunning, RunFits}
use Rattle.synth_session.specs.TypedLine.{char_typed, last_erased, phrase_typed}

-- a session without a display of code, which every key ends, a refused one too
abbrev pub without_code_display : PlainSession → PlainSession
without_code_display s = record s { code_from = None }

-- what each key does in a session that displays no code, where this is replied to what it asks
abbrev pub key_outcome : PlainSession → Key → Reply → KeyOutcome
key_outcome s (Char byte) reply = char_typed s byte
key_outcome s Enter reply = line_entered s reply
key_outcome s Erase reply = last_erased s
key_outcome s Clear reply = line_acceptance_outcome s
key_outcome s Tab reply = phrase_typed s
key_outcome s Up reply = cursor_moved s stop_up
key_outcome s Down reply = cursor_moved s stop_down
key_outcome s Left reply = cursor_moved s stop_left
key_outcome s Right reply = cursor_moved s stop_right
key_outcome s Other reply = refusal_outcome s why.UnknownCommand

-- what a key makes of a session, where this is replied to what it asks
unfoldable pub press : PlainSession → Key → Reply → KeyOutcome
press s key reply = key_outcome (without_code_display s) key reply

-- the law of refused keys: such a key changes the message alone, and ends a display of code, whatever is replied
abbrev pub RefusedKeysChangeTheMessage : Type 0
RefusedKeysChangeTheMessage =
    (s : PlainSession) (key : Key) (reply : Reply) (reason : Refusal)
    → (press s key reply).answer ≡ Answer.Refused reason
    → (press s key reply).after ≡ record (without_code_display s) { message = refusal_text reason }

-- the law of keys in which a run goes on: then one stands, and no more steps were made than are asked for
abbrev pub RunningKeysHaveRuns : Type 0
RunningKeysHaveRuns =
    (s : PlainSession) (key : Key) (reply : Reply) → (press s key reply).answer ≡ Answer.Running
    → IsRunning (press s key reply).after

-- the law of keys in which a run goes on, of a session: whatever can be replied to the key, the run fits the program
-- then
abbrev pub RunningKeysFit : PlainSession → Type 0
RunningKeysFit s =
    (key : Key) (reply : Reply) (stored : Option FileMap) → CanReply stored (request s key) reply
    → (press s key reply).answer ≡ Answer.Running → RunFits (press s key reply).after

-- the law of keys in which no run goes on: no instruction is fetched in them
abbrev pub StillKeysFetchNothing : Type 0
StillKeysFetchNothing =
    (s : PlainSession) (key : Key) (reply : Reply) → ((press s key reply).answer ≡ Answer.Running → ⊥)
    → (press s key reply).fetches ≡ 0

-- nothing is counted in a key with this outcome
pub record CostsNothing (outcome : KeyOutcome) : Type 0 where
  pub checks : outcome.checks ≡ 0
  pub emits : outcome.emits ≡ 0
  pub fetches : outcome.fetches ≡ 0

-- the law of the work of refused keys: nothing is counted in such a key
abbrev pub RefusedKeysCostNothing : Type 0
RefusedKeysCostNothing =
    (s : PlainSession) (key : Key) (reply : Reply) (reason : Refusal)
    → (press s key reply).answer ≡ Answer.Refused reason
    → CostsNothing (press s key reply)
