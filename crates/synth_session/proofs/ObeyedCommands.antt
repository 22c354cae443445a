-- What a command did that is obeyed is what the command that was entered does, and what the commands count that only do
-- what no program and no run is made for.
use Rattle.std.proofs.Common.{◌≡◌, ℕ, Bool, true, false, if◌then◌else◌, List, Result, Ok, refl, sym, subst}
use Rattle.std.specs.Prelude.{◌+◌, length, nat_lt}
use Rattle.file_store.specs.Limit.{longest_input}
use Rattle.plcs_base.specs.PlainCounts.{PlainCounts}
use Rattle.plcs_base.specs.declared.memory.OutOfMemory.{OutOfMemory}
use Rattle.session_words.specs.declared.command.Command.{Command}
use Rattle.session_words.specs.PlainCommand.{plain_command}
use Rattle.synth_session.specs.declared.answer.Answer.{Answer}
use Rattle.synth_session.specs.declared.session.Session.{Session}
use Rattle.synth_session.specs.CodeCommand.{code_outcome}
use Rattle.synth_session.specs.ElideCommand.{comment_toggled, is_at_comment}
use Rattle.synth_session.specs.EnteredLine.{command_outcome}
use Rattle.synth_session.specs.KeyOutcome.{KeyOutcome}
use Rattle.synth_session.specs.KeyReply.{Reply}
use Rattle.synth_session.specs.MemoryTaken.{command_takes_memory}
use Rattle.synth_session.specs.PlainSession.{PlainSession}
use Rattle.synth_session.specs.ProgramCode.{code_at}
use Rattle.synth_session.specs.RunCommands.{input_outcome}
use Rattle.synth_session.specs.Private.MemorylessKey.{HasOutcome}
use Rattle.synth_session.specs.SessionView.{CountsOutcome, Does}

-- a command that is this one did what this one does
pub does_so : {W : Type 0} (s : PlainSession) (given command : Command) → given ≡ command → (before now : Session W)
    (result : Result Answer OutOfMemory)
    → Does (command_takes_memory s (plain_command command)) (command_outcome s (plain_command command) Reply.NotAsked) before now result
    → Does (command_takes_memory s (plain_command given)) (command_outcome s (plain_command given) Reply.NotAsked) before now result
does_so s given command is before now result h =
    subst
    (λ (c : Command). Does (command_takes_memory s (plain_command c)) (command_outcome s (plain_command c) Reply.NotAsked) before now result)
    (sym is) h

-- so it counted what this one counts
pub counts_so : (s : PlainSession) (given command : Command) → given ≡ command → (before now : PlainCounts)
    (result : Result Answer OutOfMemory)
    → CountsOutcome (command_outcome s (plain_command command) Reply.NotAsked) before now result
    → CountsOutcome (command_outcome s (plain_command given) Reply.NotAsked) before now result
counts_so s given command is before now result h =
    subst (λ (c : Command). CountsOutcome (command_outcome s (plain_command c) Reply.NotAsked) before now result) (sym is) h

-- a command that takes no memory
pub still_does : {W : Type 0} (takes : Bool) (outcome : KeyOutcome) (before now : Session W) (answer : Answer)
    → HasOutcome outcome before now answer → Does takes outcome before now (Ok answer)
still_does takes outcome before now answer has = record { session = has.session; screens = has.screens; met = (has.after, has.answered) }

choice_free : (test : Bool) (one other : KeyOutcome) → one.fetches ≡ 0 → other.fetches ≡ 0 → (if test then one else other).fetches ≡ 0
choice_free true one other h k = h
choice_free false one other h k = k

pub elided_free : (s : PlainSession) → (comment_toggled s).fetches ≡ 0
elided_free s = choice_free (is_at_comment s.tree s.stop) _ _ refl refl

pub input_free : (s : PlainSession) (text : List ℕ) → (input_outcome s text).fetches ≡ 0
input_free s text = choice_free (nat_lt longest_input (length s.input + (length text + 1))) _ _ refl refl

pub code_free : (s : PlainSession) (from : ℕ) → (code_outcome s from).fetches ≡ 0
code_free s from = choice_free (nat_lt from (length (code_at s.tree s.stop))) _ _ refl refl
