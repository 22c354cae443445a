-- The files that are loaded before the first screen: the program, and then its input.
use Rattle.std.specs.Prelude.{◌≡◌, ◌≢◌, ℕ, ◌+◌, ◌≤◌, List, [], length, Option, Some, None}
use Rattle.std.specs.Option.{option_or}
use Rattle.synth_outside.specs.Files.{FileMap}
use Rattle.template_tree.specs.Programs.PlainTree.{PlainTree}
use Rattle.file_store.specs.declared.refusal.FileRefusal.{FileRefusal}
use Rattle.file_store.specs.FileReading.{Holds, IsFileRefused}
use Rattle.file_store.specs.Limit.{longest_input}
use Rattle.synth_session.specs.declared.answer.Refusal.{Refusal}
use Rattle.synth_session.specs.KeyReply.{CanReply, Reply, Request}
use Rattle.synth_session.specs.CheckedPhrases.{phrase_count}
use Rattle.synth_session.specs.OpenedSession.{opened_session, tree_at_first}
use Rattle.synth_session.specs.PlainSession.{PlainSession}
use Rattle.synth_session.specs.ProgramCode.{code_length}
use Rattle.synth_session.specs.RefusalText.{refusal_text}
use Rattle.synth_top.specs.Options.{PlainOptions}
use Rattle.synth_top.specs.Turn.{KeyBill, EditorState, failure}

-- ---- what the files did

-- what came of the file with the input: none is named, these bytes were loaded, or it was refused for this
pub data InputReply : Type 0 where
  NotAsked : InputReply
  Loaded : (bytes : List ℕ) → InputReply
  Refused : FileRefusal → InputReply

-- what the files did in both loads before the first screen, that of the program and that of its input
pub record PlainFirstLoads : Type 0 where
  pub program : Reply
  pub input : InputReply

-- what is asked of the files for the program: where a file is named, to load the program of the name
abbrev pub program_request : (name : Option (List ℕ)) → Request
program_request None = Request.Nothing
program_request (Some name) = Request.Load name

-- files with this map can reply so for the input: its bytes are the content of the name, and no more than may be; or
-- there is none for this reason; want of memory is no reply
abbrev pub IsInputReply : Option FileMap → (name : Option (List ℕ)) → InputReply → Type 0
IsInputReply stored None reply = reply ≡ InputReply.NotAsked
IsInputReply stored (Some name) InputReply.NotAsked = ⊥
IsInputReply stored (Some name) (InputReply.Loaded bytes) =
    Holds stored name (λ content. content ≡ bytes) × (length bytes ≤ longest_input)
IsInputReply stored (Some name) (InputReply.Refused refusal) =
    (refusal ≢ FileRefusal.OutOfMemory) × IsFileRefused longest_input stored name refusal

-- files with this map can do so in the loads that the options ask for
pub record CanLoad (options : PlainOptions) (stored : Option FileMap) (loads : PlainFirstLoads) : Type 0 where
  pub program : CanReply stored (program_request options.program) loads.program
  pub input : IsInputReply stored options.input loads.input

-- how many failures a reply for the input is where files are loaded before the first screen
abbrev pub input_failure : InputReply → ℕ
input_failure (InputReply.Refused FileRefusal.FileFault) = 1
input_failure reply = 0

-- in how many of the loads a call on the files failed
abbrev pub load_failures : PlainFirstLoads → ℕ
load_failures loads = failure loads.program + input_failure loads.input

-- ---- the first session

-- the program that was loaded before the first screen, if one was
abbrev pub loaded_program : Reply → Option PlainTree
loaded_program (Reply.Loaded tree) = Some tree
loaded_program reply = None

-- the bytes of the input that was loaded before the first screen, and else none
abbrev pub loaded_input : InputReply → List ℕ
loaded_input (InputReply.Loaded bytes) = bytes
loaded_input reply = []

-- the program of the session that is opened over the files that were loaded before the first screen
abbrev pub opening_tree : PlainFirstLoads → PlainTree
opening_tree loads = tree_at_first (loaded_program loads.program)

-- the bill of the loads before the first screen, once a session is opened over what they gave: each phrase of its
-- program is checked once at most, and each instruction of its code emitted once at most
abbrev pub opening_bill : PlainFirstLoads → KeyBill
opening_bill loads = record { checks = phrase_count (opening_tree loads); emits = code_length (opening_tree loads) }

-- why the file with the program was refused when it was loaded, if it was
abbrev pub program_refusal : Reply → Option FileRefusal
program_refusal (Reply.Refused refusal) = Some refusal
program_refusal reply = None

-- why the file with the input was refused when it was loaded, if it was
abbrev pub input_refusal : InputReply → Option FileRefusal
input_refusal (InputReply.Refused refusal) = Some refusal
input_refusal reply = None

-- the first refusal of the two: the program's comes before the input's
abbrev pub first_refusal : PlainFirstLoads → Option FileRefusal
first_refusal loads = option_or (program_refusal loads.program) (input_refusal loads.input)

-- the first session with the message of the refusal of a load, if there was one
abbrev pub refusal_told : Option FileRefusal → PlainSession → PlainSession
refusal_told None s = s
refusal_told (Some refusal) s = record s { message = refusal_text (Refusal.File refusal) }

-- the session once the files are loaded, before the first screen: over the program that was loaded or a new one, with
-- the input that was loaded, and with the message of the first refusal
abbrev pub first_session : PlainOptions → PlainFirstLoads → PlainSession
first_session options loads =
    refusal_told (first_refusal loads)
    (opened_session options.size (loaded_program loads.program) (loaded_input loads.input))

-- the state that the first screen shows, once the files were loaded before that; the loads leave the map as it is
abbrev pub first_state : PlainOptions → Option FileMap → PlainFirstLoads → EditorState
first_state options stored loads = record { session = first_session options loads; files = stored }
