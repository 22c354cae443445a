-- The text of a report of a run: one line that a person reads.
use Rattle.std.specs.Prelude.{ℕ, ◌==◌, if◌then◌else◌, List, [], ◌∷◌, ◌++◌, codes, decimal, Option, Some, None}
use Rattle.file_store.specs.declared.refusal.FileRefusal.{FileRefusal}
use Rattle.plcs_store.specs.declared.fault_kind.FaultKind.{FaultKind}
use Rattle.plcs_store.specs.declared.reason.Reason.{Reason}
use Rattle.session_words.specs.declared.message.Message.{Message}
use Rattle.session_words.specs.declared.message.Notice.{Notice}
use Rattle.session_words.specs.declared.message.RefusalMessage.{RefusalMessage}
use Rattle.session_words.specs.Message.{message_text}
use Rattle.program_run.specs.declared.ending.Ending.{Ending}
use Rattle.program_run.specs.StoppedLine.{PlainStoppedLine}

-- the notice of the editor by which a fault of the run is reported
abbrev pub reported_fault : FaultKind → Notice
reported_fault FaultKind.FixedOverflow = Notice.FixedOverflow
reported_fault FaultKind.ZeroDivide = Notice.ZeroDivide
reported_fault FaultKind.SubscriptRange = Notice.SubscriptRange
reported_fault FaultKind.StringRange = Notice.StringRange
reported_fault FaultKind.StringSize = Notice.StringSize
reported_fault FaultKind.Uninitialized = Notice.Uninitialized
reported_fault FaultKind.Conversion = Notice.Conversion
reported_fault FaultKind.OutputLimit = Notice.OutputLimit
reported_fault FaultKind.CallDepth = Notice.CallDepth

-- the notice of the editor by which it is reported why a run stopped
abbrev pub reported_reason : Reason → Notice
reported_reason Reason.Placeholder = Notice.Placeholder
reported_reason Reason.Marked = Notice.MarkedPhrase
reported_reason (Reason.Fault kind) = reported_fault kind
reported_reason Reason.InputWanted = Notice.InputWanted

-- the message of the editor by which it is reported why a file was refused; want of memory refuses none
abbrev pub reported_refusal : FileRefusal → RefusalMessage
reported_refusal FileRefusal.NoFile = RefusalMessage.NoFile
reported_refusal FileRefusal.FileFault = RefusalMessage.FileFault
reported_refusal (FileRefusal.NotAListing line) = RefusalMessage.NotAListing line
reported_refusal FileRefusal.TooDeep = RefusalMessage.FileTooDeep
reported_refusal FileRefusal.TooLarge = RefusalMessage.FileTooLarge
reported_refusal FileRefusal.TooLong = RefusalMessage.FileTooLong
reported_refusal FileRefusal.OutOfMemory = RefusalMessage.FileFault

-- a notice of the editor as it is reported
abbrev pub stopped_text : Notice → List ℕ
stopped_text notice = codes "plcs_run: " ++ message_text (Message.Notice notice)

-- how a run ended, as it is reported
abbrev pub ending_text : Ending → List ℕ
ending_text Ending.BadWords = codes "usage: plcs_run [--steps N] PROGRAM [INPUT]"
ending_text Ending.Ended = stopped_text Notice.Ended
ending_text (Ending.Stopped reason) = stopped_text (reported_reason reason)
ending_text Ending.StepsMade = stopped_text Notice.Paused
ending_text Ending.NoMemory = codes "plcs_run: OUT OF MEMORY"
ending_text Ending.WriteFault = codes "plcs_run: WRITE FAULT"
ending_text (Ending.ProgramRefused refusal) =
    codes "plcs_run: program: " ++ message_text (Message.Refusal (reported_refusal refusal))
ending_text (Ending.InputRefused refusal) =
    codes "plcs_run: input: " ++ message_text (Message.Refusal (reported_refusal refusal))

-- the bytes of a line that is reported, without the blanks before them
abbrev pub unindented : List ℕ → List ℕ
unindented [] = []
unindented (byte ∷ rest) = if byte == 32 then unindented rest else byte ∷ rest

-- a line that is reported: its number, and its bytes
abbrev pub numbered_text : PlainStoppedLine → List ℕ
numbered_text line = codes ", line " ++ (decimal line.number ++ (codes ": " ++ unindented line.text))

-- the line at which a run stands, as it is reported, if one is
abbrev pub line_text : Option PlainStoppedLine → List ℕ
line_text None = []
line_text (Some line) = numbered_text line

-- the text of a report: how the run ended, and the line at which it stands, if one is told
abbrev pub report_text : Ending → Option PlainStoppedLine → List ℕ
report_text ending line = ending_text ending ++ line_text line
