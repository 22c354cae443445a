-- The notices of runs that stand still.
use Rattle.session_words.specs.declared.message.Notice.{Notice}
use Rattle.session_words.specs.declared.message.Notice.TheVariants as notice
use Rattle.plcs_store.specs.declared.fault_kind.FaultKind.{FaultKind}
use Rattle.plcs_store.specs.declared.reason.Reason.{Reason}
use Rattle.plcs_store.specs.declared.reason.RunReason.{RunReason}

-- the notice of each fault of a run
abbrev pub fault_notice : FaultKind → Notice
fault_notice FaultKind.FixedOverflow = notice.FixedOverflow
fault_notice FaultKind.ZeroDivide = notice.ZeroDivide
fault_notice FaultKind.SubscriptRange = notice.SubscriptRange
fault_notice FaultKind.StringRange = notice.StringRange
fault_notice FaultKind.StringSize = notice.StringSize
fault_notice FaultKind.Uninitialized = notice.Uninitialized
fault_notice FaultKind.Conversion = notice.Conversion
fault_notice FaultKind.OutputLimit = notice.OutputLimit
fault_notice FaultKind.CallDepth = notice.CallDepth

-- the notice of each reason for which a run stands still
abbrev pub reason_notice : RunReason → Notice
reason_notice RunReason.Placeholder = notice.Placeholder
reason_notice RunReason.Marked = notice.MarkedPhrase
reason_notice (RunReason.Fault kind) = fault_notice kind
reason_notice RunReason.InputWanted = notice.InputWanted
reason_notice RunReason.Paused = notice.Paused
reason_notice RunReason.Ended = notice.Ended

-- why a run stands still of which a step isn't made for this reason
abbrev pub stop_reason : Reason → RunReason
stop_reason Reason.Placeholder = RunReason.Placeholder
stop_reason Reason.Marked = RunReason.Marked
stop_reason (Reason.Fault kind) = RunReason.Fault kind
stop_reason Reason.InputWanted = RunReason.InputWanted
