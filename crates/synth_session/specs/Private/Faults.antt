-- What came of an edit of the program, and why an edit isn't made or phrase text isn't entered.
use Rattle.std.specs.Prelude.{◌≡◌, Result, Ok, Err}
use Rattle.plcs_grammar.specs.declared.phrase.Phrase.{Phrase}
use Rattle.plcs_grammar.specs.OverLimit.{OverLimit}
use Rattle.plcs_grammar.specs.PlainPhrase.{plain_phrase}
use Rattle.phrase_parser.specs.Standing.{Standing}
use Rattle.phrase_parser.specs.declared.fault.PhraseFault.{PhraseFault}
use Rattle.phrase_parser.specs.declared.fault.PhraseFault.TheVariants as fault_of
use Rattle.template_tree.specs.declared.tree_fault.TreeFault.{TreeFault}
use Rattle.template_tree.specs.Programs.PlainTree.{PlainTree}
use Rattle.session_edit.specs.Edited.{Edited}
use Rattle.session_edit.specs.PlainEdit.{PlainEdit}
use Rattle.plcs_base.specs.PlainCounts.{CountsNothing, PlainCounts}
use Rattle.plcs_base.specs.declared.memory.OutOfMemory.{OutOfMemory}
use Rattle.synth_session.specs.declared.answer.Refusal.{Refusal}
use Rattle.synth_session.specs.CountedKey.{CountsProgram}
use Rattle.synth_session.specs.EditCommands.{edited_by}
use Rattle.synth_session.specs.EnteredLine.{standing_entered}
use Rattle.synth_session.specs.KeyOutcome.{refusal_outcome}
use Rattle.synth_session.specs.PlainSession.{PlainSession}
use Rattle.synth_session.specs.ProgramBill.{program_bill}
use Rattle.synth_session.specs.ProgramDue.{program_due}

-- ---- edits

-- this outcome of an edit of the program is a refusal for this fault; want of memory says nothing of it
abbrev pub IsEditFault : Edited → TreeFault → Type 0
IsEditFault outcome TreeFault.OutOfMemory = Unit {0}
IsEditFault outcome fault = outcome ≡ Edited.refused fault

-- what is counted where an edit of this program comes to this: no more phrases of the program after it are checked than
-- are due, and no more instructions emitted than the bill of the edit says
abbrev pub CountsEdit : PlainTree → Edited → (before now : PlainCounts) → Type 0
CountsEdit program (Edited.became tree stop taken what slot) before now =
    CountsProgram (program_due what slot program tree) (program_bill what slot program tree) before now
CountsEdit program (Edited.refused fault) before now = CountsNothing before now

-- ---- phrase text

-- the fault is that of phrase text of this standing; want of memory says nothing of it
abbrev pub IsTextFault : Standing → PhraseFault → Type 0
IsTextFault standing (fault_of.Syntax place) = standing ≡ Standing.wrong_at place
IsTextFault standing (fault_of.NumberTooLarge place) = standing ≡ Standing.over (OverLimit.number_too_large place)
IsTextFault standing (fault_of.TooDeep place) = standing ≡ Standing.over (OverLimit.too_deep place)
IsTextFault standing fault_of.OutOfMemory = Unit {0}

-- this was read of phrase text of this standing: its phrase, or the fault for which the phrase text isn't entered
abbrev pub IsReadOf : Standing → Result Phrase PhraseFault → Type 0
IsReadOf standing (Ok phrase) = standing ≡ Standing.phrase (plain_phrase phrase)
IsReadOf standing (Err fault) = IsTextFault standing fault

-- this comes of entering phrase text of this standing: its phrase is entered, or the key is refused; want of memory says
-- nothing of it
abbrev pub IsEntered : Standing → Result (Result Phrase Refusal) OutOfMemory → Type 0
IsEntered standing (Ok (Ok phrase)) =
    (s : PlainSession) → standing_entered s standing ≡ edited_by s (PlainEdit.enter (plain_phrase phrase))
IsEntered standing (Ok (Err reason)) = (s : PlainSession) → standing_entered s standing ≡ refusal_outcome s reason
IsEntered standing (Err error) = Unit {0}
