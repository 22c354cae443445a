-- What comes of a key: the session after it, the answer, and what is counted in it.
use Rattle.std.specs.Prelude.{ℕ, []}
use Rattle.session_words.specs.declared.message.Message.{Message}
use Rattle.session_words.specs.declared.message.Notice.{Notice}
use Rattle.session_words.specs.Message.{message_text}
use Rattle.template_tree.specs.declared.change.What.{What}
use Rattle.template_tree.specs.Programs.PlainTree.{PlainTree}
use Rattle.synth_session.specs.declared.answer.Answer.{Answer}
use Rattle.synth_session.specs.declared.answer.Refusal.{Refusal}
use Rattle.synth_session.specs.CheckedPhrases.{phrase_count}
use Rattle.synth_session.specs.PlainSession.{PlainSession}
use Rattle.synth_session.specs.ProgramBill.{program_bill}
use Rattle.synth_session.specs.ProgramCode.{code_length}
use Rattle.synth_session.specs.ProgramDue.{program_due}
use Rattle.synth_session.specs.RefusalText.{refusal_text}
use Rattle.synth_session.specs.Window.{with_cursor_seen}

-- the session after a key, the answer to the key, and what is counted in it: how many phrases are checked and how many
-- instructions emitted at most, and how many instructions are fetched, those of ticks not counted
pub record KeyOutcome : Type 0 where
  pub after : PlainSession
  pub answer : Answer
  pub checks : ℕ
  pub emits : ℕ
  pub fetches : ℕ

-- what comes of a key that is refused for this: it changes the message alone, and nothing is counted
abbrev pub refusal_outcome : PlainSession → Refusal → KeyOutcome
refusal_outcome s reason = record {
  after = record s { message = refusal_text reason };
  answer = Answer.Refused reason;
  checks = 0;
  emits = 0;
  fetches = 0;
}

-- what comes of a key that is accepted, and leaves this but for message and window: the message is cleared, the window
-- follows the cursor, and nothing is counted
abbrev pub acceptance_outcome : PlainSession → KeyOutcome
acceptance_outcome s = record {
  after = record (with_cursor_seen s) { message = [] };
  answer = Answer.Done;
  checks = 0;
  emits = 0;
  fetches = 0;
}

-- what comes of a key by which the typed line is accepted: the session after it, in which the line is typed no more,
-- and the answer
abbrev pub line_acceptance_outcome : PlainSession → KeyOutcome
line_acceptance_outcome s = acceptance_outcome (record s { typed = [] })

-- what comes of a key by which the typed line is accepted, and the program comes to be another: each of its phrases is
-- checked once at most, and each instruction of its code emitted once at most
abbrev pub program_acceptance_outcome : PlainSession → KeyOutcome
program_acceptance_outcome s =
    record (line_acceptance_outcome s) { checks = phrase_count s.tree; emits = code_length s.tree }

-- what comes of a key by which the typed line is accepted, where this program was edited, by what was done in which
-- slot: no more phrases are checked than are due, and no more instructions emitted than the bill of the edit says
abbrev pub edit_acceptance_outcome : (before : PlainTree) → What → (slot : ℕ) → PlainSession → KeyOutcome
edit_acceptance_outcome before what slot s =
    record (line_acceptance_outcome s) {
      checks = program_due what slot before s.tree;
      emits = program_bill what slot before s.tree;
    }

-- what comes of a key by which the typed line is accepted, where this notice is told
abbrev pub line_notice_outcome : PlainSession → Notice → KeyOutcome
line_notice_outcome s notice = record {
  after = record (with_cursor_seen (record s { typed = [] })) { message = message_text (Message.Notice notice) };
  answer = Answer.Done;
  checks = 0;
  emits = 0;
  fetches = 0;
}

-- what comes of a key with a reply that what it asks can't have, and may be anything
abbrev pub no_reply_outcome : PlainSession → KeyOutcome
no_reply_outcome s = record { after = s; answer = Answer.Done; checks = 0; emits = 0; fetches = 0 }
