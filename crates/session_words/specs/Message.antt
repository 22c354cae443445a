-- The messages that answer keys: their kinds and texts.
use Rattle.std.specs.Prelude.{ℕ, List, ◌∷◌, ◌++◌, codes, decimal, Option, Some, None}
use Rattle.session_words.specs.declared.message.Message.{Message}
use Rattle.session_words.specs.declared.message.Message.TheVariants.{Refusal, Notice}
use Rattle.session_words.specs.declared.message.RefusalMessage.{RefusalMessage}
use Rattle.session_words.specs.declared.message.RefusalMessage.TheVariants as refusal
use Rattle.session_words.specs.declared.message.Notice.{Notice as NoticeKind}
use Rattle.session_words.specs.declared.message.Notice.TheVariants as notice

-- the row of a message that answers a key with a refusal: the number of its kind, the words, and the number behind
-- them, if there is one: a place, a line or a slot
pub record PlainRefusalRow : Type 0 where
  pub number : ℕ
  pub words : List ℕ
  pub value : Option ℕ

-- the row of a message that answers a key with a refusal, of which the words have no number behind them
abbrev pub plain_row_of_words : ℕ → List ℕ → PlainRefusalRow
plain_row_of_words number words = record { number = number; words = words; value = None }

-- the row of a message that answers a key with a refusal, of which the words have this number behind them
abbrev pub numbered_row : ℕ → List ℕ → ℕ → PlainRefusalRow
numbered_row number words n = record { number = number; words = words; value = Some n }

-- the row of each message that answers a key with a refusal: the number of its kind, and the words of its text
abbrev pub refusal_row : RefusalMessage → PlainRefusalRow
refusal_row refusal.UnknownCommand = plain_row_of_words 1 (codes "UNKNOWN COMMAND")
refusal_row refusal.NotHere = plain_row_of_words 2 (codes "NOT HERE")
refusal_row (refusal.SyntaxAt n) = numbered_row 3 (codes "SYNTAX AT") n
refusal_row (refusal.NumberTooLargeAt n) = numbered_row 3 (codes "NUMBER TOO LARGE AT") n
refusal_row (refusal.PhraseTooDeepAt n) = numbered_row 3 (codes "PHRASE TOO DEEP AT") n
refusal_row refusal.NoClip = plain_row_of_words 4 (codes "NO CLIP")
refusal_row refusal.ClipsFull = plain_row_of_words 4 (codes "CLIPS FULL")
refusal_row refusal.NoFile = plain_row_of_words 5 (codes "NO FILE")
refusal_row refusal.FileFault = plain_row_of_words 5 (codes "FILE FAULT")
refusal_row (refusal.NotAListing n) = numbered_row 5 (codes "NOT A LISTING") n
refusal_row refusal.FileTooDeep = plain_row_of_words 5 (codes "FILE TOO DEEP")
refusal_row refusal.FileTooLarge = plain_row_of_words 5 (codes "FILE TOO LARGE")
refusal_row refusal.FileTooLong = plain_row_of_words 5 (codes "FILE TOO LONG")
refusal_row refusal.NoRun = plain_row_of_words 6 (codes "NO RUN")
refusal_row refusal.RunEnded = plain_row_of_words 7 (codes "RUN ENDED")
refusal_row refusal.NoHistory = plain_row_of_words 8 (codes "NO HISTORY")
refusal_row (refusal.HeadingChanged n) = numbered_row 9 (codes "HEADING CHANGED") n
refusal_row (refusal.DeclarationChanged n) = numbered_row 9 (codes "DECLARATION CHANGED") n
refusal_row (refusal.TemplateChanged n) = numbered_row 9 (codes "TEMPLATE CHANGED") n
refusal_row refusal.TreeTooDeep = plain_row_of_words 10 (codes "TREE TOO DEEP")
refusal_row refusal.TreeTooLarge = plain_row_of_words 10 (codes "TREE TOO LARGE")
refusal_row refusal.SlotsUsedUp = plain_row_of_words 10 (codes "SLOTS USED UP")
refusal_row refusal.WrongArgument = plain_row_of_words 11 (codes "WRONG ARGUMENT")
refusal_row refusal.PhraseFull = plain_row_of_words 12 (codes "PHRASE FULL")
refusal_row refusal.FloatNotThere = plain_row_of_words 13 (codes "FLOAT NOT THERE")
refusal_row refusal.AtEdge = plain_row_of_words 14 (codes "AT EDGE")
refusal_row refusal.NothingToUndo = plain_row_of_words 16 (codes "NOTHING TO UNDO")

-- the words of each notice, which says what came of a key that was taken
abbrev pub notice_words : NoticeKind → List ℕ
notice_words notice.Placeholder = codes "PLACEHOLDER"
notice_words notice.MarkedPhrase = codes "MARKED PHRASE"
notice_words notice.FixedOverflow = codes "FAULT FIXEDOVERFLOW"
notice_words notice.ZeroDivide = codes "FAULT ZERODIVIDE"
notice_words notice.SubscriptRange = codes "FAULT SUBSCRIPTRANGE"
notice_words notice.StringRange = codes "FAULT STRINGRANGE"
notice_words notice.StringSize = codes "FAULT STRINGSIZE"
notice_words notice.Uninitialized = codes "FAULT UNINITIALIZED"
notice_words notice.Conversion = codes "FAULT CONVERSION"
notice_words notice.OutputLimit = codes "FAULT OUTPUTLIMIT"
notice_words notice.CallDepth = codes "FAULT CALLDEPTH"
notice_words notice.InputWanted = codes "INPUT WANTED"
notice_words notice.Paused = codes "PAUSED"
notice_words notice.Ended = codes "ENDED"
notice_words notice.Saved = codes "SAVED"
notice_words notice.TraceOn = codes "TRACE ON"
notice_words notice.TraceOff = codes "TRACE OFF"

-- the words of any message
abbrev pub message_words : Message → List ℕ
message_words (Refusal r) = (refusal_row r).words
message_words (Notice n) = notice_words n

-- the number that stands behind the words of a message, if there is one
abbrev pub message_value : Message → Option ℕ
message_value (Refusal r) = (refusal_row r).value
message_value (Notice n) = None

-- the words of a message and the number behind a blank, if there is one
abbrev pub with_value : List ℕ → Option ℕ → List ℕ
with_value words None = words
with_value words (Some n) = words ++ (32 ∷ decimal n)

-- the text of a message: its words, and the number behind them
unfoldable pub message_text : Message → List ℕ
message_text message = with_value (message_words message) (message_value message)
