-- A whole run that makes a program: from the number of its statements to the bytes of a summary.
use Rattle.std.specs.Prelude.{◌≡◌, ◌⊎◌, ℕ, zero, suc, ◌+◌, if◌then◌else◌, List, [], ◌∷◌, Option, Some, None}
use Rattle.std.specs.FinMap.{empty}
use Rattle.std.specs.Io.KnownBytes.{Appends}
use Rattle.plcs_base.specs.Count.{Rose}
use Rattle.plcs_base.specs.PlainCounts.{PlainCounts}
use Rattle.synth_outside.specs.Sink.{AppendsFront}
use Rattle.template_tree.specs.Programs.NewTree.{new_tree}
use Rattle.synth_session.specs.declared.tick.Tick.{Tick}
use Rattle.synth_session.specs.CheckedPhrases.{phrase_count}
use Rattle.synth_session.specs.CountedKey.{CountsPressed, CountsPressedAtMost}
use Rattle.synth_session.specs.KeyOutcome.{KeyOutcome}
use Rattle.synth_session.specs.OpenedSession.{opened_session}
use Rattle.synth_session.specs.PlainSession.{PlainSession}
use Rattle.synth_session.specs.Press.{press}
use Rattle.synth_session.specs.ProgramCode.{code_length}
use Rattle.synth_session.specs.Tick.{Steps, TickOutcome, steps_left, tick}
use Rattle.synth_top.specs.declared.options.TheConstants.{USUAL_ROWS, USUAL_COLS}
use Rattle.synth_top.specs.declared.status.Status.{Status}
use Rattle.synth_top.specs.declared.status.Status.TheVariants.{Done, ReadFault, WriteFault, NoMemory, BadWords, KeyLimit}
use Rattle.synth_top.specs.Keys.{IsFront, keys}
use Rattle.synth_top.specs.MadeText.{made_text}
use Rattle.synth_top.specs.Summary.{summary}
use Rattle.synth_top.specs.Turn.{AllCameToEnd, KeyBill, EditorState, HaveReplies, PressedKey, bills, both_bills, keys_pressed, makes_steps, state_after_keys, steps_of, turn}

-- ---- what is fetched where no screen is shown

-- how many instructions are fetched in a tick of a making and in those after it, by what the tick answers
abbrev pub tick_fetched : Tick → TickOutcome → (PlainSession → ℕ) → ℕ
tick_fetched Tick.Over outcome go = outcome.fetches
tick_fetched Tick.Again outcome go = outcome.fetches + go outcome.after

-- how many instructions are fetched in the ticks of a turn in a making, in which so many steps may be made yet
abbrev pub ticks_fetched : Steps → (left : ℕ) → PlainSession → ℕ
ticks_fetched steps zero s = (tick steps s).fetches
ticks_fetched steps (suc left) s = tick_fetched (tick steps s).tick (tick steps s) (ticks_fetched steps left)

-- how many instructions are fetched in a making for a key with this outcome: in its press, and in its ticks where the
-- run goes on
abbrev pub turn_fetched : KeyOutcome → ℕ
turn_fetched outcome =
    if makes_steps outcome.answer
    then outcome.fetches + ticks_fetched (steps_of outcome.after) (steps_left outcome.after) outcome.after
    else outcome.fetches

-- how many instructions are fetched in the turns of some keys of a making, in which no screen is shown
abbrev pub turns_fetched : EditorState → List PressedKey → ℕ
turns_fetched state [] = 0
turns_fetched state (first ∷ rest) =
    turn_fetched (press state.session first.key first.reply) + turns_fetched (turn state first).after rest

-- ---- the keys

-- the state with which a making begins: a session over a new program without input on a screen of 24 rows and 80
-- columns, and files of its own, of which there is none yet
abbrev pub made_from : EditorState
made_from = record {
  session = opened_session (record { rows = USUAL_ROWS; cols = USUAL_COLS }) None [];
  files = Some empty;
}

-- the bill of a making: that of its new program, and those of the keys pressed
abbrev pub making_bill : List PressedKey → KeyBill
making_bill pressed =
    both_bills (record { checks = phrase_count new_tree; emits = code_length new_tree }) (bills made_from pressed)

-- all keys of the text that makes a program of so many statements were pressed, each turn came to its end, and no
-- screen was shown; just as many instructions were fetched as their turns take
pub record AllMade (number : ℕ) (before now : PlainCounts) : Type 0 where
  pub pressed : List PressedKey
  pub all : keys_pressed pressed ≡ keys (made_text number)
  pub can_reply : HaveReplies made_from pressed
  pub ended : AllCameToEnd pressed
  pub counts : CountsPressed (making_bill pressed).checks (making_bill pressed).emits
      (turns_fetched made_from pressed) (turns_fetched made_from pressed) before now

-- memory ran out in a making in the turn of the last of these keys, which are the first ones of all; where there is
-- none of them it ran out before a session was opened. At most as many instructions were fetched as these turns take
-- where they come to their end
pub record PartMade (number : ℕ) (before now : PlainCounts) : Type 0 where
  pub pressed : List PressedKey
  pub front : IsFront (keys_pressed pressed) (keys (made_text number))
  pub can_reply : HaveReplies made_from pressed
  pub ended : AllCameToEnd pressed
  pub counts : CountsPressedAtMost (making_bill pressed).checks (making_bill pressed).emits
      (turns_fetched made_from pressed) before now

-- ---- the summary

-- what a making changes of all that is told: the bytes that the sink took, its count of wants, and what was counted
pub record ToldMaking : Type 0 where
  pub taken : Option (List ℕ)
  pub wants : ℕ
  pub counts : PlainCounts

-- the summary of what all keys of a making made
abbrev pub summary_of : {number : ℕ} {before now : PlainCounts} → AllMade number before now → List ℕ
summary_of made = summary (state_after_keys made_from made.pressed).session

-- the program was made and run, and the whole summary of it written
pub record SummaryWritten (number : ℕ) (before now : ToldMaking) : Type 0 where
  pub made : AllMade number before.counts now.counts
  pub wrote : Appends before.taken now.taken (summary_of made)
  pub wants : now.wants ≡ before.wants

-- the program was made and run, and the summary of it was cut short
pub record SummaryCut (number : ℕ) (before now : ToldMaking) : Type 0 where
  pub made : AllMade number before.counts now.counts
  pub wrote : AppendsFront before.taken now.taken (summary_of made)

-- memory ran out before the program was made and run, and nothing of a summary was written
pub record NothingWritten (number : ℕ) (before now : ToldMaking) : Type 0 where
  pub made : PartMade number before.counts now.counts
  pub taken : now.taken ≡ before.taken
  pub wants : now.wants ≡ before.wants

-- what each status says of a making
abbrev pub MadeAs : Status → (number : ℕ) → (before now : ToldMaking) → Type 0
MadeAs Done number before now = SummaryWritten number before now
MadeAs WriteFault number before now = SummaryCut number before now
MadeAs NoMemory number before now =
    NothingWritten number before now ⊎ (SummaryCut number before now × Rose before.wants now.wants)
MadeAs ReadFault number before now = ⊥
MadeAs BadWords number before now = ⊥
MadeAs KeyLimit number before now = ⊥
