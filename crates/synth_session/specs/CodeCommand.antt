-- The command that shows code.
use Rattle.std.specs.Prelude.{ℕ, nat_lt, if◌then◌else◌, length, Some}
use Rattle.synth_session.specs.declared.answer.Refusal.TheVariants as why
use Rattle.synth_session.specs.KeyOutcome.{KeyOutcome, line_acceptance_outcome, refusal_outcome}
use Rattle.synth_session.specs.PlainSession.{PlainSession}
use Rattle.synth_session.specs.ProgramCode.{code_at}

-- what `.code` does: the code of the node at the cursor is shown from the instruction of this number on, if there is
-- one, until the next key
abbrev pub code_outcome : PlainSession → (from : ℕ) → KeyOutcome
code_outcome s from =
    if nat_lt from (length (code_at s.tree s.stop))
    then line_acceptance_outcome (record s { code_from = Some from })
    else refusal_outcome s why.WrongArgument
