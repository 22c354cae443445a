-- Code while it is laid, and its length while it is counted ahead.
use Rattle.std.specs.Prelude.{◌≡◌, ℕ, ◌+◌, Bool, false, List, [], ◌∷◌, ◌++◌, refl}
use Rattle.std.specs.Coded.{Coded, code_by, coded×, coded_ℕ, coded_bool}
use Rattle.plcs_base.specs.PlainCounts.{PlainCounts, CountsNothing, EmitsOne}
use Rattle.plcs_code.specs.Counts.{EmitsAtMost}
use Rattle.plcs_code.specs.PlainInstr.{PlainInstr}
use Rattle.plcs_code.specs.Private.InstrCode.{block_code}

-- code while it is laid: the instructions so far, and whether memory ran out, after which nothing is laid any more
pub record PlainDraft : Type 0 where
  pub instrs : List PlainInstr
  pub failed : Bool

-- a draft is told by its fields
abbrev pub draft_code : Coded PlainDraft
draft_code =
    code_by (List PlainInstr × Bool) (coded× block_code coded_bool) (λ draft. (draft.instrs, draft.failed))
    (λ t. record { instrs = t.0; failed = t.1 }) (λ _. refl)

-- an instruction came into a draft, and was counted, unless memory ran out by now; more than one is never counted
pub record DraftsOne (before : PlainDraft) (counts_before : PlainCounts) (instr : PlainInstr) (after : PlainDraft)
    (counts_now : PlainCounts) : Type 0 where
  pub failed : after.failed ≡ false → before.failed ≡ false
  pub instrs : after.failed ≡ false → after.instrs ≡ before.instrs ++ (instr ∷ [])
  pub counted : after.failed ≡ false → EmitsOne counts_before counts_now
  pub counts : EmitsAtMost 1 counts_before counts_now

-- a length while it is counted ahead: how many instructions there are so far, and whether there are too many
pub record PlainTally : Type 0 where
  pub count : ℕ
  pub failed : Bool

-- a tally, which counts code ahead, is told by its fields
abbrev pub tally_code : Coded PlainTally
tally_code =
    code_by (ℕ × Bool) (coded× coded_ℕ coded_bool) (λ tally. (tally.count, tally.failed))
    (λ t. record { count = t.0; failed = t.1 }) (λ _. refl)

-- an instruction came into a tally, which counts code ahead, unless there are too many by now; it is no work
pub record TalliesOne (before : PlainTally) (counts_before : PlainCounts) (instr : PlainInstr) (after : PlainTally)
    (counts_now : PlainCounts) : Type 0 where
  pub failed : after.failed ≡ false → before.failed ≡ false
  pub count : after.failed ≡ false → after.count ≡ before.count + 1
  pub counts : CountsNothing counts_before counts_now
