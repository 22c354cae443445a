-- What is counted for shots under a bill of checks.
use Rattle.std.specs.Prelude.{◌≡◌, ℕ, ◌+◌, ◌≤◌, List, [], ◌∷◌, Option, Some, None}
use Rattle.plcs_base.specs.Count.{raised_by}
use Rattle.plcs_base.specs.PlainCounts.{PlainCounts}
use Rattle.screen_window.specs.Screen.{window_rows}
use Rattle.synth_top.specs.Turn.{KeyBill, Shot}

-- of what is counted for some shots: how many rows their windows have together, and so how many lines are laid at most
abbrev pub all_window_rows : List Shot → ℕ
all_window_rows [] = 0
all_window_rows (shot ∷ rest) = window_rows shot.screen.rows + all_window_rows rest

-- of what is counted for some shots: how many instructions were fetched for them together
abbrev pub all_fetched : List Shot → ℕ
all_fetched [] = 0
all_fetched (shot ∷ rest) = shot.fetched + all_fetched rest

-- just so many instructions are fetched; or where memory ran out, at least so many, and no more in all than were due
abbrev pub FetchesFor : (number : ℕ) (due : Option ℕ) (before now : ℕ) → Type 0
FetchesFor number None before now = now ≡ raised_by number before
FetchesFor number (Some due) before now = (raised_by number before ≤ now) × (now ≤ before + due)

-- what is counted for the shots that were made under a bill: no more phrases are checked and no more instructions
-- emitted than the bill says, just as many instructions are fetched as for the shots, and at most as many lines are
-- laid as their windows have rows. Where memory ran out, it is told how many instructions were due in all, and then at
-- most these are fetched
pub record CountsFor (bill : KeyBill) (made : List Shot) (due : Option ℕ) (before now : PlainCounts) : Type 0 where
  pub emitted : now.emitted ≤ before.emitted + bill.emits
  pub emitted_later : before.emitted ≤ now.emitted
  pub checked : now.checked ≤ before.checked + bill.checks
  pub checked_later : before.checked ≤ now.checked
  pub fetched : FetchesFor (all_fetched made) due before.fetched now.fetched
  pub laid : now.laid ≤ before.laid + all_window_rows made
  pub laid_later : before.laid ≤ now.laid
