-- What is counted in keys and ticks, and to draw screens.
use Rattle.std.specs.Prelude.{◌≡◌, ℕ, ◌+◌, ◌≤◌}
use Rattle.plcs_base.specs.Count.{raised_by}
use Rattle.plcs_base.specs.PlainCounts.{PlainCounts}

-- in a key no more phrases are checked and no more instructions emitted than this, of the instructions fetched the
-- least and the most number are told, and nothing else is counted; a count at its last value stays there
pub record CountsPressed (checks emits least most : ℕ) (before now : PlainCounts) : Type 0 where
  pub checked : now.checked ≤ before.checked + checks
  pub checked_later : before.checked ≤ now.checked
  pub emitted : now.emitted ≤ before.emitted + emits
  pub emitted_later : before.emitted ≤ now.emitted
  pub fetched_least : raised_by least before.fetched ≤ now.fetched
  pub fetched_most : now.fetched ≤ raised_by most before.fetched
  pub laid : now.laid ≡ before.laid

-- in a key in which memory runs out no more phrases are checked, instructions emitted and instructions fetched than
-- this, and nothing else is counted
pub record CountsPressedAtMost (checks emits fetches : ℕ) (before now : PlainCounts) : Type 0 where
  pub checked : now.checked ≤ before.checked + checks
  pub checked_later : before.checked ≤ now.checked
  pub emitted : now.emitted ≤ before.emitted + emits
  pub emitted_later : before.emitted ≤ now.emitted
  pub fetched : now.fetched ≤ before.fetched + fetches
  pub fetched_later : before.fetched ≤ now.fetched
  pub laid : now.laid ≡ before.laid

-- to draw a screen no more lines are laid out than so many, just so many instructions are fetched, and nothing else is
-- counted
pub record CountsScreen (rows fetches : ℕ) (before now : PlainCounts) : Type 0 where
  pub laid : now.laid ≤ before.laid + rows
  pub laid_later : before.laid ≤ now.laid
  pub fetched : now.fetched ≡ raised_by fetches before.fetched
  pub checked : now.checked ≡ before.checked
  pub emitted : now.emitted ≡ before.emitted

-- when a program comes to be another no more phrases are checked and no more instructions emitted than this, and
-- nothing else is counted
pub record CountsProgram (checks emits : ℕ) (before now : PlainCounts) : Type 0 where
  pub checked : now.checked ≤ before.checked + checks
  pub checked_later : before.checked ≤ now.checked
  pub emitted : now.emitted ≤ before.emitted + emits
  pub emitted_later : before.emitted ≤ now.emitted
  pub fetched : now.fetched ≡ before.fetched
  pub laid : now.laid ≡ before.laid
