-- The counts of the editor's work: what a call counts, and what it leaves as it is.
use Rattle.std.specs.Prelude.{ℕ, ◌≡◌, ◌+◌, ◌≤◌}
use Rattle.plcs_base.specs.Count.{raised}

-- how much work was counted so far: instructions emitted into code, phrases checked against the declarations,
-- instructions fetched from code, and lines of the screen laid out
pub record PlainCounts : Type 0 where
  pub emitted : ℕ
  pub checked : ℕ
  pub fetched : ℕ
  pub laid : ℕ

-- nothing is counted
abbrev pub CountsNothing : PlainCounts → PlainCounts → Type 0
CountsNothing before now = now ≡ before

-- in the counts of work an instruction that was emitted is counted, and nothing else
abbrev pub EmitsOne : PlainCounts → PlainCounts → Type 0
EmitsOne before now = now ≡ record before { emitted = raised before.emitted }

-- in the counts of work a phrase that was checked is counted, and nothing else
abbrev pub ChecksOne : PlainCounts → PlainCounts → Type 0
ChecksOne before now = now ≡ record before { checked = raised before.checked }

-- in the counts of work an instruction that was fetched is counted, and nothing else
abbrev pub FetchesOne : PlainCounts → PlainCounts → Type 0
FetchesOne before now = now ≡ record before { fetched = raised before.fetched }

-- in the counts of work a line that was laid out is counted, and nothing else
abbrev pub LaysOne : PlainCounts → PlainCounts → Type 0
LaysOne before now = now ≡ record before { laid = raised before.laid }

-- at most so many phrases are counted as checked, and nothing else is counted
pub record ChecksAtMost (bound : ℕ) (before now : PlainCounts) : Type 0 where
  pub most : now.checked ≤ before.checked + bound
  pub later : before.checked ≤ now.checked
  pub others : now ≡ record before { checked = now.checked }

-- at most so many lines are counted as laid out, and nothing else is counted
pub record LaysAtMost (bound : ℕ) (before now : PlainCounts) : Type 0 where
  pub most : now.laid ≤ before.laid + bound
  pub later : before.laid ≤ now.laid
  pub others : now ≡ record before { laid = now.laid }
