-- The limit of a history.
use Rattle.std.specs.Prelude.{ℕ}
use Rattle.back_steps.specs.declared.limit.TheConstants.{MOST_RECORDS}

-- how many records of steps a history holds
abbrev pub most_records : ℕ
most_records = MOST_RECORDS
