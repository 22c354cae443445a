-- What comes behind instructions that were fetched before.
use Rattle.std.specs.Prelude.{ℕ, ◌+◌}
use Rattle.plcs_machine.specs.Fetched.{Fetched}

-- what so many instructions and those behind them come to
abbrev pub behind_many : {A : Type 0} → ℕ → Fetched A → Fetched A
behind_many k fetched = record { result = fetched.result; fetches = fetched.fetches + k }
