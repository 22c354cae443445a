-- What instructions come to, with how many of them were fetched, and how fetches are counted.
use Rattle.std.specs.Prelude.{◌≡◌, ℕ, ◌+◌, ◌≤◌, Option, option_map}
use Rattle.std.specs.Option.{option_map_or}
use Rattle.plcs_base.specs.Count.{raised_by}
use Rattle.plcs_base.specs.PlainCounts.{PlainCounts}

-- something that instructions come to, and how many of them were fetched
pub record Fetched (A : Type 0) : Type 0 where
  pub result : A
  pub fetches : ℕ

-- what the first instruction comes to
abbrev pub at_once : {A : Type 0} → A → Fetched A
at_once result = record { result = result; fetches = 1 }

-- what one instruction and those behind it come to
abbrev pub behind_one : {A : Type 0} → Fetched A → Fetched A
behind_one fetched = record { result = fetched.result; fetches = fetched.fetches + 1 }

-- what is made of the result to which instructions come, where as many of them were fetched
abbrev pub with_result : {A B : Type 0} → (A → B) → Fetched A → Fetched B
with_result make fetched = record { result = make fetched.result; fetches = fetched.fetches }

-- what instructions come to, without how many of them were fetched, if there is something
abbrev pub result_of : {A : Type 0} → Option (Fetched A) → Option A
result_of fetched = option_map (λ one. one.result) fetched

-- how many instructions are fetched for it, if there is something
abbrev pub fetches_of : {A : Type 0} → Option (Fetched A) → ℕ
fetches_of fetched = option_map_or (λ one. one.fetches) fetched 0

-- just so many instructions are counted as fetched, and nothing else is counted; a count at its last value stays there
abbrev pub FetchesBy : (number : ℕ) (before now : PlainCounts) → Type 0
FetchesBy number before now = now ≡ record before { fetched = raised_by number before.fetched }

-- at most so many instructions are counted as fetched, and nothing else is counted
pub record FetchesAtMost (bound : ℕ) (before now : PlainCounts) : Type 0 where
  pub most : now.fetched ≤ before.fetched + bound
  pub later : before.fetched ≤ now.fetched
  pub others : now ≡ record before { fetched = now.fetched }
