-- What the parts of a step come to, one after the other: the first that stops it counts.
use Rattle.std.specs.Prelude.{Option, Some, None, Result, Ok, Err}
use Rattle.plcs_store.specs.declared.fault_kind.FaultKind.{FaultKind}
use Rattle.plcs_store.specs.declared.reason.Reason.{Reason}

-- what a part of a step comes to: it gives something, or stops the step for a reason. It is undefined where there is no
-- cell of a name, or where a value is of another kind than is wanted, which isn't so in what fits a tree
pub data Outcome (A : Type 0) : Type 0 where
  gives : A → Outcome A
  stops : Reason → Outcome A
  undefined : Outcome A

-- what a part of a step comes to that stops the step with a fault
abbrev pub faults : {A : Type 0} → FaultKind → Outcome A
faults kind = stops (Reason.Fault kind)

-- the outcome of a part that another follows
abbrev pub then_gives : {A B : Type 0} → Outcome A → (A → Outcome B) → Outcome B
then_gives (gives a) make = make a
then_gives (stops reason) make = stops reason
then_gives undefined make = undefined

-- the outcome of two parts that a third follows, the left one first
abbrev pub both_give : {A B C : Type 0} → Outcome A → Outcome B → (A → B → Outcome C) → Outcome C
both_give left right make = then_gives left (λ a. then_gives right (make a))

-- the outcome that is what is there, or undefined
abbrev pub if_there : {A : Type 0} → Option A → Outcome A
if_there None = undefined
if_there (Some a) = gives a

-- ---- what the code answers

-- the outcome that an answer of the code is: it gives something, or a fault
abbrev pub found_or_fault : {A : Type 0} → Result A FaultKind → Outcome A
found_or_fault (Ok a) = gives a
found_or_fault (Err kind) = faults kind

-- what a part of a step comes to by an answer of the code, which may also be undefined
abbrev pub answer_outcome : {A : Type 0} → Result (Option A) FaultKind → Outcome A
answer_outcome (Ok found) = if_there found
answer_outcome (Err kind) = faults kind
