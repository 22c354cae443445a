-- Rows of examples, and values for them written shortly.
use Rattle.std.specs.Prelude.{◌≡◌, ℕ, pos, neg_ℤ, Bool, List, map, replicate}
use Rattle.plcs_base.specs.declared.value.Value.{Value}
use Rattle.plcs_store.specs.declared.fault_kind.FaultKind.{FaultKind}
use Rattle.plcs_store.specs.Outcome.{Outcome, faults}

-- in each row what is computed is what is wanted
abbrev pub Rows : {A : Type 0} → List (A × A) → Type 0
Rows rows = map (λ row. row.0) rows ≡ map (λ row. row.1) rows

-- a whole number, and one below 0
abbrev pub num : ℕ → Value
num n = Value.Fixed (pos n)

abbrev pub neg : ℕ → Value
neg n = Value.Fixed (neg_ℤ (pos n))

-- a truth value
abbrev pub bit : Bool → Value
bit b = Value.Bit b

-- a text
abbrev pub text : List ℕ → Value
text x = Value.Text x

-- a text of so many letters x
abbrev pub long : ℕ → Value
long n = Value.Text (replicate n 120)

-- what comes to a value
abbrev pub ok : Value → Outcome Value
ok value = Outcome.gives value

-- what comes to a fault
abbrev pub fault : FaultKind → Outcome Value
fault kind = faults kind
