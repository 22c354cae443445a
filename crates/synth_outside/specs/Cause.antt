-- Which answer of a call has its cause in a count: the count rises with it alone.
use Rattle.std.specs.Prelude.{◌≡◌, ℕ, ◌-◌, ◌^◌, ◌≤◌, Result, IsErrOf}
use Rattle.plcs_base.specs.Count.{Rose}

-- a count rises with an answer of a call: it rose where this was answered, else it is as before; it
-- never falls, and at its last value it stays
pub record RisesWith (answered : Type 0) (before now : ℕ) : Type 0 where
  pub later : before ≤ now
  pub rose : answered → Rose before now
  pub same : (answered → ⊥) → now ≡ before
  pub last : before ≡ 2 ^ 64 - 1 → now ≡ before

-- a fault has its cause in a count: the count rises in a call that answers this fault, and in no
-- other
abbrev pub HasCause : {T E : Type 0} → E → ℕ → ℕ → Result T E → Type 0
HasCause fault before now result = RisesWith (IsErrOf result fault) before now
