-- What it means to put several bytes, and the law that they can be put in turn.
use Rattle.std.specs.Prelude.{◌↔◌, ℕ, List, [], ◌∷◌, ◌++◌}

-- what it means to put several bytes: the value after is reached from the value before by putting them, one after the
-- other
pub data PutsAll {Out : Type 0} (puts : Out → ℕ → Out → Type 0) : Out → List ℕ → Out → Type 0 where
  puts_nothing : {out : Out} → PutsAll puts out [] out
  puts_next : {before between after : Out} {byte : ℕ} {bytes : List ℕ}
      → puts before byte between → PutsAll puts between bytes after → PutsAll puts before (byte ∷ bytes) after

-- the law that putting some bytes and then some more is putting the ones followed by the others
abbrev pub PutsInTurn : {Out : Type 0} → (Out → ℕ → Out → Type 0) → Type 0
PutsInTurn {Out = Out} puts =
    (before after : Out) (first second : List ℕ)
    → ((between : Out) × PutsAll puts before first between × PutsAll puts between second after)
    ↔ PutsAll puts before (first ++ second) after
