-- Code that stands among instructions from an address on.
use Rattle.std.specs.Prelude.{◌≡◌, ℕ, zero, suc, ◌+◌, List, [], ◌∷◌, ◌++◌, drop, length, slice_get, take, Option, Some, None}
use Rattle.std.proofs.Common.{ap, ◌∙◌, subst, arith}
use Rattle.std.proofs.lemmas.Option.{none-some}
use Rattle.plcs_code.specs.CodeLaws.{HasCodeAt}
use Rattle.plcs_code.specs.PlainInstr.{PlainInstr}

-- the code stands there, instruction by instruction
abbrev pub HasAt : List PlainInstr → (address : ℕ) → List PlainInstr → Type 0
HasAt instrs address [] = Unit {0}
HasAt instrs address (instr ∷ code) = (slice_get instrs address ≡ Some instr) × HasAt instrs (address + 1) code

-- the first of two codes
pub has_first : (instrs : List PlainInstr) (address : ℕ) (one other : List PlainInstr) → HasAt instrs address (one ++ other) → HasAt instrs address one
has_first instrs address [] other has = tt
has_first instrs address (instr ∷ one) other has = (has.0, has_first instrs (address + 1) one other has.1)

-- and the second
pub has_second : (instrs : List PlainInstr) (address behind : ℕ) (one other : List PlainInstr) → behind ≡ address + length one
    → HasAt instrs address (one ++ other) → HasAt instrs behind other
has_second instrs address behind [] other same has =
    let here : address ≡ behind = omega (arith, same) in subst (λ (n : ℕ). HasAt instrs n other) here has
has_second instrs address behind (instr ∷ one) other same has =
    has_second instrs (address + 1) behind one other (omega (arith, same)) has.1

-- ---- what is read there

abbrev instr_or : PlainInstr → List PlainInstr → PlainInstr
instr_or other [] = other
instr_or other (instr ∷ code) = instr

abbrev behind : List PlainInstr → List PlainInstr
behind [] = []
behind (instr ∷ code) = code

-- where instructions from an address on begin with one, it is read there
read_first : (instrs : List PlainInstr) (address : ℕ) (instr : PlainInstr) (more : List PlainInstr) → drop address instrs ≡ instr ∷ more
    → (slice_get instrs address ≡ Some instr) × (drop (suc address) instrs ≡ more)
read_first [] zero instr more e = absurd (by e)
  where
    filled : List PlainInstr → Option PlainInstr
    filled [] = None
    filled (own ∷ code) = Some own

    by : [] ≡ instr ∷ more → ⊥
    by e = none-some instr (ap filled e)
read_first [] (suc address) instr more e = absurd (by e)
  where
    filled : List PlainInstr → Option PlainInstr
    filled [] = None
    filled (own ∷ code) = Some own

    by : [] ≡ instr ∷ more → ⊥
    by e = none-some instr (ap filled e)
read_first (own ∷ instrs) zero instr more e = (ap (λ (code : List PlainInstr). Some (instr_or own code)) e, ap behind e)
read_first (own ∷ instrs) (suc address) instr more e = read_first instrs address instr more e

-- the first of instructions taken
taken_first : (all : List PlainInstr) (n : ℕ) (instr : PlainInstr) (code : List PlainInstr) → take (suc n) all ≡ instr ∷ code
    → (more : List PlainInstr) × (all ≡ instr ∷ more) × (take n more ≡ code)
taken_first [] n instr code e = absurd (by e)
  where
    filled : List PlainInstr → Option PlainInstr
    filled [] = None
    filled (own ∷ code) = Some own

    by : [] ≡ instr ∷ code → ⊥
    by e = none-some instr (ap filled e)
taken_first (own ∷ all) n instr code e =
    (all, ap (λ (l : List PlainInstr). instr_or own l ∷ all) e, ap behind e)

pub has_at : (instrs : List PlainInstr) (address : ℕ) (code : List PlainInstr) → HasCodeAt instrs address code → HasAt instrs address code
has_at instrs address [] has = tt
has_at instrs address (instr ∷ code) has =
    let (more, is, rest) = taken_first (drop address instrs) (length code) instr code has in
    let (read, left) = read_first instrs address instr more is in
    let next : suc address ≡ address + 1 = omega arith in (
      read,
      subst (λ (n : ℕ). HasAt instrs n code) next
          (has_at instrs (suc address) code (ap (take (length code)) left ∙ rest)),
    )
