-- What it means to lay several instructions, one after the other.
use Rattle.std.specs.Prelude.{List, [], ◌∷◌}
use Rattle.plcs_base.specs.PlainCounts.{PlainCounts}
use Rattle.plcs_code.specs.PlainInstr.{PlainInstr}

-- the value after, and the counts then, are reached by laying the instructions, one after the other
pub data LaysAll {Out : Type 0} (lays : Out → PlainCounts → PlainInstr → Out → PlainCounts → Type 0) : Out
    → PlainCounts → List PlainInstr → Out → PlainCounts → Type 0 where
  lays_nothing : {out : Out} {counts : PlainCounts} → LaysAll lays out counts [] out counts
  lays_next : {before between after : Out} {first second third : PlainCounts} {instr : PlainInstr}
      {code : List PlainInstr}
      → lays before first instr between second → LaysAll lays between second code after third
      → LaysAll lays before first (instr ∷ code) after third
