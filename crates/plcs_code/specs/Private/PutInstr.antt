-- The instructions of both kinds of PUT.
use Rattle.std.specs.Prelude.{ℕ, Bool, true, false}
use Rattle.plcs_code.specs.PlainInstr.{PlainInstr}

-- the instruction that writes so many values, on a new line or not
abbrev pub put_instr : (skip : Bool) → ℕ → PlainInstr
put_instr true = PlainInstr.put_skip
put_instr false = PlainInstr.put
