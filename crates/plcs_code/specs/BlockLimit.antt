-- The limit of code.
use Rattle.std.specs.Prelude.{ℕ}
use Rattle.plcs_code.specs.declared.limit.TheConstants.{MOST_INSTRS}

-- how many instructions a block may have
abbrev pub most_instrs : ℕ
most_instrs = MOST_INSTRS
