-- What stops a run in place of a piece.
use Rattle.plcs_code.specs.declared.suspension.Halt.{Halt}
use Rattle.plcs_code.specs.PlainInstr.{PlainInstr}

-- the plain form of what stops a run: the instruction that does
abbrev pub plain_halt : Halt → PlainInstr
plain_halt Halt.Placeholder = PlainInstr.suspend_placeholder
plain_halt Halt.Marked = PlainInstr.suspend_marked
