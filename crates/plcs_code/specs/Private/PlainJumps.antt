-- The jumps of a node, as they are made.
use Rattle.std.specs.Prelude.{option_map}
use Rattle.plcs_code.specs.declared.jumps.Jumps.{Jumps}
use Rattle.plcs_code.specs.Pieces.{CodeJumps}
use Rattle.plcs_code.specs.PlainInstr.{plain_instr}

-- the plain form of jumps that are made
abbrev pub plain_jumps : Jumps → CodeJumps
plain_jumps jumps =
    record {
      ahead = option_map plain_instr jumps.ahead;
      between = option_map plain_instr jumps.between;
      back = option_map plain_instr jumps.back;
    }
