-- The numbers of endings.
use Rattle.std.specs.Prelude.{ℕ}
use Rattle.terminal_keys.specs.declared.ending.Ending.{Ending}
use Rattle.terminal_keys.specs.declared.ending.Ending.TheVariants.{Done, ReadFault, WriteFault, NoMemory, ReadLimit}

-- the number with which the program ends that passes a terminal's keys
abbrev pub ending_number : Ending → ℕ
ending_number Done = 0
ending_number ReadFault = 1
ending_number WriteFault = 2
ending_number NoMemory = 3
ending_number ReadLimit = 4
