-- The room that lengths of kept code leave for jumps.
use Rattle.std.specs.Prelude.{ℕ}
use Rattle.code_patch.specs.declared.fresh.TheConstants.{JUMP_ROOM}

-- how many instructions the length of what a kept node has but its jumps leaves free of the limit of code
abbrev pub jump_room : ℕ
jump_room = JUMP_ROOM
