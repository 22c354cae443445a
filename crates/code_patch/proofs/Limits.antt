-- Limits by their values.
use Rattle.std.specs.Prelude.{◌≡◌, refl}
use Rattle.code_patch.specs.Private.JumpRoom.{jump_room}

-- what code leaves free for jumps
jump_room_is : jump_room ≡ 5
jump_room_is = refl
