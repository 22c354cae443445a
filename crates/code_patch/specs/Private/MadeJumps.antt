-- Jumps that are made of own code beside codes whose lengths are known.
use Rattle.std.specs.Prelude.{◌≡◌, ℕ, ◌+◌, length}
use Rattle.std.specs.Option.{option_to_list}
use Rattle.plcs_code.specs.Pieces.{CodeJumps}
use Rattle.code_patch.specs.CodeEdit.{PreparedJumps}

-- how many jumps there are
abbrev pub count_jumps : CodeJumps → ℕ
count_jumps around =
    length (option_to_list around.ahead)
    + (length (option_to_list around.between) + length (option_to_list around.back))

-- prepared jumps are these
pub record AreMadeJumps (around : CodeJumps) (jumps : PreparedJumps) : Type 0 where
  pub ahead : jumps.ahead ≡ option_to_list around.ahead
  pub between : jumps.between ≡ option_to_list around.between
  pub back : jumps.back ≡ option_to_list around.back
