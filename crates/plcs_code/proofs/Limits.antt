-- The value of the limit: the definitions cite the code's constant, so a change of it is refused here.
use Rattle.std.proofs.Common.{◌≡◌, refl}
use Rattle.plcs_code.specs.BlockLimit.{most_instrs}

-- a block has at most 2,147,483,647 instructions
most_instrs_is : most_instrs ≡ 2147483647
most_instrs_is = refl
