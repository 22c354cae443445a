-- The value of each limit: the definitions cite the code's constants, so a change of one is refused here.
use Rattle.std.proofs.Common.{◌≡◌, refl}
use Rattle.plcs_base.specs.Name.{longest_name}
use Rattle.plcs_base.specs.Text.{longest_text}

-- a name has at most 31 bytes
longest_name_is : longest_name ≡ 31
longest_name_is = refl

-- a text has at most 256 bytes
longest_text_is : longest_text ≡ 256
longest_text_is = refl
