-- The value of each limit: the definitions cite the code's constants, so a change of one is refused here.
use Rattle.std.proofs.Common.{◌≡◌, refl}
use Rattle.plcs_grammar.specs.Limit.{greatest_number, greatest_nesting}

greatest_number_is : greatest_number ≡ 2147483647
greatest_number_is = refl

greatest_nesting_is : greatest_nesting ≡ 32
greatest_nesting_is = refl
