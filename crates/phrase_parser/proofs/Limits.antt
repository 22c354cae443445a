-- The value of the limit: the definitions cite the code's constant, so a change of it is refused here.
use Rattle.std.proofs.Common.{◌≡◌, refl}
use Rattle.phrase_parser.specs.Private.PlacedToken.{greatest_kept}

greatest_kept_is : greatest_kept ≡ 4294967295
greatest_kept_is = refl
