-- The value of each limit: the definitions cite the code's constants, so a change of one is refused here.
use Rattle.std.proofs.Common.{◌≡◌, refl}
use Rattle.file_store.specs.Limit.{longest_input, longest_listing}

-- a listing file has at most 33,554,432 bytes
longest_listing_is : longest_listing ≡ 33554432
longest_listing_is = refl

-- a program's input has at most 1,048,576 bytes
longest_input_is : longest_input ≡ 1048576
longest_input_is = refl
