-- The values of the limits: the definitions cite the code's constants, so a change of one is refused here.
use Rattle.std.proofs.Common.{◌≡◌, refl}
use Rattle.slot_homes.specs.Said.{longest_way, most_places, probes, stride}

-- what is said of a slot may stand in eight places
probes_are : probes ≡ 8
probes_are = refl

-- each of them 8,191 places after the one before
stride_is : stride ≡ 8191
stride_is = refl

-- a table has at most 65,536 places
most_places_is : most_places ≡ 65536
most_places_is = refl

-- a way has at most 64 steps
longest_way_is : longest_way ≡ 64
longest_way_is = refl
