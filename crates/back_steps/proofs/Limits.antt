-- The value of the limit: the definitions cite the code's constant, so a change of it is refused here.
use Rattle.std.proofs.Common.{◌≡◌, refl}
use Rattle.back_steps.specs.Limit.{most_records}

-- a history holds at most 500 records
most_records_is : most_records ≡ 500
most_records_is = refl
