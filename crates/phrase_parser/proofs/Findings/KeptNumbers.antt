-- A number as it is kept passes the tests that the number passes.
use Rattle.std.proofs.Common.{◌≡◌, ℕ, ◌<◌, ◌≤◌, min, leb, ltb, arith}
use Rattle.std.proofs.lemmas.Bool.Decides.{nat_tests}
use Rattle.phrase_parser.specs.Private.PlacedToken.{greatest_kept}

-- a number as it is kept is at least a small one exactly where the number is
pub kept_from : (n low : ℕ) → low ≤ greatest_kept → leb low (min n greatest_kept) ≡ leb low n
kept_from n low h = grind (arith, nat_tests)

-- a number as it is kept is at most one below the greatest kept exactly where the number is
pub kept_to : (n high : ℕ) → high < greatest_kept → leb (min n greatest_kept) high ≡ leb n high
kept_to n high h = grind (arith, nat_tests)

-- a number as it is kept is above one below the greatest kept exactly where the number is
pub kept_above : (n low : ℕ) → low < greatest_kept → ltb low (min n greatest_kept) ≡ ltb low n
kept_above n low h = grind (arith, nat_tests)
