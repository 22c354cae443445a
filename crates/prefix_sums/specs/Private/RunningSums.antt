-- The running sums that are kept beside a list of numbers.
use Rattle.std.specs.Prelude.{◌≡◌, ℕ, ◌+◌, ◌-◌, ◌*◌, ◌^◌, ◌<◌, ◌≤◌, List, length, min, sum, take, slice_index, vec_len, vec_capacity}
use Rattle.prefix_sums.specs.declared.sums.PrefixSums.TheInside.{Inside}
use Rattle.prefix_sums.specs.PlainPrefixSums.{PlainPrefixSums}

-- what a list in memory, kept with its running sums, is seen as
abbrev pub seen : Inside → PlainPrefixSums
seen a =
    record {
      numbers = a.numbers.items;
      spare = min (vec_capacity a.numbers - vec_len a.numbers) (64 * vec_capacity a.marks + 63 - vec_len a.numbers);
    }

-- each mark is the running sum of the numbers up to it, of which there are 64 more than up to the one before
abbrev pub AreMarks : List ℕ → List ℕ → Type 0
AreMarks numbers marks = (b : ℕ) → b < length marks → slice_index marks b ≡ sum (take (64 * b + 64) numbers)

-- the running sums that are kept, the marks and the total, are those of the numbers, with a mark for each 64 of them
pub record IsRight (a : Inside) : Type 0 where
  pub marks : AreMarks a.numbers.items a.marks.items
  pub enough : vec_len a.numbers < 64 * vec_len a.marks + 64
  pub short : 64 * vec_len a.marks ≤ vec_len a.numbers
  pub total : a.total ≡ sum a.numbers.items
  pub fits : sum a.numbers.items < 2 ^ 32

-- the marks, which are running sums, are being mended: those below the number are of the new list, the others of the
-- old
pub record AreMended (olds news marks : List ℕ) (b : ℕ) : Type 0 where
  pub done : (j : ℕ) → j < b → j < length marks → slice_index marks j ≡ sum (take (64 * j + 64) news)
  pub left : (j : ℕ) → b ≤ j → j < length marks → slice_index marks j ≡ sum (take (64 * j + 64) olds)
