-- Lines that are held in the buckets of a cache.
use Rattle.std.proofs.Common.{◌≡◌, ◌<◌, ◌%◌, ℕ, true, List, length, set, Option, Some, None, ap, sym, subst, ◌∙◌, arith}
use Rattle.std.specs.Prelude.{slice_get}
use Rattle.std.proofs.lemmas.Bool.{eqb-true}
use Rattle.std.proofs.lemmas.List.{get_or-set_same}
use Rattle.std.proofs.lemmas.List.Elements.{All-get_or, All-same, All-set, All-weaker}
use Rattle.plcs_base.specs.Mark.{MarkMap}
use Rattle.template_tree.specs.Programs.PlainTree.{Forest}
use Rattle.unparse_layout.specs.LaidLine.{LaidLines, PlainLine}
use Rattle.screen_window.specs.HeldLines.{HoldLinesOf, HoldsLineOf, PlainHeldLine}
use Rattle.screen_window.specs.Private.Buckets.{AreEmpty, bucket_of, has_number, held_at, held_line, is_held, line_in}

-- where nothing is held, nothing is held of another program
pub empty_hold : (marks : MarkMap) (items : Forest) (buckets : List (Option PlainHeldLine)) → AreEmpty buckets → HoldLinesOf marks items buckets
empty_hold marks items buckets empty =
    record {
      each =
          All-weaker (λ (bucket : Option PlainHeldLine). bucket ≡ None) (HoldsLineOf marks items)
          (λ bucket none. subst (HoldsLineOf marks items) (sym none) tt) buckets empty;
    }

-- the bucket of a number is one of the cache
bucket_within : (buckets : List (Option PlainHeldLine)) (number : ℕ) → length buckets ≡ 94 → bucket_of number < length buckets
bucket_within buckets number count = omega (arith, count)

-- what is held under a number is the program's line of that number
pub held_is : (marks : MarkMap) (items : Forest) (buckets : List (Option PlainHeldLine)) (number : ℕ) → HoldLinesOf marks items buckets
    → length buckets ≡ 94 → is_held buckets number ≡ true → held_line buckets number ≡ slice_get (LaidLines marks items) number
held_is marks items buckets number hold count is =
    by_bucket (held_at buckets number)
    (All-get_or (HoldsLineOf marks items) buckets (bucket_of number) None (bucket_within buckets number count) hold.each) is
  where
    by_bucket : (bucket : Option PlainHeldLine) → HoldsLineOf marks items bucket → has_number number bucket ≡ true
        → line_in bucket ≡ slice_get (LaidLines marks items) number
    by_bucket None holds is = absurd (cc)
    by_bucket (Some held) holds is = holds ∙ ap (slice_get (LaidLines marks items)) (eqb-true held.number number is)

-- one more line of the program is held
pub one_more_held : (marks : MarkMap) (items : Forest) (buckets now : List (Option PlainHeldLine)) (number : ℕ) (line : Option PlainLine)
    → HoldLinesOf marks items buckets → line ≡ slice_get (LaidLines marks items) number
    → now ≡ set buckets (bucket_of number) (Some (record { number = number; line = line })) → HoldLinesOf marks items now
one_more_held marks items buckets now number line hold is same =
    record {
      each =
          All-same (HoldsLineOf marks items) now _ same
          (All-set (HoldsLineOf marks items) buckets (bucket_of number) (Some (record { number = number; line = line })) is hold.each);
    }

-- and it is found under its number
pub found_again : (marks : MarkMap) (items : Forest) (buckets now : List (Option PlainHeldLine)) (number : ℕ) (line : Option PlainLine)
    → length buckets ≡ 94 → line ≡ slice_get (LaidLines marks items) number
    → now ≡ set buckets (bucket_of number) (Some (record { number = number; line = line }))
    → held_line now number ≡ slice_get (LaidLines marks items) number
found_again marks items buckets now number line count is same =
    ap (λ (held : List (Option PlainHeldLine)). held_line held number) same
    ∙ ap line_in
    (get_or-set_same buckets (bucket_of number) (Some (record { number = number; line = line })) None (bucket_within buckets number count))
    ∙ is
