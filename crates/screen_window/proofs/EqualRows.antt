-- Rows of one width, from the first place at which they differ.
use Rattle.std.proofs.Common.{◌≡◌, ℕ, Bool, not, ◌<◌, List, length, get_or, Option, Some, None, sym, ap, ◌∙◌, arith}
use Rattle.std.specs.Prelude.{is_some, nat_eq}
use Rattle.std.specs.Cmp.Lexicographic.{pointwise}
use Rattle.std.proofs.lemmas.Bool.{false_from_ne_true, not-true, not-false}
use Rattle.std.proofs.lemmas.List.{same_lists, get_or_default}
use Rattle.std.proofs.lemmas.Slice.Eq.{bytes_eq-Decides}
use Rattle.lane_rows.specs.CellRow.{IsFirstDifference}

-- rows that differ nowhere are equal, and others aren't
pub equal_where_none : (a b : List ℕ) (found : Option ℕ) (equal : Bool) → length a ≡ length b → IsFirstDifference a b found
    → is_some found ≡ not equal → equal ≡ pointwise nat_eq a b
equal_where_none a b None equal width same none =
    let everywhere : (k d : ℕ) → k < length a → get_or a k d ≡ get_or b k d =
    λ k d below.
    get_or_default a k d 0 below ∙ same k below ∙ sym (get_or_default b k d 0 (omega (arith, below, width))) in
    not-false equal (sym none) ∙ sym ((bytes_eq-Decides a b).1 (same_lists a b width everywhere))
equal_where_none a b (Some place) equal width differs some =
    not-true equal (sym some)
    ∙ sym (false_from_ne_true (pointwise nat_eq a b)
    (λ same. differs.1 (ap (λ row. get_or row place 0) ((bytes_eq-Decides a b).0 same))))
