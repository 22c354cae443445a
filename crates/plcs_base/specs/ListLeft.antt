-- What is left of a list that is gone through in order.
use Rattle.std.proofs.Common.{sym, ap, ◌∙◌, ⊎_elim, add-one}
use Rattle.std.proofs.Math.ListN.{drop_of_length-le}
use Rattle.std.proofs.Math.Seq.{drop-cons}
use Rattle.std.proofs.lemmas.Option.{get_or_from_slice_get, none-some, slice_get_cases, slice_get_within}
use Rattle.std.specs.Prelude.{◌≡◌, ℕ, suc, ◌+◌, ◌≤◌, List, [], ◌∷◌, length, drop, slice_get, Some, None}

-- what is left of a list begins with the item that is found
pub left_from : {X : Type 0} (items : List X) (k : ℕ) (x : X) → slice_get items k ≡ Some x
    → drop k items ≡ x ∷ drop (k + 1) items
left_from items k x there =
    drop-cons items k x (slice_get_within items k x there)
    ∙ ap (λ first. first ∷ drop (suc k) items) (get_or_from_slice_get items k x x there)
    ∙ ap (λ n. x ∷ drop n items) (sym (add-one k))

-- where no item of a list that is gone through in order is found, the list is past
pub past_where_none : {X : Type 0} (items : List X) (k : ℕ) → slice_get items k ≡ None → length items ≤ k
past_where_none items k none =
    ⊎_elim (λ found. absurd (none-some found.0 (sym none ∙ found.2))) (λ past. past.0) (slice_get_cases items k).1

-- nothing is left where none is found
pub none_left : {X : Type 0} (items : List X) (k : ℕ) → slice_get items k ≡ None → drop k items ≡ []
none_left items k none = drop_of_length-le items (past_where_none items k none)
