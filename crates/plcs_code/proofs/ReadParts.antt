-- Parts of a node, and other lists, read one after the other.
use Rattle.std.specs.Prelude.{◌≡◌, refl, ℕ, zero, suc, ◌||◌, ◌+◌, List, [], ◌∷◌, drop, reverse, Option, Some, None, is_some, is_none, slice_get}
use Rattle.std.specs.FinMap.{get}
use Rattle.std.specs.Option.{option_to_list}
use Rattle.std.proofs.Common.{◌<◌, ◌≤◌, arith, ap, sym, ◌∙◌, add-one, get_or, length}
use Rattle.std.proofs.Math.Seq.{drop-cons}
use Rattle.plcs_base.specs.Mark.{MarkMap}
use Rattle.plcs_grammar.specs.PlainPhrase.{PlainPhrase}
use Rattle.template_tree.specs.Checks.Mention.{phrase_at}
use Rattle.plcs_code.specs.Pieces.{has_empty, has_marked_part}

-- what is left of a list begins with the item that is found
pub left_with : {X : Type 0} (items : List X) (k : ℕ) (x : X) → slice_get items k ≡ Some x → drop k items ≡ x ∷ drop (k + 1) items
left_with [] k x there = absurd (cc)
left_with (y ∷ ys) zero x there = let same : y ≡ x = cc in ap (λ z. z ∷ ys) same
left_with (y ∷ ys) (suc k) x there = left_with ys k x there ∙ ap (λ n. x ∷ drop n ys) (add-one k) ∙ sym (ap (λ n. x ∷ drop n (y ∷ ys)) (add-one (suc k)))

-- and with the item that stands there
pub left_at : {X : Type 0} (items : List X) (k : ℕ) (x : X) → k < length items → x ≡ get_or items k x → drop k items ≡ x ∷ drop (k + 1) items
left_at items k x inside is = drop-cons items k x inside ∙ ap (λ y. y ∷ drop (suc k) items) (sym is) ∙ ap (λ n. x ∷ drop n items) (sym (add-one k))

-- where nothing is found the list is past
pub past_where_none : {X : Type 0} (items : List X) (k : ℕ) → slice_get items k ≡ None → length items ≤ k
past_where_none [] k there = omega arith
past_where_none (y ∷ ys) zero there = absurd (cc)
past_where_none (y ∷ ys) (suc k) there = omega (arith, past_where_none ys k there)

-- where nothing is found, nothing is left
pub left_none : {X : Type 0} (items : List X) (k : ℕ) → slice_get items k ≡ None → drop k items ≡ []
left_none [] zero there = refl
left_none [] (suc k) there = refl
left_none (y ∷ ys) zero there = absurd (cc)
left_none (y ∷ ys) (suc k) there = left_none ys k there

-- a part that is found counts, and then those behind it
pub empty_next : (parts : List (Option PlainPhrase)) (k : ℕ) (place : Option PlainPhrase) → slice_get parts k ≡ Some place
    → has_empty (drop k parts) ≡ is_none place || has_empty (drop (k + 1) parts)
empty_next parts k place there = ap has_empty (left_with parts k place there)

-- a part that is found is marked, or one of those behind it is
pub mark_next : (marks : MarkMap) (slot k : ℕ) (parts : List (Option PlainPhrase)) (place : Option PlainPhrase) → slice_get parts k ≡ Some place
    → has_marked_part marks slot k (drop k parts) ≡ is_some (get marks (phrase_at slot k)) || has_marked_part marks slot (k + 1) (drop (k + 1) parts)
mark_next marks slot k parts place there = ap (has_marked_part marks slot k) (left_with parts k place there)

-- one element or none, reversed
pub reverse_one : {X : Type 0} (o : Option X) → reverse (option_to_list o) ≡ option_to_list o
reverse_one None = refl
reverse_one (Some x) = refl
