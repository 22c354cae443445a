-- The last visible item of a node.
use Rattle.std.specs.Prelude.{◌≡◌, refl, ℕ, suc, ◌+◌, ◌-◌, nat_lt, Bool, true, false, if◌then◌else◌, List, [], ◌∷◌, length, Option, Some, None, option_map, slice_get}
use Rattle.std.proofs.Common.{ap, sym, ◌∙◌, arith}
use Rattle.std.proofs.lemmas.Bool.{lt-ltb, ltb-true}
use Rattle.std.proofs.lemmas.Option.{none-some, same_Some}
use Rattle.template_tree.specs.Programs.PlainTree.{PlainNode, nodes}
use Rattle.cursor_moves.specs.Private.NextPath.{first_inside}
use Rattle.cursor_moves.specs.Private.Number.{last_number}

-- the last of so many numbers
last_of_many : (k count : ℕ) (b : Bool) → nat_lt 0 count ≡ b → Some k ≡ (if b then Some (count - 1) else None) → k + 1 ≡ count
last_of_many k count true e f =
    let same : k ≡ count - 1 = same_Some k (count - 1) f in omega (arith, ltb-true 0 count e, same)
last_of_many k count false e f = absurd (none-some k (sym f))

-- the last item of a node is visible where the node isn't elided
pub last_item : (elided : Bool) (items : List PlainNode) (k : ℕ) → Some k ≡ (if elided then None else last_number (length items))
    → (elided ≡ false) × (k + 1 ≡ length items)
last_item true items k e = absurd (none-some k (sym e))
last_item false items k e = (refl, last_of_many k (length items) (nat_lt 0 (length items)) refl e)

-- the number of the last visible item, and the path of the first
abbrev shown_number : Bool → List PlainNode → Option ℕ
shown_number elided items = if elided then None else last_number (length items)

abbrev first_if : Bool → List PlainNode → Option (List ℕ)
first_if elided items = if elided then None else option_map (λ _. 0 ∷ []) (slice_get items 0)

-- where none is visible the first one isn't
none_first : (elided : Bool) (items : List PlainNode) → shown_number elided items ≡ None → first_if elided items ≡ None
none_first true items e = refl
none_first false [] e = refl
none_first false (item ∷ items) e =
    absurd
    (none-some (suc (length items) - 1)
    (sym e ∙ ap (λ b. if b then Some (suc (length items) - 1) else None) (lt-ltb 0 (suc (length items)) (omega arith))))

pub none_shown : (node : PlainNode) → ◌≡◌ {A = Option ℕ} None (if node.label.elided then None else last_number (length (nodes node.inner)))
    → first_inside node ≡ None
none_shown node e = none_first node.label.elided (nodes node.inner) (sym e)
