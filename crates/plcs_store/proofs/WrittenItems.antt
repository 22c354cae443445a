-- Output only grows as items are written, so what doesn't fit doesn't fit with more behind it either.
use Rattle.std.specs.Prelude.{◌≡◌, refl, ℕ, suc, ◌+◌, ◌-◌, ◌<◌, ◌≤◌, ◌==◌, List, [], ◌∷◌, ◌++◌, length, drop, get_or, take, slice_get, Option, Some, unwrap_or, Result, Ok, Err, IsErr, IsOk, OnErr}
use Rattle.std.proofs.Common.{ap, sym, ◌∙◌, subst, arith}
use Rattle.std.proofs.lemmas.List.{at_drop_all, at_drop_more, length-append, take-take}
use Rattle.std.proofs.Math.Bool.{false≢true}
use Rattle.std.proofs.Math.Seq.{take-append_seam}
use Rattle.std.proofs.lemmas.Option.{none-some}
use Rattle.plcs_base.specs.declared.value.Value.{Value}
use Rattle.plcs_store.specs.OutputItem.{at_line_start, item_gap, value_bytes, with_item_written, with_items_written, with_line_ended}

-- an item makes the output no shorter
pub item_longer : (output : List ℕ) (value : Value) → length output ≤ length (with_item_written output value)
item_longer output value =
    omega (arith, length-append (output ++ item_gap output) (value_bytes value), length-append output (item_gap output))

-- neither do more items
pub items_longer : (output : List ℕ) (values : List Value) → length output ≤ length (with_items_written output values)
items_longer output [] = omega arith
items_longer output (value ∷ values) =
    omega (arith, item_longer output value, items_longer (with_item_written output value) values)

-- neither does a line end
pub line_longer : (output : List ℕ) → length output ≤ length (with_line_ended output)
line_longer [] = omega arith
line_longer (byte ∷ rest) = omega (arith, length-append (byte ∷ rest) (10 ∷ []))

-- the output before a line end is the front of the output behind it
pub line_front : (output : List ℕ) → take (length output) (with_line_ended output) ≡ output
line_front [] = refl
line_front (byte ∷ rest) = take-append_seam (byte ∷ rest) (10 ∷ [])

-- the front of the front
pub front_kept : (first second third : List ℕ) → length first ≤ length second → take (length first) second ≡ first
    → take (length second) third ≡ second → take (length first) third ≡ first
front_kept first second third longer front kept =
    sym (take-take (length first) (length second) third longer) ∙ ap (take (length first)) kept ∙ front

-- the output is at the start of a line where its last byte is a line end
pub last_byte : (output : List ℕ) (byte : ℕ) → slice_get output (length output - 1) ≡ Some byte → (byte == 10) ≡ at_line_start output
last_byte [] byte e = absurd (none-some byte e)
last_byte (one ∷ []) byte e = ap (λ (found : Option ℕ). unwrap_or found 10 == 10) (sym e)
last_byte (one ∷ (next ∷ rest)) byte e =
    let here : length (next ∷ rest) - 1 ≡ length rest = omega arith in
    let there : length (one ∷ (next ∷ rest)) - 1 ≡ suc (length rest) = omega arith in
    last_byte (next ∷ rest) byte (ap (slice_get (next ∷ rest)) here ∙ sym (ap (slice_get (one ∷ (next ∷ rest))) there) ∙ e)

-- ---- one item after the other

-- what is written of the items that are left begins with the next
pub next_written : (output : List ℕ) (items : List Value) (i : ℕ) (value : Value) → i < length items → value ≡ get_or items i value
    → with_items_written output (drop i items) ≡ with_items_written (with_item_written output value) (drop (i + 1) items)
next_written output items i value inside is =
    at_drop_more (with_items_written output) items i value inside
    ∙ ap (λ (next : Value). with_items_written output (next ∷ drop (i + 1) items)) (sym is)

-- where the next item doesn't fit, all of them don't
pub next_too_long : (output whole : List ℕ) (items : List Value) (i most : ℕ) (value : Value) → i < length items → value ≡ get_or items i value
    → with_items_written output (drop i items) ≡ whole → ¬ (length (with_item_written output value) ≤ most) → ¬ (length whole ≤ most)
next_too_long output whole items i most value inside is same long few =
    let longer : length (with_item_written output value) ≤ length whole =
    subst (λ (all : List ℕ). length (with_item_written output value) ≤ length all) (sym (next_written output items i value inside is) ∙ same)
    (items_longer (with_item_written output value) (drop (i + 1) items)) in
    long (omega (arith, longer, few))

-- where no item is left, all are written
pub last_written : (output whole : List ℕ) (items : List Value) (i : ℕ) → length items ≤ i
    → with_items_written output (drop i items) ≡ whole → output ≡ whole
last_written output whole items i past same = sym (at_drop_all (with_items_written output) items i past) ∙ same

-- ---- answers that are refusals

-- a refusal, where something doesn't hold
pub refuses : {T E : Type 0} (r : Result T E) (P : Type 0) → IsErr r → ¬ P → (IsOk r → P) × (P → IsOk r)
refuses (Ok x) P err none = absurd (false≢true err)
refuses (Err e) P err none = (λ ok. absurd (false≢true ok), λ holds. absurd (none holds))

-- what holds of a refusal, said otherwise
pub on_refusal : {T E : Type 0} (r : Result T E) (A B : Type 0) → (A → B) → OnErr r A → OnErr r B
on_refusal (Ok x) A B more h = h
on_refusal (Err e) A B more h = more h
