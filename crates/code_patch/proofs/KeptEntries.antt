-- The entry that a name has in kept code is that of the item whose number the name has: the two lists of names go in
-- step.
use Rattle.std.proofs.Common.{◌≡◌, ℕ, suc, ◌+◌, Bool, true, false, List, ◌∷◌, ◌++◌, sum, take, Option, Some, None, refl, ap, sym, subst, ◌∙◌, arith}
use Rattle.std.specs.Prelude.{cond, slice_get}
use Rattle.std.specs.FinMap.{find, get, get-from_entries}
use Rattle.std.specs.Ordering.{eq_by_cmp}
use Rattle.std.proofs.lemmas.Cmp.{nat_list_cmp_total}
use Rattle.std.proofs.lemmas.List.Sums.{sum_by-cons}
use Rattle.plcs_code.specs.declared.heading_entry.HeadingEntry.{HeadingEntry}
use Rattle.plcs_code.specs.Gen.{name_cmp}
use Rattle.plcs_code.specs.OwnCode.{PlainOwnCode}
use Rattle.code_patch.specs.ItemNames.{number_named, numbers_by_name, item_numbers}
use Rattle.code_patch.specs.CodeForest.{CodeForest, count_around, heading_named, kept_headings, kept_lengths, told_code, PlainCodeNode, code_nodes}

-- an entry of a slot at an address
abbrev pub entry_at : (slot address : ℕ) → HeadingEntry
entry_at slot address = record { address = address; slot = record { 0 = slot } }

-- the entry of the item of a node, where the first item begins at an address
abbrev pub entry_of : (start : ℕ) → CodeForest → (k : ℕ) → PlainCodeNode → HeadingEntry
entry_of start nodes k node = entry_at node.own.slot (start + sum (take k (kept_lengths nodes)))

-- an entry is that of the item of this number, where the first item has a number and begins at an address
abbrev pub IsEntry : (start number : ℕ) → CodeForest → Option HeadingEntry → Option ℕ → Type 0
IsEntry start number nodes entry None = entry ≡ None
IsEntry start number nodes entry (Some n) =
    (k : ℕ) × (n ≡ number + k) × (node : PlainCodeNode) × (slice_get (code_nodes nodes) k ≡ Some node) × (entry ≡ Some (entry_of start nodes k node))

-- so it is where an item comes before
entry_behind : (start number : ℕ) (own : PlainOwnCode) (spare : ℕ) (inner rest : CodeForest) (entry : Option HeadingEntry) (n : Option ℕ)
    → IsEntry (start + count_around own (kept_lengths inner)) (number + 1) rest entry n
    → IsEntry start number (CodeForest.cons own spare inner rest) entry n
entry_behind start number own spare inner rest entry None is = is
entry_behind start number own spare inner rest entry (Some n) (k, e, node, there, is) =
    let whole = count_around own (kept_lengths inner) in
    let at : start + whole + sum (take k (kept_lengths rest)) ≡ start + sum (take (suc k) (whole ∷ kept_lengths rest)) =
    omega (arith, sum_by-cons (λ (m : ℕ). m) whole (take k (kept_lengths rest))) in
    (suc k, omega (arith, e), node, there, is ∙ ap (λ (m : ℕ). Some (entry_at node.own.slot m)) at)

module _ (name : List ℕ) where
  -- the entry of the name, and its number, among items behind another one
  abbrev later : (start : ℕ) → PlainOwnCode → (inner rest : CodeForest) → Option HeadingEntry
  later start own inner rest = find name_cmp name (kept_headings (start + count_around own (kept_lengths inner)) rest)

  abbrev number_later : (number : ℕ) → CodeForest → Option ℕ
  number_later number rest = find name_cmp name (numbers_by_name (number + 1) rest)

  entries_found : (start number : ℕ) (nodes : CodeForest)
      → IsEntry start number nodes (find name_cmp name (kept_headings start nodes)) (find name_cmp name (numbers_by_name number nodes))
  entries_found start number CodeForest.nil = refl
  entries_found start number (CodeForest.cons own spare inner rest) =
      by own.name (entries_found (start + count_around own (kept_lengths inner)) (number + 1) rest)
    where
      tied : (b : Bool) → IsEntry (start + count_around own (kept_lengths inner)) (number + 1) rest (later start own inner rest) (number_later number rest)
          → IsEntry start number (CodeForest.cons own spare inner rest)
          (cond b (Some (entry_at own.slot start)) (later start own inner rest)) (cond b (Some number) (number_later number rest))
      tied true again =
          let node : PlainCodeNode = record { own = own; spare = spare; inner = inner } in
          let at : start ≡ start + sum (take 0 (kept_lengths (CodeForest.cons own spare inner rest))) = omega arith in
          (0, omega arith, node, refl, ap (λ (m : ℕ). Some (entry_at own.slot m)) at)
      tied false again = entry_behind start number own spare inner rest (later start own inner rest) (number_later number rest) again

      by : (o : Option (List ℕ)) → IsEntry (start + count_around own (kept_lengths inner)) (number + 1) rest (later start own inner rest) (number_later number rest)
          → IsEntry start number (CodeForest.cons own spare inner rest)
          (find name_cmp name (heading_named own.slot start o ++ kept_headings (start + count_around own (kept_lengths inner)) rest))
          (find name_cmp name (number_named number o ++ numbers_by_name (number + 1) rest))
      by None again = entry_behind start number own spare inner rest (later start own inner rest) (number_later number rest) again
      by (Some other) again = tied (eq_by_cmp name_cmp name other) again

  -- the entry of the name, by the number that it has among the items
  pub entry_numbered : (nodes : CodeForest) (n : Option ℕ) → n ≡ get (item_numbers nodes) name
      → IsEntry 0 0 nodes (get (told_code nodes).headings name) n
  entry_numbered nodes n is =
      let one = get-from_entries nat_list_cmp_total (kept_headings 0 nodes) name in
      let other = is ∙ get-from_entries nat_list_cmp_total (numbers_by_name 0 nodes) name in
      subst (λ (m : Option ℕ). IsEntry 0 0 nodes (get (told_code nodes).headings name) m) (sym other)
      (subst (λ (a : Option HeadingEntry). IsEntry 0 0 nodes a (find name_cmp name (numbers_by_name 0 nodes))) (sym one) (entries_found 0 0 nodes))
