-- The items that the entries of the map are, and one more of them.
use Rattle.std.proofs.Common.{◌≡◌, ℕ, zero, suc, ◌+◌, ◌-◌, ◌<◌, ◌≤◌, eq-eqb, ne_eqb, slice_get, Bool, true, false, cond, if◌then◌else◌, List, [], ◌∷◌, ◌++◌, is_some, Option, Some, None, option_map, Bor, refl, sym, ap, ◌∙◌, arith}
use Rattle.std.proofs.lemmas.Bool.Decides.{nat_tests}
use Rattle.std.proofs.lemmas.List.Sums.{sum_by-append, sum_by-cons}
use Rattle.std.proofs.lemmas.Slice.Eq.{bytes_eq-Decides}
use Rattle.std.specs.Map.{lookup}
use Rattle.indexmap.specs.IndexMap.{insert_entry}
use Rattle.std.specs.Option.{option_copied, option_or}
use Rattle.std.specs.Prelude.{◌==◌, bytes_eq, nat_lt, Result, Ok, Err, OnErr}
use Rattle.std.proofs.lemmas.Option.{none-some}
use Rattle.template_tree.specs.Checks.Marks.{declared_before}
use Rattle.template_tree.specs.Programs.PlainTree.{Forest, PlainNode, nodes}
use Rattle.template_tree.specs.Programs.Slots.{times}
use Rattle.decl_table.specs.ListOffences.{list_offences}
use Rattle.plcs_base.specs.declared.declared.Declared.{Declared}
use Rattle.plcs_base.specs.declared.mark.MarkKind.{MarkKind}
use Rattle.plcs_grammar.specs.declared.builtin.Builtin.{Builtin}
use Rattle.plcs_grammar.specs.Builtin.{builtin_of, is_builtin_name}
use Rattle.template_tree.specs.Checks.Environment.{cells, cells_of, declares, effective, item_named, item_offence, with_declared}
use Rattle.template_tree.specs.Programs.Limit.{most_cells}
use Rattle.template_tree.specs.Checks.Verdict.{declared_offence}
use Rattle.decl_table.specs.declared.items.Shape.{Shape}
use Rattle.decl_table.specs.Private.ItemsView.{items_of, shaped}

-- bytes that pass the test are the same
pub same_bytes : (xs ys : List ℕ) → bytes_eq xs ys ≡ true → xs ≡ ys
same_bytes xs ys same = (bytes_eq-Decides xs ys).0 same

-- ---- the items under a name and at a number

module _ (name : List ℕ) where
  pub named : (entries : List (List ℕ × Shape)) → item_named name (items_of entries) ≡ option_map (shaped name) (lookup (bytes_eq name) entries)
  named [] = refl
  named (entry ∷ entries) = by (bytes_eq name entry.0) refl (named entries)
    where
      by : (here : Bool) → bytes_eq name entry.0 ≡ here
          → item_named name (items_of entries) ≡ option_map (shaped name) (lookup (bytes_eq name) entries)
          → cond here (Some (shaped entry.0 entry.1)) (item_named name (items_of entries))
          ≡ option_map (shaped name) (cond here (Some entry.1) (lookup (bytes_eq name) entries))
      by true same rest = ap (λ n. Some (shaped n entry.1)) (sym (same_bytes name entry.0 same))
      by false same rest = rest

  -- so an item has the name where the map finds one
  pub has_told : (entries : List (List ℕ × Shape)) → is_some (lookup (bytes_eq name) entries) ≡ is_some (item_named name (items_of entries))
  has_told entries = mapped (lookup (bytes_eq name) entries) ∙ ap is_some (sym (named entries))
    where
      mapped : (o : Option Shape) → is_some o ≡ is_some (option_map (shaped name) o)
      mapped None = refl
      mapped (Some shape) = refl

  pub held_told : (entries : List (List ℕ × Shape)) (found : Option (Bor Shape)) (answer : Bool)
      → option_copied found ≡ lookup (bytes_eq name) entries → answer ≡ is_some found
      → is_some (item_named name (items_of entries)) ≡ answer
  held_told entries found answer is told =
      ap is_some (named entries ∙ ap (option_map (shaped name)) (sym is)) ∙ lent found ∙ sym told
    where
      lent : (o : Option (Bor Shape)) → is_some (option_map (shaped name) (option_copied o)) ≡ is_some o
      lent None = refl
      lent (Some shape) = refl

-- a name is reserved where a built-in function is found for its bytes
pub reserved_told : (name bytes : List ℕ) (found : Option Builtin) (answer : Bool)
    → bytes ≡ name → found ≡ builtin_of bytes → answer ≡ is_some found → is_builtin_name name ≡ answer
unfolding is_builtin_name
reserved_told name bytes found answer same is told = ap is_some (ap builtin_of (sym same) ∙ sym is) ∙ sym told

-- ---- why an item isn't effective

module _ (before : List Declared) (item : Declared) where
  pub is_reserved : is_builtin_name item.name ≡ true → Some MarkKind.Reserved ≡ item_offence before item
  is_reserved reserved = rw reserved refl

  pub is_duplicate : is_builtin_name item.name ≡ false → is_some (item_named item.name before) ≡ true
      → Some MarkKind.Duplicate ≡ item_offence before item
  is_duplicate free held = rw (free, held) refl

  pub is_too_large : is_builtin_name item.name ≡ false → is_some (item_named item.name before) ≡ false
      → nat_lt most_cells (cells before + cells_of item) ≡ true → Some MarkKind.TooManyCells ≡ item_offence before item
  is_too_large free new large = rw (free, new, large) refl

  pub is_fine : is_builtin_name item.name ≡ false → is_some (item_named item.name before) ≡ false
      → nat_lt most_cells (cells before + cells_of item) ≡ false → None ≡ item_offence before item
  is_fine free new small = rw (free, new, small) refl

  -- an item without an offence has a new name, and its cells fit
  pub has_no_offence : is_some (item_offence before item) ≡ false
      → (is_some (item_named item.name before) ≡ false) × (nat_lt most_cells (cells before + cells_of item) ≡ false)
  has_no_offence none = by (is_builtin_name item.name) (is_some (item_named item.name before)) (nat_lt most_cells (cells before + cells_of item)) none
    where
      by : (reserved held large : Bool)
          → is_some (if reserved then Some MarkKind.Reserved
          else (if held then Some MarkKind.Duplicate
          else (if large then Some MarkKind.TooManyCells else None))) ≡ false
          → (held ≡ false) × (large ≡ false)
      by true held large none = absurd (cc)
      by false true large none = absurd (cc)
      by false false true none = absurd (cc)
      by false false false none = (refl, refl)

  -- such an item comes last
  pub one_more : is_some (item_offence before item) ≡ false → with_declared before item ≡ before ++ (item ∷ [])
  one_more none = rw none refl

-- whether the cells are too many, where they are counted
pub large_told : (counted many : ℕ) (before : List Declared) (item : Declared) → counted ≡ cells before → many ≡ cells_of item
    → most_cells - counted < many → counted ≤ most_cells → nat_lt most_cells (cells before + cells_of item) ≡ true
large_told counted many before item count is large few = grind (arith, nat_tests)

pub small_told : (counted many : ℕ) (before : List Declared) (item : Declared) → counted ≡ cells before → many ≡ cells_of item
    → many ≤ most_cells - counted → counted ≤ most_cells → nat_lt most_cells (cells before + cells_of item) ≡ false
small_told counted many before item count is small few = grind (arith, nat_tests)

-- the cells of items and one more
pub cells_push : (before : List Declared) (item : Declared) → cells (before ++ (item ∷ [])) ≡ cells before + cells_of item
cells_push before item = omega (arith, sum_by-append cells_of before (item ∷ []), sum_by-cons cells_of item [])

-- an item with an offence isn't taken
pub refused : (before : List Declared) (item : Declared) (offence : MarkKind) → Some offence ≡ item_offence before item
    → before ≡ with_declared before item
refused before item offence is =
    ap (λ (o : Option MarkKind). if is_some o then before else before ++ (item ∷ [])) is

-- ---- item after item

or_joined : (a b c : Option MarkKind) → option_or (option_or a b) c ≡ option_or a (option_or b c)
or_joined None b c = refl
or_joined (Some x) b c = refl

pub or_none : (a : Option MarkKind) → option_or a None ≡ a
or_none None = refl
or_none (Some x) = refl

-- the first offence, with one more item taken
pub offence_turn : (first own now : Option MarkKind) (before new : List Declared) (item : Declared) (rest : List Declared)
    → now ≡ option_or first own → own ≡ item_offence before item → new ≡ with_declared before item
    → option_or now (declared_offence new rest) ≡ option_or first (declared_offence before (item ∷ rest))
offence_turn first own now before new item rest now_is own_is new_is =
    ap (λ n. option_or n (declared_offence new rest)) now_is
    ∙ or_joined first own (declared_offence new rest)
    ∙ ap (option_or first) (λ i. option_or (own_is i) (declared_offence (new_is i) rest))

pub effective_append : (before first rest : List Declared) → effective before (first ++ rest) ≡ effective (effective before first) rest
effective_append before [] rest = refl
effective_append before (item ∷ first) rest = effective_append (with_declared before item) first rest

-- the cells are within the limit still
pub few_told : (counted many : ℕ) (before : List Declared) (item : Declared) → counted ≡ cells before → many ≡ cells_of item
    → nat_lt most_cells (cells before + cells_of item) ≡ false → counted + many ≤ most_cells
few_told counted many before item count is small = grind (arith, nat_tests)

-- ---- the map with one more

-- what holds in any case holds where a call fails
pub on_err : {T E : Type 0} (r : Result T E) {P : Type 0} → P → OnErr r P
on_err (Ok x) holds = tt
on_err (Err e) holds = holds

-- the item under each name, where one was put under a name
pub put_named : (name : List ℕ) (shape : Shape) (entries new : List (List ℕ × Shape)) (key : List ℕ) → key ≡ name
    → ((other : List ℕ) → lookup (bytes_eq other) new ≡ cond (bytes_eq key other) (Some shape) (lookup (bytes_eq other) entries))
    → (other : List ℕ)
    → item_named other (items_of new) ≡ cond (bytes_eq name other) (Some (shaped name shape)) (item_named other (items_of entries))
put_named name shape entries new key same is other =
    named other new
    ∙ ap (option_map (shaped other)) (is other ∙ ap (λ k. cond (bytes_eq k other) (Some shape) (lookup (bytes_eq other) entries)) same)
    ∙ by (bytes_eq name other) refl
    ∙ ap (cond (bytes_eq name other) (Some (shaped name shape))) (sym (named other entries))
  where
    by : (here : Bool) → bytes_eq name other ≡ here
        → option_map (shaped other) (cond here (Some shape) (lookup (bytes_eq other) entries))
        ≡ cond here (Some (shaped name shape)) (option_map (shaped other) (lookup (bytes_eq other) entries))
    by true here = ap (λ n. Some (shaped n shape)) (sym (same_bytes name other here))
    by false here = refl

-- where no item has the name, what is inserted comes last
pub inserted : (name : List ℕ) (shape : Shape) (entries : List (List ℕ × Shape)) (key : List ℕ) (new : List (List ℕ × Shape))
    → key ≡ name → new ≡ insert_entry bytes_eq entries key shape → is_some (item_named name (items_of entries)) ≡ false
    → items_of new ≡ items_of entries ++ (shaped name shape ∷ [])
inserted name shape entries key new same is absent =
    ap items_of (is ∙ ap (λ n. insert_entry bytes_eq entries n shape) same) ∙ at_end entries (ap is_some (sym (named name entries)) ∙ absent)
  where
    at_end : (entries : List (List ℕ × Shape)) → is_some (option_map (shaped name) (lookup (bytes_eq name) entries)) ≡ false
        → items_of (insert_entry bytes_eq entries name shape) ≡ items_of entries ++ (shaped name shape ∷ [])
    at_end [] absent = refl
    at_end (entry ∷ entries) absent = by (bytes_eq name entry.0) absent (at_end entries)
      where
        by : (here : Bool) → is_some (option_map (shaped name) (cond here (Some entry.1) (lookup (bytes_eq name) entries))) ≡ false
            → (is_some (option_map (shaped name) (lookup (bytes_eq name) entries)) ≡ false
            → items_of (insert_entry bytes_eq entries name shape) ≡ items_of entries ++ (shaped name shape ∷ []))
            → items_of (if here then (entry.0, shape) ∷ entries else entry ∷ insert_entry bytes_eq entries name shape)
            ≡ shaped entry.0 entry.1 ∷ (items_of entries ++ (shaped name shape ∷ []))
        by true absent rest = absurd (cc)
        by false absent rest = ap (λ items. shaped entry.0 entry.1 ∷ items) (rest absent)

-- ---- the offences of declared lists

counted : (a b : ℕ) → a ≡ b → ◌≡◌ {A = ℕ} (if a == b then 1 else 0) 1
counted a b same = ap (λ (t : Bool). let n : ℕ = if t then 1 else 0 in n) (eq-eqb a b same)

abbrev taken : PlainNode → Option PlainNode → PlainNode
taken node None = node
taken node (Some there) = there

live : (items : Forest) (k : ℕ) (node : PlainNode) → slice_get (nodes items) k ≡ Some node → 1 ≤ times node.label.slot items
live Forest.nil k node there = absurd (none-some node there)
live (Forest.cons label inner rest) zero node there =
    let one = counted label.slot node.label.slot (ap (λ (n : PlainNode). n.label.slot) (ap (taken node) there)) in omega (arith, one)
live (Forest.cons label inner rest) (suc k) node there = let more = live rest k node there in omega (arith, more)

-- each is that of the list behind what is declared before it
pub offences_are : (before : List Declared) (inner : Forest) (k : ℕ) (node : PlainNode) → slice_get (nodes inner) k ≡ Some node
    → times node.label.slot inner ≤ 1
    → slice_get (list_offences before inner) k
    ≡ Some (declared_offence (effective before (declared_before inner node.label.slot)) (declares node.label))
offences_are before Forest.nil k node there once = absurd (none-some node there)
offences_are before (Forest.cons label inner rest) zero node there once =
    let same : record { label = label; inner = inner } ≡ node = ap (taken node) there in
    let own : label.slot ≡ node.label.slot = ap (λ (n : PlainNode). n.label.slot) same in
    ap (λ (n : PlainNode). Some (declared_offence before (declares n.label))) same
    ∙ sym
    (ap
    (λ (b : Bool).
    Some
    (declared_offence (effective before (if b then [] else declares label ++ declared_before rest node.label.slot)) (declares node.label)))
    (eq-eqb label.slot node.label.slot own))
offences_are before (Forest.cons label inner rest) (suc k) node there once =
    let more = live rest k node there in
    let apart : label.slot ≡ node.label.slot → ⊥ =
    λ same. let one = counted label.slot node.label.slot same in omega (arith, one, more, once) in
    offences_are (effective before (declares label)) rest k node there (omega (arith, once))
    ∙ ap (λ all. Some (declared_offence all (declares node.label)))
    (sym (effective_append before (declares label) (declared_before rest node.label.slot)))
    ∙ sym
    (ap
    (λ (b : Bool).
    Some
    (declared_offence (effective before (if b then [] else declares label ++ declared_before rest node.label.slot)) (declares node.label)))
    (ne_eqb label.slot node.label.slot apart))
