-- Slots drawn in listing order.
use Rattle.std.specs.Prelude.{◌≡◌, refl, ℕ, zero, suc, ◌+◌, ◌<◌, ◌≤◌, List, [], ◌∷◌, ◌++◌, length, drop, slice_get, slice_set, Some, None, ◌-◌, if◌then◌else◌, ◌==◌, Bool, true, false}
use Rattle.std.proofs.Common.{ap, sym, ◌∙◌, arith, add-one, subst, ◌⊎◌, inl, inr}
use Rattle.std.proofs.lemmas.Bool.{ne_eqb, cases_lt}
use Rattle.std.proofs.lemmas.Option.{none-some}
use Rattle.plcs_grammar.specs.declared.node_kind.Sort.{Sort}
use Rattle.plcs_grammar.specs.Template.{row_of, program_sections}
use Rattle.template_tree.specs.Programs.Build.{built_tree}
use Rattle.template_tree.specs.Programs.Limit.{deepest_path, most_slots}
use Rattle.template_tree.specs.Programs.Program.{sorts, sort_of, Fill, AreNodes, IsProgram}
use Rattle.template_tree.specs.Programs.Tree.{IsTree}
use Rattle.template_tree.specs.Programs.PlainTree.{Label, Forest, PlainNode, PlainNodes, nodes, forest, forest_nodes}
use Rattle.template_tree.specs.Programs.Slots.{count, depth, first_slot, times, AllBelow, with_slots_from}
use Rattle.template_tree.proofs.Edits.SameEdits.{taken}

-- a list whose nodes after so many have the slots from a number on
abbrev pub numbered_after : ℕ → ℕ → List PlainNode → List PlainNode
numbered_after zero next items = nodes (with_slots_from next (forest items))
numbered_after (suc k) next [] = []
numbered_after (suc k) next (item ∷ items) = item ∷ numbered_after k next items

-- a node with slots drawn from a number on
abbrev pub drawn : ℕ → PlainNode → PlainNode
drawn next node = record { label = record node.label { slot = next }; inner = with_slots_from (next + 1) node.inner }

-- one more item has its slots
pub one_more : (k next : ℕ) (items : List PlainNode) (node : PlainNode) → slice_get items k ≡ Some node
    → numbered_after (suc k) (next + 1 + count node.inner) (slice_set items k (drawn next node)) ≡ numbered_after k next items
one_more k next [] node e = absurd (none-some node e)
one_more zero next (item ∷ items) node e =
    let same : item ≡ node = ap (taken node) e in rw (sym same) refl
one_more (suc k) next (item ∷ items) node e = ap (λ rest. item ∷ rest) (one_more k next items node e)

-- and all have, where none is left
pub all_done : (k next : ℕ) (items : List PlainNode) → length items ≤ k → numbered_after k next items ≡ items
all_done zero next [] past = refl
all_done zero next (item ∷ items) past = absurd (omega arith)
all_done (suc k) next [] past = refl
all_done (suc k) next (item ∷ items) past = ap (λ rest. item ∷ rest) (all_done k next items (omega (arith, past)))

-- no item is left where none is found
pub past_none : (items : List PlainNode) (k : ℕ) → slice_get items k ≡ None → length items ≤ k
past_none [] k e = omega arith
past_none (item ∷ items) zero e = absurd (none-some item (sym e))
past_none (item ∷ items) (suc k) e = omega (arith, past_none items k e)

-- those left are fewer by the item and by those inside it
pub left_fewer : (k : ℕ) (items : List PlainNode) (node new : PlainNode) → slice_get items k ≡ Some node
    → count (forest (drop k items)) ≡ count node.inner + count (forest (drop (suc k) (slice_set items k new))) + 1
left_fewer k [] node new e = absurd (none-some node e)
left_fewer zero (item ∷ items) node new e =
    let same : item ≡ node = ap (taken node) e in rw (sym same) refl
left_fewer (suc k) (item ∷ items) node new e = left_fewer k items node new e

-- the same as a loop takes it: the node that was written is the one with its slots
pub step : (k next after : ℕ) (items : List PlainNode) (node new : PlainNode) → slice_get items k ≡ Some node
    → after ≡ next + 1 + count node.inner → new ≡ drawn next node
    → numbered_after (k + 1) after (slice_set items k new) ≡ numbered_after k next items
step k next after items node new e goes_on written = rw (add-one k, goes_on, written) (one_more k next items node e)

pub fewer : (k : ℕ) (items : List PlainNode) (node new : PlainNode) → slice_get items k ≡ Some node
    → count (forest (drop k items)) ≡ count node.inner + count (forest (drop (k + 1) (slice_set items k new))) + 1
fewer k items node new e = rw (add-one k) (left_fewer k items node new e)

-- a node whose slot was set and whose list was with_slots_from has its slots
pub written : (label : Label) (next : ℕ) (old new : PlainNodes)
    → new ≡ record old { items = nodes (with_slots_from (next + 1) (forest old.items)) }
    → record { label = record label { slot = next; spare = new.spare }; inner = forest new.items }
    ≡ drawn next record { label = record label { spare = old.spare }; inner = forest old.items }
written label next old new e =
    ap (λ (list : PlainNodes). let node : PlainNode = record { label = record label { slot = next; spare = list.spare }; inner = forest list.items } in node) e
    ∙ ap (λ inner. let node : PlainNode = record { label = record label { slot = next; spare = old.spare }; inner = inner } in node)
    (forest_nodes (with_slots_from (next + 1) (forest old.items)))

-- a list is told by its items and its room
pub list_is : (list : PlainNodes) (items : List PlainNode) (spare : ℕ) → list.items ≡ items → list.spare ≡ spare
    → list ≡ record { items = items; spare = spare }
list_is list items spare p q = λ i. record { items = p i; spare = q i }

-- numbering changes neither the number of nodes nor their depth
pub count_numbered : (first : ℕ) (items : Forest) → count (with_slots_from first items) ≡ count items
count_numbered first Forest.nil = refl
count_numbered first (Forest.cons label inner rest) =
    rw (count_numbered (first + 1) inner, count_numbered (first + 1 + count inner) rest) refl

pub depth_numbered : (first : ℕ) (items : Forest) → depth (with_slots_from first items) ≡ depth items
depth_numbered first Forest.nil = refl
depth_numbered first (Forest.cons label inner rest) =
    rw (depth_numbered (first + 1) inner, depth_numbered (first + 1 + count inner) rest) refl

-- nor their sorts, nor what they are
pub sorts_numbered : (first : ℕ) (items : Forest) → sorts (with_slots_from first items) ≡ sorts items
sorts_numbered first Forest.nil = refl
sorts_numbered first (Forest.cons label inner rest) = ap (λ ss. sort_of label.kind ∷ ss) (sorts_numbered (first + 1 + count inner) rest)

pub nodes_numbered : (first : ℕ) (items : Forest) → AreNodes items → AreNodes (with_slots_from first items)
nodes_numbered first Forest.nil h = h
nodes_numbered first (Forest.cons label inner rest) h = (
  record {
    parts = h.0.parts;
    inner = subst (λ ss. Fill (row_of label.kind).sections ss) (sym (sorts_numbered (first + 1) inner)) h.0.inner;
    elision = h.0.elision;
  },
  nodes_numbered (first + 1) inner h.1,
  nodes_numbered (first + 1 + count inner) rest h.2,
)

-- each slot is below the next number
pub below_numbered : (first bound : ℕ) (items : Forest) → first + count items ≤ bound → AllBelow bound (with_slots_from first items)
below_numbered first bound Forest.nil h = tt
below_numbered first bound (Forest.cons label inner rest) h = (
  omega (arith, h),
  below_numbered (first + 1) bound inner (omega (arith, h)),
  below_numbered (first + 1 + count inner) bound rest (omega (arith, h)),
)

-- one where two slots are the same
abbrev one_if : ℕ → ℕ → ℕ
one_if a b = if a == b then 1 else 0

other_slot : (a b : ℕ) → (a ≡ b → ⊥) → one_if a b ≡ 0
other_slot a b other = rw (ne_eqb a b other) refl

at_most : (same : Bool) → (if same then 1 else 0) ≤ 1
at_most true = omega arith
at_most false = omega arith

one_at_most : (a b : ℕ) → one_if a b ≤ 1
one_at_most a b = at_most (a == b)

-- no slot before the first number stands there
pub none_before : (slot first : ℕ) (items : Forest) → slot < first → times slot (with_slots_from first items) ≡ 0
none_before slot first Forest.nil h = refl
none_before slot first (Forest.cons label inner rest) h =
    omega (
      arith,
      other_slot first slot (λ same. omega (arith, h)),
      none_before slot (first + 1) inner (omega (arith, h)),
      none_before slot (first + 1 + count inner) rest (omega (arith, h)),
    )

-- nor one after the last
pub none_after : (slot first : ℕ) (items : Forest) → first + count items ≤ slot → times slot (with_slots_from first items) ≡ 0
none_after slot first Forest.nil h = refl
none_after slot first (Forest.cons label inner rest) h =
    omega (
      arith,
      other_slot first slot (λ same. omega (arith, h)),
      none_after slot (first + 1) inner (omega (arith, h)),
      none_after slot (first + 1 + count inner) rest (omega (arith, h)),
    )

-- a node's slot, those inside it and those after it are drawn one after the other: a slot is in one of the three
once_by_order : (slot first own others : ℕ) (times_inner times_rest : ℕ)
    → own ≤ 1 → (first < slot → own ≡ 0) → times_inner ≤ 1 → times_rest ≤ 1
    → (slot < first + 1 → times_inner ≡ 0) → (first + 1 + others ≤ slot → times_inner ≡ 0)
    → (slot < first + 1 + others → times_rest ≡ 0)
    → (slot < first + 1) ⊎ (first + 1 ≤ slot) → (slot < first + 1 + others) ⊎ (first + 1 + others ≤ slot)
    → own + (times_inner + times_rest) ≤ 1
once_by_order slot first own others i r one off i_one r_one i_before i_after r_before (inl here) side =
    omega (arith, one, i_before here, r_before (omega (arith, here)))
once_by_order slot first own others i r one off i_one r_one i_before i_after r_before (inr past) (inl inside) =
    omega (arith, off (omega (arith, past)), i_one, r_before inside)
once_by_order slot first own others i r one off i_one r_one i_before i_after r_before (inr past) (inr beside) =
    omega (arith, off (omega (arith, past)), i_after beside, r_one)

-- each stands there but once
pub once_numbered : (slot first : ℕ) (items : Forest) → times slot (with_slots_from first items) ≤ 1
once_numbered slot first Forest.nil = omega arith
once_numbered slot first (Forest.cons label inner rest) =
    once_by_order slot first (one_if first slot) (count inner) (times slot (with_slots_from (first + 1) inner))
    (times slot (with_slots_from (first + 1 + count inner) rest)) (one_at_most first slot)
    (λ past. other_slot first slot (λ same. omega (arith, past))) (once_numbered slot (first + 1) inner)
    (once_numbered slot (first + 1 + count inner) rest) (none_before slot (first + 1) inner) (none_after slot (first + 1) inner)
    (none_before slot (first + 1 + count inner) rest) (cases_lt slot (first + 1)) (cases_lt slot (first + 1 + count inner))

-- a program has a first node
not_empty : Fill program_sections [] → ⊥
not_empty h =
    let e : [] ≡ Sort.Main ∷ h.1 = h.2 ∙ ap (λ own. own ++ h.1) h.3 in cc

-- the first node of a program stands in the slot from which they are drawn
first_numbered : (first : ℕ) (items : Forest) → Fill program_sections (sorts items) → first_slot (with_slots_from first items) ≡ Some first
first_numbered first Forest.nil h = absurd (not_empty h)
first_numbered first (Forest.cons label inner rest) h = refl

-- the tree that is built from a program within the limits is a tree
pub built_is_tree : (list : PlainNodes) → IsProgram (forest list.items) → depth (forest list.items) ≤ deepest_path
    → count (forest list.items) ≤ most_slots → IsTree (built_tree list)
built_is_tree list program shallow few =
    let items = forest list.items in
    record {
      program =
          record {
            listed = subst (Fill program_sections) (sym (sorts_numbered 0 items)) program.listed;
            sound = nodes_numbered 0 items program.sound;
          };
      shallow = rw (depth_numbered 0 items) shallow;
      few = rw (count_numbered 0 items) few;
      drawn_few = omega (arith, few);
      drawn = below_numbered 0 (count items) items (omega arith);
      once = λ slot. once_numbered slot 0 items;
      main = first_numbered 0 items program.listed;
      live = sym (count_numbered 0 items);
    }

-- what is made of the with_slots_from list is that tree
pub built_is : (list new : PlainNodes) (read : List PlainNode) (left most : ℕ) → read ≡ list.items
    → left + count (forest read) ≡ most → new ≡ record list { items = nodes (with_slots_from 0 (forest list.items)) }
    → record { items = forest new.items; spare = new.spare; drawn = most - left; live = most - left } ≡ built_tree list
built_is list new read left most same sum e =
    let drawn_is : most - left ≡ count (forest list.items) = rw (← same) (omega (arith, sum)) in
    let items_are : forest new.items ≡ with_slots_from 0 (forest list.items) =
    ap (λ (l : PlainNodes). forest l.items) e ∙ forest_nodes (with_slots_from 0 (forest list.items))
    in
    let spare_is : new.spare ≡ list.spare = ap (λ (l : PlainNodes). l.spare) e in
    λ i. record { items = items_are i; spare = spare_is i; drawn = drawn_is i; live = drawn_is i }
