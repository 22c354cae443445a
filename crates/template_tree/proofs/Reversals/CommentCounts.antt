-- How often a comment stands in a slot, before an edit and after it.
use Rattle.std.specs.Prelude.{◌≡◌, refl, ℕ, zero, suc, ◌+◌, ◌<◌, ◌≤◌, ◌⊎◌, Bool, true, false, ◌&&◌, ◌==◌, if◌then◌else◌, List, [], ◌∷◌, Some}
use Rattle.std.proofs.Common.{ap, sym, ◌∙◌, subst, arith, inl, inr}
use Rattle.std.proofs.lemmas.Bool.{cases_lt, eq-eqb, eqb-true}
use Rattle.std.proofs.lemmas.Option.{none-some}
use Rattle.plcs_grammar.specs.declared.node_kind.NodeKind.{NodeKind}
use Rattle.template_tree.specs.declared.side.Side.{Side}
use Rattle.template_tree.specs.Edits.Edit.{edit_at}
use Rattle.template_tree.specs.Edits.Elision.{is_comment}
use Rattle.template_tree.specs.Edits.Hole.{lone}
use Rattle.template_tree.specs.Edits.Receipt.{with_beside}
use Rattle.template_tree.specs.Edits.Reversal.{comments}
use Rattle.template_tree.specs.Positions.Path.{node_at}
use Rattle.template_tree.specs.Programs.PlainTree.{Forest, PlainNode, forest, roomless}
use Rattle.template_tree.specs.Programs.Slots.{AllBelow, times, with_slots_from}
use Rattle.template_tree.proofs.Edits.SameEdits.{taken}
use Rattle.template_tree.proofs.Edits.SlotEdits.{present}
use Rattle.template_tree.proofs.Puts.PutTrees.{none_above}
use Rattle.template_tree.proofs.Trees.DrawnSlots.{none_before, once_numbered}

-- a comment stands in its slot
few_if : (comment same : Bool) → (if comment && same then 1 else 0) ≤ (if same then 1 else 0)
few_if true same = omega arith
few_if false same = omega arith

pub comments_few : (slot : ℕ) (items : Forest) → comments slot items ≤ times slot items
comments_few slot Forest.nil = omega arith
comments_few slot (Forest.cons label inner rest) =
    omega (arith, few_if (is_comment label.kind) (label.slot == slot), comments_few slot inner, comments_few slot rest)

-- the room of lists makes no difference
pub comments_roomless : (slot : ℕ) (items : Forest) → comments slot (roomless items) ≡ comments slot items
comments_roomless slot Forest.nil = refl
comments_roomless slot (Forest.cons label inner rest) =
    λ i. (if is_comment label.kind && label.slot == slot then 1 else 0) + (comments_roomless slot inner i + comments_roomless slot rest i)

-- a node came in place of another
pub comments_replaced : (slot : ℕ) (items : Forest) (path : List ℕ) (old new : PlainNode) → node_at items path ≡ Some old
    → comments slot (edit_at (λ _. new ∷ []) path items) + comments slot (forest (old ∷ []))
    ≡ comments slot items + comments slot (forest (new ∷ []))
comments_replaced slot items [] old new e = absurd (none-some old e)
comments_replaced slot Forest.nil (k ∷ path) old new e = absurd (none-some old e)
comments_replaced slot (Forest.cons label inner rest) (zero ∷ []) old new e =
    let same : record { label = label; inner = inner } ≡ old = ap (taken old) e in
    omega (arith, ap (λ (n : PlainNode). comments slot (forest (n ∷ []))) same)
comments_replaced slot (Forest.cons label inner rest) (zero ∷ (j ∷ path)) old new e =
    omega (arith, comments_replaced slot inner (j ∷ path) old new e)
comments_replaced slot (Forest.cons label inner rest) (suc k ∷ path) old new e =
    omega (arith, comments_replaced slot rest (k ∷ path) old new e)

-- an item left
pub comments_left : (slot : ℕ) (items : Forest) (path : List ℕ) (old : PlainNode) → node_at items path ≡ Some old
    → comments slot (edit_at (λ _. []) path items) + comments slot (forest (old ∷ [])) ≡ comments slot items
comments_left slot items [] old e = absurd (none-some old e)
comments_left slot Forest.nil (k ∷ path) old e = absurd (none-some old e)
comments_left slot (Forest.cons label inner rest) (zero ∷ []) old e =
    let same : record { label = label; inner = inner } ≡ old = ap (taken old) e in
    omega (arith, ap (λ (n : PlainNode). comments slot (forest (n ∷ []))) same)
comments_left slot (Forest.cons label inner rest) (zero ∷ (j ∷ path)) old e =
    omega (arith, comments_left slot inner (j ∷ path) old e)
comments_left slot (Forest.cons label inner rest) (suc k ∷ path) old e =
    omega (arith, comments_left slot rest (k ∷ path) old e)

-- an item came beside another
pub comments_beside : (slot : ℕ) (side : Side) (item : PlainNode) (items : Forest) (path : List ℕ) (old : PlainNode) → node_at items path ≡ Some old
    → comments slot (edit_at (with_beside side item) path items) ≡ comments slot items + comments slot (forest (item ∷ []))
comments_beside slot side item items [] old e = absurd (none-some old e)
comments_beside slot side item Forest.nil (k ∷ path) old e = absurd (none-some old e)
comments_beside slot Side.Before item (Forest.cons label inner rest) (zero ∷ []) old e = omega arith
comments_beside slot Side.After item (Forest.cons label inner rest) (zero ∷ []) old e = omega arith
comments_beside slot side item (Forest.cons label inner rest) (zero ∷ (j ∷ path)) old e =
    omega (arith, comments_beside slot side item inner (j ∷ path) old e)
comments_beside slot side item (Forest.cons label inner rest) (suc k ∷ path) old e =
    omega (arith, comments_beside slot side item rest (k ∷ path) old e)

-- ---- a slot that holds no comment

-- one where it is so
abbrev one_of : Bool → ℕ
one_of b = if b then 1 else 0

not_first : (one other : Bool) → one ≡ false → one_of (one && other) ≡ 0
not_first one other e = ap (λ b. one_of (b && other)) e

not_second : (one other : Bool) → other ≡ false → one_of (one && other) ≡ 0
not_second true other e = ap one_of e
not_second false other e = refl

is_one : (b : Bool) → b ≡ true → one_of b ≡ 1
is_one b e = ap one_of e

-- a hole is none
pub lone_none : (slot own : ℕ) (kind : NodeKind) → is_comment kind ≡ false → comments slot (forest (lone own kind ∷ [])) ≡ 0
lone_none slot own kind plain = ap (λ n. n + (0 + 0)) (not_first (is_comment kind) (own == slot) plain)

-- in the slot of another node stands no comment that isn't counted beside it
pub no_comment : (slot : ℕ) (items : Forest) (path : List ℕ) (old : PlainNode) → node_at items path ≡ Some old → old.label.slot ≡ slot
    → is_comment old.label.kind ≡ false → comments slot items + 1 ≤ times slot items
no_comment slot items [] old e is plain = absurd (none-some old e)
no_comment slot Forest.nil (k ∷ path) old e is plain = absurd (none-some old e)
no_comment slot (Forest.cons label inner rest) (zero ∷ []) old e is plain =
    let same : record { label = label; inner = inner } ≡ old = ap (taken old) e in
    let kind : is_comment label.kind ≡ false = ap (λ (n : PlainNode). is_comment n.label.kind) same ∙ plain in
    let own : (label.slot == slot) ≡ true = eq-eqb label.slot slot (ap (λ (n : PlainNode). n.label.slot) same ∙ is) in
    omega (
      arith,
      not_first (is_comment label.kind) (label.slot == slot) kind,
      is_one (label.slot == slot) own,
      comments_few slot inner,
      comments_few slot rest,
    )
no_comment slot (Forest.cons label inner rest) (zero ∷ (j ∷ path)) old e is plain =
    omega (
      arith,
      few_if (is_comment label.kind) (label.slot == slot),
      no_comment slot inner (j ∷ path) old e is plain,
      comments_few slot rest,
    )
no_comment slot (Forest.cons label inner rest) (suc k ∷ path) old e is plain =
    omega (
      arith,
      few_if (is_comment label.kind) (label.slot == slot),
      comments_few slot inner,
      no_comment slot rest (k ∷ path) old e is plain,
    )

-- ---- a node that comes into a slot

-- where not both nodes are comments, the slot has room for the one that comes
own_few : (comment other same : Bool) (held stands : ℕ) → (comment && other) ≡ false → held ≤ stands → stands ≤ 1
    → (same ≡ true → other ≡ false → held + 1 ≤ stands) → held + one_of (comment && same) ≤ 1
own_few true other true held stands apart few once room = omega (arith, once, room refl apart)
own_few true other false held stands apart few once room = omega (arith, few, once)
own_few false other same held stands apart few once room = omega (arith, few, once)

-- a slot in which nothing stands isn't that of a node that is there
elsewhere : (same : Bool) → (same ≡ true → ⊥) → same ≡ false
elsewhere true h = absurd (h refl)
elsewhere false h = refl

come_by : (slot drawn : ℕ) (items : Forest) (path : List ℕ) (old come : PlainNode) (inside : Forest) → node_at items path ≡ Some old
    → come.label.slot ≡ old.label.slot → come.inner ≡ with_slots_from drawn inside
    → (is_comment come.label.kind && is_comment old.label.kind) ≡ false → AllBelow drawn items → times slot items ≤ 1
    → (slot < drawn) ⊎ (drawn ≤ slot) → comments slot items + comments slot (forest (come ∷ [])) ≤ 1
come_by slot drawn items path old come inside e same inner_is apart below once (inl before) =
    let comment = is_comment come.label.kind in
    let own = come.label.slot == slot in
    let inner : comments slot come.inner ≤ times slot (with_slots_from drawn inside) =
    omega (arith, comments_few slot come.inner, ap (times slot) inner_is) in
    omega (
      arith,
      inner,
      none_before slot drawn inside before,
      own_few comment (is_comment old.label.kind) own (comments slot items) (times slot items) apart (comments_few slot items) once
          (λ is other. no_comment slot items path old e (sym same ∙ eqb-true come.label.slot slot is) other),
    )
come_by slot drawn items path old come inside e same inner_is apart below once (inr new) =
    let comment = is_comment come.label.kind in
    let own = come.label.slot == slot in
    let inner : comments slot come.inner ≤ times slot (with_slots_from drawn inside) =
    omega (arith, comments_few slot come.inner, ap (times slot) inner_is) in
    let none : times slot items ≡ 0 = none_above slot drawn items new below in
    let other : own ≡ false =
    elsewhere own
    (λ is.
    let stands : 1 ≤ times slot items =
    subst (λ s. 1 ≤ times s items) (sym same ∙ eqb-true come.label.slot slot is) (present items path old e) in
    omega (arith, none, stands))
    in
    omega (arith, inner, once_numbered slot drawn inside, none, comments_few slot items, not_second comment own other)

pub come_few : (slot drawn : ℕ) (items : Forest) (path : List ℕ) (old come : PlainNode) (inside : Forest) → node_at items path ≡ Some old
    → come.label.slot ≡ old.label.slot → come.inner ≡ with_slots_from drawn inside
    → (is_comment come.label.kind && is_comment old.label.kind) ≡ false → AllBelow drawn items → times slot items ≤ 1
    → comments slot items + comments slot (forest (come ∷ [])) ≤ 1
come_few slot drawn items path old come inside e same inner_is apart below once =
    come_by slot drawn items path old come inside e same inner_is apart below once (cases_lt slot drawn)
