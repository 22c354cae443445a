-- What stands at the path of an edit after it.
use Rattle.std.specs.Prelude.{◌≡◌, refl, ℕ, zero, suc, ◌+◌, ◌≤◌, List, [], ◌∷◌, length, Some, option_map}
use Rattle.std.proofs.Common.{ap, sym, ◌∙◌, arith}
use Rattle.std.proofs.lemmas.Option.{none-some}
use Rattle.template_tree.specs.Programs.PlainTree.{Forest, PlainNode}
use Rattle.template_tree.specs.Positions.Path.{node_at}
use Rattle.template_tree.specs.Programs.Slots.{count, depth}
use Rattle.template_tree.specs.Edits.Edit.{edit_at}
use Rattle.template_tree.specs.Private.Exchange.{first_item}
use Rattle.template_tree.proofs.Edits.SameEdits.{taken}

-- a second edit of the node that came with the first is an edit of what was there
pub edit_twice : (change : PlainNode → List PlainNode) (new : PlainNode) (items : Forest) (path : List ℕ)
    → edit_at change path (edit_at (λ _. new ∷ []) path items) ≡ edit_at (λ _. change new) path items
edit_twice change new items [] = refl
edit_twice change new Forest.nil (k ∷ path) = refl
edit_twice change new (Forest.cons label inner rest) (zero ∷ []) = refl
edit_twice change new (Forest.cons label inner rest) (zero ∷ (j ∷ path)) =
    ap (λ inside. Forest.cons label inside rest) (edit_twice change new inner (j ∷ path))
edit_twice change new (Forest.cons label inner rest) (suc k ∷ path) =
    ap (Forest.cons label inner) (edit_twice change new rest (k ∷ path))

-- the node that is there in its own place changes nothing
pub edit_same : (node : PlainNode) (items : Forest) (path : List ℕ) → node_at items path ≡ Some node → edit_at (λ _. node ∷ []) path items ≡ items
edit_same node items [] e = refl
edit_same node Forest.nil (k ∷ path) e = refl
edit_same node (Forest.cons label inner rest) (zero ∷ []) e =
    let same : record { label = label; inner = inner } ≡ node = ap (taken node) e in
    ap (λ n. Forest.cons n.label n.inner rest) (sym same)
edit_same node (Forest.cons label inner rest) (zero ∷ (j ∷ path)) e =
    ap (λ inside. Forest.cons label inside rest) (edit_same node inner (j ∷ path) e)
edit_same node (Forest.cons label inner rest) (suc k ∷ path) e = ap (Forest.cons label inner) (edit_same node rest (k ∷ path) e)

-- so what was there comes back
pub edit_back : (old new : PlainNode) (items : Forest) (path : List ℕ) → node_at items path ≡ Some old
    → edit_at (λ _. old ∷ []) path (edit_at (λ _. new ∷ []) path items) ≡ items
edit_back old new items path e = edit_twice (λ _. old ∷ []) new items path ∙ edit_same old items path e

-- the node that came is there
pub node_there : (old new : PlainNode) (items : Forest) (path : List ℕ) → node_at items path ≡ Some old
    → node_at (edit_at (λ _. new ∷ []) path items) path ≡ Some new
node_there old new items [] e = absurd (none-some old e)
node_there old new Forest.nil (k ∷ path) e = absurd (none-some old e)
node_there old new (Forest.cons label inner rest) (zero ∷ []) e = refl
node_there old new (Forest.cons label inner rest) (zero ∷ (j ∷ path)) e = node_there old new inner (j ∷ path) e
node_there old new (Forest.cons label inner rest) (suc k ∷ path) e = node_there old new rest (k ∷ path) e

-- the first item on the way is in the slot in which it was
pub first_slot : (old new : PlainNode) (items : Forest) (path : List ℕ) → node_at items path ≡ Some old → new.label.slot ≡ old.label.slot
    → option_map (λ item. item.label.slot) (first_item (edit_at (λ _. new ∷ []) path items) path)
    ≡ option_map (λ item. item.label.slot) (first_item items path)
first_slot old new items [] e slot = absurd (none-some old e)
first_slot old new Forest.nil (k ∷ path) e slot = absurd (none-some old e)
first_slot old new (Forest.cons label inner rest) (zero ∷ []) e slot =
    let same : record { label = label; inner = inner } ≡ old = ap (taken old) e in
    ap Some (slot ∙ ap (λ n. n.label.slot) (sym same))
first_slot old new (Forest.cons label inner rest) (zero ∷ (j ∷ path)) e slot = refl
first_slot old new (Forest.cons label inner rest) (suc k ∷ path) e slot = first_slot old new rest (k ∷ path) e slot

-- how deep the nodes are after: as deep as those before, or as what came
pub deep_enough : (old new : PlainNode) (items : Forest) (path : List ℕ) → node_at items path ≡ Some old
    → length path + depth new.inner ≤ depth (edit_at (λ _. new ∷ []) path items)
deep_enough old new items [] e = absurd (none-some old e)
deep_enough old new Forest.nil (k ∷ path) e = absurd (none-some old e)
deep_enough old new (Forest.cons label inner rest) (zero ∷ []) e = omega arith
deep_enough old new (Forest.cons label inner rest) (zero ∷ (j ∷ path)) e = omega (arith, deep_enough old new inner (j ∷ path) e)
deep_enough old new (Forest.cons label inner rest) (suc k ∷ path) e = omega (arith, deep_enough old new rest (k ∷ path) e)

pub no_deeper : (most : ℕ) (old new : PlainNode) (items : Forest) (path : List ℕ) → node_at items path ≡ Some old → depth items ≤ most
    → length path + depth new.inner ≤ most → depth (edit_at (λ _. new ∷ []) path items) ≤ most
no_deeper most old new items [] e before come = before
no_deeper most old new Forest.nil (k ∷ path) e before come = before
no_deeper most old new (Forest.cons label inner rest) (zero ∷ []) e before come = omega (arith, before, come)
no_deeper zero old new (Forest.cons label inner rest) (zero ∷ (j ∷ path)) e before come = absurd (omega (arith, before))
no_deeper (suc most) old new (Forest.cons label inner rest) (zero ∷ (j ∷ path)) e before come =
    omega (arith, before, no_deeper most old new inner (j ∷ path) e (omega (arith, before)) (omega (arith, come)))
no_deeper most old new (Forest.cons label inner rest) (suc k ∷ path) e before come =
    omega (arith, before, no_deeper most old new rest (k ∷ path) e (omega (arith, before)) (omega (arith, come)))

-- how many nodes there are after, with those inside the node that went, and before, with those inside the one that came
pub count_after : (old new : PlainNode) (items : Forest) (path : List ℕ) → node_at items path ≡ Some old
    → count (edit_at (λ _. new ∷ []) path items) + count old.inner ≡ count items + count new.inner
count_after old new items [] e = absurd (none-some old e)
count_after old new Forest.nil (k ∷ path) e = absurd (none-some old e)
count_after old new (Forest.cons label inner rest) (zero ∷ []) e =
    let same : record { label = label; inner = inner } ≡ old = ap (taken old) e in
    let inside : count inner ≡ count old.inner = ap (λ n. count n.inner) same in
    omega (arith, inside)
count_after old new (Forest.cons label inner rest) (zero ∷ (j ∷ path)) e = omega (arith, count_after old new inner (j ∷ path) e)
count_after old new (Forest.cons label inner rest) (suc k ∷ path) e = omega (arith, count_after old new rest (k ∷ path) e)
