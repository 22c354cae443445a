-- The node at a path, found by its slot: it is the one of the site of the slot, and main or a procedure where the path
-- has one number.
use Rattle.std.specs.Prelude.{◌≡◌, refl, ℕ, zero, suc, ◌+◌, ◌≤◌, ◌==◌, Bool, true, false, if◌then◌else◌, List, [], ◌∷◌, length, Option, Some, None, option_map}
use Rattle.std.specs.Option.{option_or}
use Rattle.std.proofs.Common.{ap, sym, ◌∙◌, arith}
use Rattle.std.proofs.Math.Bool.{false≢true}
use Rattle.std.proofs.lemmas.Bool.{eq-eqb}
use Rattle.std.proofs.lemmas.Option.{none-some, same_Some}
use Rattle.plcs_grammar.specs.Template.{row_of}
use Rattle.template_tree.specs.Checks.Environment.{procedure_at}
use Rattle.template_tree.specs.Positions.Path.{node_at, slot_at}
use Rattle.template_tree.specs.Positions.Place.{PlainPlace, Site, begin, end_at, in_turn, inner_end, place_at, site, site_among}
use Rattle.template_tree.specs.Programs.PlainTree.{Forest, Label, PlainNode}
use Rattle.template_tree.specs.Programs.Slots.{times}

abbrev pub label_there : Site → Label
label_there found = found.label

abbrev one_if : Bool → ℕ
one_if same = if same then 1 else 0

-- ---- a slot that isn't live

none_level : (same : Bool) (one : Site) (within behind : Option Site) (m n : ℕ) → one_if same + (m + n) ≡ 0
    → (m ≡ 0 → within ≡ None) → (n ≡ 0 → behind ≡ None) → (if same then Some one else option_or within behind) ≡ None
none_level true one within behind m n none inside later = absurd (omega (arith, none))
none_level false one within behind m n none inside later =
    ap (λ (w : Option Site). option_or w behind) (inside (omega (arith, none))) ∙ later (omega (arith, none))

pub no_site : (slot : ℕ) (turn : Bool) (items : Forest) (behind : PlainPlace) → times slot items ≡ 0 → site_among slot turn items behind ≡ None
no_site slot turn Forest.nil behind none = refl
no_site slot turn (Forest.cons label inner rest) behind none =
    let after : PlainPlace = if turn then begin rest behind else behind in
    let inner_turn : Bool = in_turn (row_of label.kind).sections in
    none_level (label.slot == slot) (record { label = label; inner = inner; after = after })
    (site_among slot inner_turn inner (end_at label.slot (inner_end label.kind) after)) (site_among slot turn rest behind)
    (times slot inner) (times slot rest) none
    (no_site slot inner_turn inner (end_at label.slot (inner_end label.kind) after)) (no_site slot turn rest behind)

gone_level : (same : Bool) (one : PlainNode) (behind : Option PlainNode) (m n : ℕ) → one_if same + (m + n) ≡ 0
    → (n ≡ 0 → behind ≡ None) → (if same then Some one else behind) ≡ None
gone_level true one behind m n none later = absurd (omega (arith, none))
gone_level false one behind m n none later = later (omega (arith, none))

pub no_procedure : (slot : ℕ) (items : Forest) → times slot items ≡ 0 → procedure_at items slot ≡ None
no_procedure slot Forest.nil none = refl
no_procedure slot (Forest.cons label inner rest) none =
    gone_level (label.slot == slot) (record { label = label; inner = inner }) (procedure_at rest slot) (times slot inner) (times slot rest) none
    (no_procedure slot rest)

-- ---- the site of a slot at a path

own_level : (same : Bool) (one : Site) (within behind : Option Site) → same ≡ true
    → option_map label_there (if same then Some one else option_or within behind) ≡ Some one.label
own_level true one within behind is = refl
own_level false one within behind is = absurd (false≢true is)

inside_level : (same : Bool) (one : Site) (within behind : Option Site) (label : Label) (m n : ℕ) → one_if same + (m + n) ≤ 1 → 1 ≤ m
    → option_map label_there within ≡ Some label
    → option_map label_there (if same then Some one else option_or within behind) ≡ Some label
inside_level true one within behind label m n few some there = absurd (omega (arith, few, some))
inside_level false one None behind label m n few some there = absurd (none-some label there)
inside_level false one (Some found) behind label m n few some there = there

behind_level : (same : Bool) (one : Site) (within behind : Option Site) (label : Label) (m n : ℕ) → one_if same + (m + n) ≤ 1 → 1 ≤ n
    → (m ≡ 0 → within ≡ None) → option_map label_there behind ≡ Some label
    → option_map label_there (if same then Some one else option_or within behind) ≡ Some label
behind_level true one within behind label m n few some inside there = absurd (omega (arith, few, some))
behind_level false one within behind label m n few some inside there =
    ap (λ (w : Option Site). option_map label_there (option_or w behind)) (inside (omega (arith, few, some))) ∙ there

counted_own : (same : Bool) (m n : ℕ) → same ≡ true → 1 ≤ one_if same + (m + n)
counted_own true m n is = omega arith
counted_own false m n is = absurd (false≢true is)

counted_more : (same : Bool) (m n k : ℕ) → 1 ≤ k → k ≤ m + n → 1 ≤ one_if same + (m + n)
counted_more true m n k some few = omega arith
counted_more false m n k some few = omega (arith, some, few)

few_more : (same : Bool) (m n k : ℕ) → one_if same + (m + n) ≤ 1 → k ≤ m + n → k ≤ 1
few_more true m n k few less = omega (arith, few, less)
few_more false m n k few less = omega (arith, few, less)

-- a node at a path stands among the nodes
pub counts_there : (path : List ℕ) (items : Forest) (k : ℕ) (node : PlainNode) (slot : ℕ) → node_at items (k ∷ path) ≡ Some node
    → node.label.slot ≡ slot → 1 ≤ times slot items
counts_there path Forest.nil k node slot there is = absurd (none-some node there)
counts_there [] (Forest.cons label inner rest) zero node slot there is =
    counted_own (label.slot == slot) (times slot inner) (times slot rest)
    (eq-eqb label.slot slot (ap (λ (one : PlainNode). one.label.slot) (same_Some (record { label = label; inner = inner }) node there) ∙ is))
counts_there (j ∷ path) (Forest.cons label inner rest) zero node slot there is =
    counted_more (label.slot == slot) (times slot inner) (times slot rest) (times slot inner) (counts_there path inner j node slot there is) (omega arith)
counts_there path (Forest.cons label inner rest) (suc k) node slot there is =
    counted_more (label.slot == slot) (times slot inner) (times slot rest) (times slot rest) (counts_there path rest k node slot there is) (omega arith)

pub site_there : (path : List ℕ) (items : Forest) (k : ℕ) (node : PlainNode) (slot : ℕ) (turn : Bool) (behind : PlainPlace)
    → node_at items (k ∷ path) ≡ Some node → node.label.slot ≡ slot → times slot items ≤ 1
    → option_map label_there (site_among slot turn items behind) ≡ Some node.label
site_there path Forest.nil k node slot turn behind there is few = absurd (none-some node there)
site_there [] (Forest.cons label inner rest) zero node slot turn behind there is few =
    let after : PlainPlace = if turn then begin rest behind else behind in
    let same : record { label = label; inner = inner } ≡ node = same_Some (record { label = label; inner = inner }) node there in
    own_level (label.slot == slot) (record { label = label; inner = inner; after = after })
    (site_among slot (in_turn (row_of label.kind).sections) inner (end_at label.slot (inner_end label.kind) after))
    (site_among slot turn rest behind) (eq-eqb label.slot slot (ap (λ (one : PlainNode). one.label.slot) same ∙ is))
    ∙ ap (λ (one : PlainNode). Some one.label) same
site_there (j ∷ path) (Forest.cons label inner rest) zero node slot turn behind there is few =
    let after : PlainPlace = if turn then begin rest behind else behind in
    let inner_turn : Bool = in_turn (row_of label.kind).sections in
    inside_level (label.slot == slot) (record { label = label; inner = inner; after = after })
    (site_among slot inner_turn inner (end_at label.slot (inner_end label.kind) after)) (site_among slot turn rest behind) node.label
    (times slot inner) (times slot rest) few (counts_there path inner j node slot there is)
    (site_there path inner j node slot inner_turn (end_at label.slot (inner_end label.kind) after) there is
    (few_more (label.slot == slot) (times slot inner) (times slot rest) (times slot inner) few (omega arith)))
site_there path (Forest.cons label inner rest) (suc k) node slot turn behind there is few =
    let after : PlainPlace = if turn then begin rest behind else behind in
    let inner_turn : Bool = in_turn (row_of label.kind).sections in
    behind_level (label.slot == slot) (record { label = label; inner = inner; after = after })
    (site_among slot inner_turn inner (end_at label.slot (inner_end label.kind) after)) (site_among slot turn rest behind) node.label
    (times slot inner) (times slot rest) few (counts_there path rest k node slot there is)
    (no_site slot inner_turn inner (end_at label.slot (inner_end label.kind) after))
    (site_there path rest k node slot turn behind there is
    (few_more (label.slot == slot) (times slot inner) (times slot rest) (times slot rest) few (omega arith)))

-- ---- main or a procedure at a path

first_level : (same : Bool) (one : PlainNode) (behind : Option PlainNode) → same ≡ true → (if same then Some one else behind) ≡ Some one
first_level true one behind is = refl
first_level false one behind is = absurd (false≢true is)

other_level : (same : Bool) (one : PlainNode) (behind found : Option PlainNode) (m n k : ℕ) → one_if same + (m + n) ≤ 1 → 1 ≤ k → k ≤ m + n
    → behind ≡ found → (if same then Some one else behind) ≡ found
other_level true one behind found m n k few some less is = absurd (omega (arith, few, some, less))
other_level false one behind found m n k few some less is = is

pub procedure_there : (items : Forest) (k : ℕ) (node : PlainNode) (slot : ℕ) → node_at items (k ∷ []) ≡ Some node → node.label.slot ≡ slot
    → times slot items ≤ 1 → procedure_at items slot ≡ Some node
procedure_there Forest.nil k node slot there is few = absurd (none-some node there)
procedure_there (Forest.cons label inner rest) zero node slot there is few =
    let same : record { label = label; inner = inner } ≡ node = same_Some (record { label = label; inner = inner }) node there in
    first_level (label.slot == slot) (record { label = label; inner = inner }) (procedure_at rest slot)
    (eq-eqb label.slot slot (ap (λ (one : PlainNode). one.label.slot) same ∙ is))
    ∙ ap (λ (one : PlainNode). Some one) same
procedure_there (Forest.cons label inner rest) (suc k) node slot there is few =
    other_level (label.slot == slot) (record { label = label; inner = inner }) (procedure_at rest slot) (Some node)
    (times slot inner) (times slot rest) (times slot rest) few (counts_there [] rest k node slot there is) (omega arith)
    (procedure_there rest k node slot there is
    (few_more (label.slot == slot) (times slot inner) (times slot rest) (times slot rest) few (omega arith)))

pub no_procedure_inside : (items : Forest) (k j : ℕ) (path : List ℕ) (node : PlainNode) (slot : ℕ) → node_at items (k ∷ (j ∷ path)) ≡ Some node
    → node.label.slot ≡ slot → times slot items ≤ 1 → procedure_at items slot ≡ None
no_procedure_inside Forest.nil k j path node slot there is few = absurd (none-some node there)
no_procedure_inside (Forest.cons label inner rest) zero j path node slot there is few =
    let some : 1 ≤ times slot inner = counts_there path inner j node slot there is in
    other_level (label.slot == slot) (record { label = label; inner = inner }) (procedure_at rest slot) None
    (times slot inner) (times slot rest) (times slot inner) few some (omega arith)
    (no_procedure slot rest (none_behind (label.slot == slot) (times slot inner) (times slot rest) few some))
  where
    none_behind : (same : Bool) (m n : ℕ) → one_if same + (m + n) ≤ 1 → 1 ≤ m → n ≡ 0
    none_behind true m n few some = absurd (omega (arith, few, some))
    none_behind false m n few some = omega (arith, few, some)
no_procedure_inside (Forest.cons label inner rest) (suc k) j path node slot there is few =
    other_level (label.slot == slot) (record { label = label; inner = inner }) (procedure_at rest slot) None
    (times slot inner) (times slot rest) (times slot rest) few (counts_there (j ∷ path) rest k node slot there is) (omega arith)
    (no_procedure_inside rest k j path node slot there is
    (few_more (label.slot == slot) (times slot inner) (times slot rest) (times slot rest) few (omega arith)))

-- ---- by what a slot of a path is told

-- the node at a path that isn't empty: where a slot is at the path, there is a node of the slot
pub node_of_slot : (items : Forest) (path : List ℕ) (slot : ℕ) → slot_at items path ≡ Some slot
    → (node : PlainNode) × (node_at items path ≡ Some node) × (node.label.slot ≡ slot)
node_of_slot items path slot told = by (node_at items path) refl told
  where
    by : (found : Option PlainNode) → node_at items path ≡ found → option_map (λ (node : PlainNode). node.label.slot) found ≡ Some slot
        → (node : PlainNode) × (node_at items path ≡ Some node) × (node.label.slot ≡ slot)
    by None is told = absurd (none-some slot told)
    by (Some node) is told = (node, is, same_Some node.label.slot slot told)

pub site_of_path : (items : Forest) (path : List ℕ) (slot : ℕ) → slot_at items path ≡ Some slot → times slot items ≤ 1
    → option_map (λ (node : PlainNode). node.label) (node_at items path) ≡ option_map label_there (site items slot)
site_of_path items [] slot told few = absurd (none-some slot told)
site_of_path items (k ∷ path) slot told few =
    let found = node_of_slot items (k ∷ path) slot told in
    ap (option_map (λ (node : PlainNode). node.label)) found.1
    ∙ sym (site_there path items k found.0 slot false (place_at 0 1) found.1 found.2 few)

pub procedure_of_path : (items : Forest) (path : List ℕ) (slot : ℕ) → slot_at items path ≡ Some slot → times slot items ≤ 1
    → length path ≡ 1 → node_at items path ≡ procedure_at items slot
procedure_of_path items [] slot told few one = absurd (none-some slot told)
procedure_of_path items (k ∷ []) slot told few one =
    let found = node_of_slot items (k ∷ []) slot told in
    found.1 ∙ sym (procedure_there items k found.0 slot found.1 found.2 few)
procedure_of_path items (k ∷ (j ∷ path)) slot told few one = absurd (omega (arith, one))

pub no_procedure_of_path : (items : Forest) (path : List ℕ) (slot : ℕ) → slot_at items path ≡ Some slot → times slot items ≤ 1
    → (length path ≡ 1 → ⊥) → procedure_at items slot ≡ None
no_procedure_of_path items [] slot told few other = absurd (none-some slot told)
no_procedure_of_path items (k ∷ []) slot told few other = absurd (other refl)
no_procedure_of_path items (k ∷ (j ∷ path)) slot told few other =
    let found = node_of_slot items (k ∷ (j ∷ path)) slot told in
    no_procedure_inside items k j path found.0 slot found.1 found.2 few

-- what is made of what is found, in two steps or in one
pub found_then : {A B C : Type 0} (f : A → B) (g : B → C) (result : Option A) {found : Option B} → option_map f result ≡ found
    → option_map (λ a. g (f a)) result ≡ option_map g found
found_then f g None is = ap (option_map g) is
found_then f g (Some a) is = ap (option_map g) is
