-- Comments of an earlier tree that take the elision that they have now.
use Rattle.std.specs.Prelude.{◌≡◌, refl, ℕ, ◌+◌, ◌≤◌, Bool, true, false, ◌&&◌, ◌==◌, if◌then◌else◌, Option, Some, None, unwrap_or}
use Rattle.std.specs.Option.{option_or}
use Rattle.std.proofs.Common.{ap, ◌∙◌, arith}
use Rattle.std.proofs.lemmas.Bool.{eq-eqb}
use Rattle.std.proofs.lemmas.Option.{none-some}
use Rattle.template_tree.specs.Edits.Elision.{is_comment}
use Rattle.template_tree.specs.Edits.Reversal.{comments, elided_now, elision_in, with_elision_of}
use Rattle.template_tree.specs.Programs.PlainTree.{Forest, Label, roomless}
use Rattle.template_tree.specs.Programs.Slots.{times}

-- a comment that stands in both is elided in both alike
abbrev pub ElidedAlike : Forest → Forest → Type 0
ElidedAlike one other =
    (slot : ℕ) (a b : Bool) → elision_in slot one ≡ Some a → elision_in slot other ≡ Some b → a ≡ b

-- ---- where a comment is found

-- what is found in a node, in those inside it or in those behind it
abbrev pub found_of : (is_comment same is_elided : Bool) (inner rest : Option Bool) → Option Bool
found_of is_comment same is_elided inner rest = if is_comment && same then Some is_elided else option_or inner rest

-- where something is found, the slot stands
stands_if : (comment same here : Bool) (inner rest : Option Bool) (inside behind : ℕ) (b : Bool)
    → found_of comment same here inner rest ≡ Some b → ((x : Bool) → inner ≡ Some x → 1 ≤ inside) → ((x : Bool) → rest ≡ Some x → 1 ≤ behind)
    → 1 ≤ (if same then 1 else 0) + (inside + behind)
stands_if true true here inner rest inside behind b e i r = omega arith
stands_if true false here (Some x) rest inside behind b e i r = omega (arith, i x refl)
stands_if true false here None rest inside behind b e i r = omega (arith, r b e)
stands_if false same here (Some x) rest inside behind b e i r = omega (arith, i x refl)
stands_if false same here None rest inside behind b e i r = omega (arith, r b e)

pub found_stands : (slot : ℕ) (items : Forest) (b : Bool) → elision_in slot items ≡ Some b → 1 ≤ times slot items
found_stands slot Forest.nil b e = absurd (none-some b e)
found_stands slot (Forest.cons label inner rest) b e =
    stands_if (is_comment label.kind) (label.slot == slot) label.elided (elision_in slot inner) (elision_in slot rest)
    (times slot inner) (times slot rest) b e (found_stands slot inner) (found_stands slot rest)

-- and a comment is counted
counted_if : (comment same here : Bool) (inner rest : Option Bool) (inside behind : ℕ) (b : Bool)
    → found_of comment same here inner rest ≡ Some b → ((x : Bool) → inner ≡ Some x → 1 ≤ inside) → ((x : Bool) → rest ≡ Some x → 1 ≤ behind)
    → 1 ≤ (if comment && same then 1 else 0) + (inside + behind)
counted_if true true here inner rest inside behind b e i r = omega arith
counted_if true false here (Some x) rest inside behind b e i r = omega (arith, i x refl)
counted_if true false here None rest inside behind b e i r = omega (arith, r b e)
counted_if false same here (Some x) rest inside behind b e i r = omega (arith, i x refl)
counted_if false same here None rest inside behind b e i r = omega (arith, r b e)

pub found_counts : (slot : ℕ) (items : Forest) (b : Bool) → elision_in slot items ≡ Some b → 1 ≤ comments slot items
found_counts slot Forest.nil b e = absurd (none-some b e)
found_counts slot (Forest.cons label inner rest) b e =
    counted_if (is_comment label.kind) (label.slot == slot) label.elided (elision_in slot inner) (elision_in slot rest)
    (comments slot inner) (comments slot rest) b e (found_counts slot inner) (found_counts slot rest)

not_found : (o : Option Bool) → ((b : Bool) → o ≡ Some b → ⊥) → o ≡ None
not_found None h = refl
not_found (Some b) h = absurd (h b refl)

-- where the slot doesn't stand, nothing is found
pub none_found : (slot : ℕ) (items : Forest) → times slot items ≡ 0 → elision_in slot items ≡ None
none_found slot items none = not_found (elision_in slot items) (λ b e. omega (arith, none, found_stands slot items b e))

-- a label of another slot than one that stands behind it
pub apart_if : (same : Bool) (n : ℕ) → (if same then 1 else 0) + n ≤ 1 → 1 ≤ n → same ≡ false
apart_if true n few some = absurd (omega arith)
apart_if false n few some = refl

-- what is found in the node itself
pub own_found : (comment same here : Bool) (inner rest : Option Bool) → comment ≡ true → same ≡ true → found_of comment same here inner rest ≡ Some here
own_found comment same here inner rest c s = λ i. found_of (c i) (s i) here inner rest

pub head_found : (label : Label) (inner rest : Forest) → is_comment label.kind ≡ true
    → elision_in label.slot (Forest.cons label inner rest) ≡ Some label.elided
head_found label inner rest c =
    own_found (is_comment label.kind) (label.slot == label.slot) label.elided (elision_in label.slot inner) (elision_in label.slot rest) c
    (eq-eqb label.slot label.slot refl)

-- what is found behind a node of another slot
others_found : (comment same here : Bool) (inner rest : Option Bool) → same ≡ false → found_of comment same here inner rest ≡ option_or inner rest
others_found true same here inner rest s = ap (λ x. found_of true x here inner rest) s
others_found false same here inner rest s = refl

pub inner_found : (slot : ℕ) (label : Label) (inner rest : Forest) (b : Bool) → times slot (Forest.cons label inner rest) ≤ 1
    → elision_in slot inner ≡ Some b → elision_in slot (Forest.cons label inner rest) ≡ Some b
inner_found slot label inner rest b once e =
    let stands : 1 ≤ times slot inner = found_stands slot inner b e in
    others_found (is_comment label.kind) (label.slot == slot) label.elided (elision_in slot inner) (elision_in slot rest)
    (apart_if (label.slot == slot) (times slot inner + times slot rest) once (omega (arith, stands)))
    ∙ ap (λ o. option_or o (elision_in slot rest)) e

pub rest_found : (slot : ℕ) (label : Label) (inner rest : Forest) (b : Bool) → times slot (Forest.cons label inner rest) ≤ 1
    → elision_in slot rest ≡ Some b → elision_in slot (Forest.cons label inner rest) ≡ Some b
rest_found slot label inner rest b once e =
    let stands : 1 ≤ times slot rest = found_stands slot rest b e in
    others_found (is_comment label.kind) (label.slot == slot) label.elided (elision_in slot inner) (elision_in slot rest)
    (apart_if (label.slot == slot) (times slot inner + times slot rest) once (omega (arith, stands)))
    ∙ (ap (λ o. option_or o (elision_in slot rest)) (none_found slot inner (omega (arith, once, stands))) ∙ e)

-- ---- the elision of now

-- a node keeps its elision where it is found as it is, if it is found
kept_if : (comment here : Bool) (found : Option Bool) → (comment ≡ true → (a : Bool) → found ≡ Some a → a ≡ here)
    → (if comment then unwrap_or found here else here) ≡ here
kept_if true here None h = refl
kept_if true here (Some a) h = h refl a refl
kept_if false here found h = refl

-- so do all nodes of which the comments are found as they are, if they are found
pub kept_as : (now items : Forest) → ((slot : ℕ) → times slot items ≤ 1)
    → ((slot : ℕ) (b a : Bool) → elision_in slot items ≡ Some b → elision_in slot now ≡ Some a → a ≡ b)
    → with_elision_of now items ≡ items
kept_as now Forest.nil once alike = refl
kept_as now (Forest.cons label inner rest) once alike =
    let own : elided_now now label ≡ label.elided =
    kept_if (is_comment label.kind) label.elided (elision_in label.slot now)
    (λ c a found. alike label.slot label.elided a (head_found label inner rest c) found) in
    let within : with_elision_of now inner ≡ inner =
    kept_as now inner (λ slot. omega (arith, once slot))
    (λ slot b a e found. alike slot b a (inner_found slot label inner rest b (once slot) e) found) in
    let behind : with_elision_of now rest ≡ rest =
    kept_as now rest (λ slot. omega (arith, once slot))
    (λ slot b a e found. alike slot b a (rest_found slot label inner rest b (once slot) e) found)
    in
    λ i. Forest.cons (record label { elided = own i }) (within i) (behind i)

-- so do nodes whose comments are elided alike
pub alike_kept : (now earlier : Forest) → ((slot : ℕ) → times slot earlier ≤ 1) → ElidedAlike now earlier → with_elision_of now earlier ≡ earlier
alike_kept now earlier once alike = kept_as now earlier once (λ slot b a e found. alike slot a b found e)

-- slots stay
pub times_same : (slot : ℕ) (now items : Forest) → times slot (with_elision_of now items) ≡ times slot items
times_same slot now Forest.nil = refl
times_same slot now (Forest.cons label inner rest) =
    λ i. (if label.slot == slot then 1 else 0) + (times_same slot now inner i + times_same slot now rest i)

-- the room of lists makes no difference
pub elision_roomless : (slot : ℕ) (items : Forest) → elision_in slot (roomless items) ≡ elision_in slot items
elision_roomless slot Forest.nil = refl
elision_roomless slot (Forest.cons label inner rest) =
    λ i.
    found_of (is_comment label.kind) (label.slot == slot) label.elided (elision_roomless slot inner i) (elision_roomless slot rest i)
