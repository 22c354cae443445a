-- What the nodes of kept code have in a map is what the node has that is located in the key's slot: the other nodes
-- have nothing there, and a slot stands but once.
use Rattle.std.proofs.Common.{◌≡◌, ℕ, zero, suc, ◌+◌, ◌≤◌, Bool, true, false, ◌⊎◌, inl, inr, List, [], ◌∷◌, ◌++◌, length, Option, Some, None, refl, ap, sym, ◌∙◌, append_assoc, arith}
use Rattle.std.specs.Prelude.{◌==◌, cond, flat_map, if◌then◌else◌}
use Rattle.std.specs.FinMap.{find}
use Rattle.std.specs.Option.{option_and_then, option_or, option_to_list}
use Rattle.std.specs.Ordering.{eq_by_cmp}
use Rattle.std.specs.declared.cmp.Ordering.{Ordering}
use Rattle.plcs_code.specs.declared.node_span.NodeSpan.{NodeSpan}
use Rattle.plcs_code.specs.OwnCode.{PlainOwnCode, jumps_beside}
use Rattle.code_patch.specs.SoundCode.{times_kept}
use Rattle.code_patch.specs.CodeForest.{CodeForest, count_around, kept_lengths, kept_spans}
use Rattle.code_patch.specs.Private.LocatedNode.{PlainLocated, located_among}
use Rattle.code_patch.specs.Private.PlainCodeNode.{kept_length}

-- ---- options

-- one where it is so, and else nothing
abbrev pub one_if : Bool → ℕ
one_if b = if b then 1 else 0

pub or_none : {X : Type 0} (o : Option X) → option_or o None ≡ o
or_none None = refl
or_none (Some x) = refl

-- what is made of the first of two options, of which one at most is there
pub joined : {A X : Type 0} (f : A → Option X) (one other : Option A) → (one ≡ None) ⊎ (other ≡ None)
    → option_or (option_and_then f one) (option_and_then f other) ≡ option_and_then f (option_or one other)
joined f one other (inl none) =
    ap (λ o. option_or (option_and_then f o) (option_and_then f other)) none ∙ sym (ap (λ o. option_and_then f (option_or o other)) none)
joined f one other (inr none) =
    ap (λ o. option_or (option_and_then f one) (option_and_then f o)) none ∙ or_none (option_and_then f one)
    ∙ sym (ap (λ o. option_and_then f (option_or one o)) none ∙ ap (option_and_then f) (or_none one))

-- two answers made of one option
pub made_both : {A X : Type 0} (f g : A → Option X) (o : Option A)
    → option_or (option_and_then f o) (option_and_then g o) ≡ option_and_then (λ a. option_or (f a) (g a)) o
made_both f g None = refl
made_both f g (Some a) = refl

-- ---- where nodes are located

-- where the codes inside a node begin, and how long the gap behind the first is
abbrev pub inner_start : (start : ℕ) → PlainOwnCode → CodeForest → ℕ
inner_start start own inner = start + length own.pieces.before + length (option_to_list (jumps_beside own (kept_lengths inner)).ahead)

abbrev pub inner_gap : PlainOwnCode → CodeForest → ℕ
inner_gap own inner = length (option_to_list (jumps_beside own (kept_lengths inner)).between)

-- where the code behind a node begins
abbrev pub rest_start : (start gap : ℕ) → PlainOwnCode → CodeForest → ℕ
rest_start start gap own inner = start + count_around own (kept_lengths inner) + gap

-- the node itself
abbrev pub here : (start : ℕ) → PlainOwnCode → (spare : ℕ) → CodeForest → PlainLocated
here start own spare inner = record { start = start; node = record { own = own; spare = spare; inner = inner } }

-- it is located where the slot is its own
pub located_here : (slot start gap : ℕ) (own : PlainOwnCode) (spare : ℕ) (inner rest : CodeForest) → (own.slot == slot) ≡ true
    → located_among slot start gap (CodeForest.cons own spare inner rest) ≡ Some (here start own spare inner)
located_here slot start gap own spare inner rest same =
    ap
    (λ (b : Bool).
    if b then Some (here start own spare inner)
    else
    option_or (located_among slot (inner_start start own inner) (inner_gap own inner) inner) (located_among slot (rest_start start gap own inner) 0 rest))
    same

-- and else what is located inside it, or behind it
pub located_else : (slot start gap : ℕ) (own : PlainOwnCode) (spare : ℕ) (inner rest : CodeForest) → (own.slot == slot) ≡ false
    → located_among slot start gap (CodeForest.cons own spare inner rest)
    ≡ option_or (located_among slot (inner_start start own inner) (inner_gap own inner) inner) (located_among slot (rest_start start gap own inner) 0 rest)
located_else slot start gap own spare inner rest other =
    ap
    (λ (b : Bool).
    if b then Some (here start own spare inner)
    else
    option_or (located_among slot (inner_start start own inner) (inner_gap own inner) inner) (located_among slot (rest_start start gap own inner) 0 rest))
    other

-- a slot that stands nowhere isn't located
pub none_located : (slot start gap : ℕ) (nodes : CodeForest) → times_kept slot nodes ≤ 0 → located_among slot start gap nodes ≡ None
none_located slot start gap CodeForest.nil none = refl
none_located slot start gap (CodeForest.cons own spare inner rest) none =
    by (own.slot == slot) refl
    (none_located slot (inner_start start own inner) (inner_gap own inner) inner (omega (arith, none)))
    (none_located slot (rest_start start gap own inner) 0 rest (omega (arith, none)))
  where
    by : (b : Bool) → (own.slot == slot) ≡ b → located_among slot (inner_start start own inner) (inner_gap own inner) inner ≡ None
        → located_among slot (rest_start start gap own inner) 0 rest ≡ None → located_among slot start gap (CodeForest.cons own spare inner rest) ≡ None
    by true same no_inner no_rest =
        let one : one_if (own.slot == slot) ≡ 1 = ap one_if same in
        absurd (omega (arith, none, one))
    by false other no_inner no_rest =
        located_else slot start gap own spare inner rest other
        ∙ ap (λ (o : Option PlainLocated). option_or o (located_among slot (rest_start start gap own inner) 0 rest)) no_inner ∙ no_rest

-- of two numbers that are one at most, one is nothing
pub none_of_two : (m n : ℕ) → m + n ≤ 1 → (m ≤ 0) ⊎ (n ≤ 0)
none_of_two zero n few = inl (omega arith)
none_of_two (suc m) n few = inr (omega (arith, few))

-- so where a slot stands but once, it is located inside a node or behind it, and not both
pub one_located : (slot start gap : ℕ) (own : PlainOwnCode) (inner rest : CodeForest) → times_kept slot inner + times_kept slot rest ≤ 1
    → (located_among slot (inner_start start own inner) (inner_gap own inner) inner ≡ None)
    ⊎ (located_among slot (rest_start start gap own inner) 0 rest ≡ None)
one_located slot start gap own inner rest few =
    elim (none_of_two (times_kept slot inner) (times_kept slot rest) few)
    as (λ _. (located_among slot (inner_start start own inner) (inner_gap own inner) inner ≡ None)
    ⊎ (located_among slot (rest_start start gap own inner) 0 rest ≡ None)) [
      | inl none ↦ inl (none_located slot (inner_start start own inner) (inner_gap own inner) inner none)
      | inr none ↦ inr (none_located slot (rest_start start gap own inner) 0 rest none)
    ]

-- ---- entries

-- what is found in two lists is found in the first, or else in the second
pub found_append : {K X : Type 0} (R : K → K → Ordering) (q : K) (one other : List (K × X))
    → find R q (one ++ other) ≡ option_or (find R q one) (find R q other)
found_append R q [] other = refl
found_append R q (e ∷ one) other = by (eq_by_cmp R q e.0) (found_append R q one other)
  where
    by : (b : Bool) → find R q (one ++ other) ≡ option_or (find R q one) (find R q other)
        → cond b (Some e.1) (find R q (one ++ other)) ≡ option_or (cond b (Some e.1) (find R q one)) (find R q other)
    by true again = refl
    by false again = again

-- the lists made of two lists
flat_append : {X Y : Type 0} (f : X → List Y) (one other : List X) → flat_map f (one ++ other) ≡ flat_map f one ++ flat_map f other
flat_append f [] other = refl
flat_append f (x ∷ one) other =
    ap (λ ys. f x ++ ys) (flat_append f one other) ∙ sym (append_assoc (f x) (flat_map f one) (flat_map f other))

-- the span of a located node
abbrev pub located_node_span : PlainLocated → NodeSpan
located_node_span found =
    record {
      slot = record { 0 = found.node.own.slot };
      kind = found.node.own.kind;
      start = found.start;
      length = kept_length found.node;
    }

module _ {K X : Type 0} (R : K → K → Ordering) (entries : NodeSpan → List (K × X)) (q : K) (slot : ℕ) (f : PlainLocated → Option X) (own_entries : (found : PlainLocated) → (found.node.own.slot == slot) ≡ true → find R q (entries (located_node_span found)) ≡ f found) (other_entries : (node : NodeSpan) → (node.slot.0 == slot) ≡ false → find R q (entries node) ≡ None) where
  -- what is found among the entries of nodes
  abbrev pub among : List NodeSpan → Option X
  among spans = find R q (flat_map entries spans)

  -- those of a node, of those inside it and of those behind it
  among_three : (node : NodeSpan) (within behind : List NodeSpan)
      → among (node ∷ (within ++ behind)) ≡ option_or (find R q (entries node)) (option_or (among within) (among behind))
  among_three node within behind =
      found_append R q (entries node) (flat_map entries (within ++ behind))
      ∙ ap (option_or (find R q (entries node)))
      (ap (find R q) (flat_append entries within behind) ∙ found_append R q (flat_map entries within) (flat_map entries behind))

  -- nothing is found of a slot that stands nowhere
  among_none : (start gap : ℕ) (nodes : CodeForest) → times_kept slot nodes ≤ 0 → among (kept_spans start gap nodes) ≡ None
  among_none start gap CodeForest.nil none = refl
  among_none start gap (CodeForest.cons own spare inner rest) none =
      by (own.slot == slot) refl
      (among_none (inner_start start own inner) (inner_gap own inner) inner (omega (arith, none)))
      (among_none (rest_start start gap own inner) 0 rest (omega (arith, none)))
    where
      by : (b : Bool) → (own.slot == slot) ≡ b → among (kept_spans (inner_start start own inner) (inner_gap own inner) inner) ≡ None
          → among (kept_spans (rest_start start gap own inner) 0 rest) ≡ None
          → among (kept_spans start gap (CodeForest.cons own spare inner rest)) ≡ None
      by true same no_inner no_rest =
          let one : one_if (own.slot == slot) ≡ 1 = ap one_if same in
          absurd (omega (arith, none, one))
      by false other no_inner no_rest =
          let node = located_node_span (here start own spare inner) in
          among_three node (kept_spans (inner_start start own inner) (inner_gap own inner) inner) (kept_spans (rest_start start gap own inner) 0 rest)
          ∙ ap
          (λ o.
          option_or o
          (option_or (among (kept_spans (inner_start start own inner) (inner_gap own inner) inner)) (among (kept_spans (rest_start start gap own inner) 0 rest))))
          (other_entries node other)
          ∙ ap (λ o. option_or o (among (kept_spans (rest_start start gap own inner) 0 rest))) no_inner ∙ no_rest

  -- what is found of a slot that stands but once is what the node has that is located in it
  pub among_located : (start gap : ℕ) (nodes : CodeForest) → times_kept slot nodes ≤ 1
      → among (kept_spans start gap nodes) ≡ option_and_then f (located_among slot start gap nodes)
  among_located start gap CodeForest.nil once = refl
  among_located start gap (CodeForest.cons own spare inner rest) once =
      by (own.slot == slot) refl
      (among_located (inner_start start own inner) (inner_gap own inner) inner (omega (arith, once)))
      (among_located (rest_start start gap own inner) 0 rest (omega (arith, once)))
    where
      by : (b : Bool) → (own.slot == slot) ≡ b
          → among (kept_spans (inner_start start own inner) (inner_gap own inner) inner)
          ≡ option_and_then f (located_among slot (inner_start start own inner) (inner_gap own inner) inner)
          → among (kept_spans (rest_start start gap own inner) 0 rest) ≡ option_and_then f (located_among slot (rest_start start gap own inner) 0 rest)
          → among (kept_spans start gap (CodeForest.cons own spare inner rest))
          ≡ option_and_then f (located_among slot start gap (CodeForest.cons own spare inner rest))
      by true same inside behind =
          let one : one_if (own.slot == slot) ≡ 1 = ap one_if same in
          let node = located_node_span (here start own spare inner) in
          let within = kept_spans (inner_start start own inner) (inner_gap own inner) inner in
          let after = kept_spans (rest_start start gap own inner) 0 rest in
          among_three node within after
          ∙ ap (λ o. option_or (find R q (entries node)) (option_or o (among after)))
          (among_none (inner_start start own inner) (inner_gap own inner) inner (omega (arith, once, one)))
          ∙ ap (λ o. option_or (find R q (entries node)) o) (among_none (rest_start start gap own inner) 0 rest (omega (arith, once, one)))
          ∙ or_none (find R q (entries node))
          ∙ own_entries (here start own spare inner) same
          ∙ sym (ap (option_and_then f) (located_here slot start gap own spare inner rest same))
      by false other inside behind =
          let node = located_node_span (here start own spare inner) in
          let within = kept_spans (inner_start start own inner) (inner_gap own inner) inner in
          let after = kept_spans (rest_start start gap own inner) 0 rest in
          among_three node within after
          ∙ ap (λ o. option_or o (option_or (among within) (among after))) (other_entries node other)
          ∙ (λ i. option_or (inside i) (behind i))
          ∙ joined f (located_among slot (inner_start start own inner) (inner_gap own inner) inner) (located_among slot (rest_start start gap own inner) 0 rest)
          (one_located slot start gap own inner rest (omega (arith, once)))
          ∙ sym (ap (option_and_then f) (located_else slot start gap own spare inner rest other))
