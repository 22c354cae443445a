-- The address that a place has in kept code is that which the node has for its point that is located in its slot. No
-- jump ends a step, each step of a node's own code ends at a place of its slot, and the slot stands but once.
use Rattle.std.proofs.Common.{◌≡◌, ℕ, suc, ◌+◌, ◌-◌, ◌≤◌, Bool, true, false, List, [], ◌∷◌, ◌++◌, length, map, sum, Option, Some, None, refl, ap, sym, ◌∙◌, append_assoc, arith}
use Rattle.std.specs.Prelude.{◌==◌, ◌&&◌, cond, flat_map, if◌then◌else◌, option_map}
use Rattle.std.specs.Cmp.{IsTotalOrder}
use Rattle.std.specs.FinMap.{find, get, get-from_entries}
use Rattle.std.specs.Option.{option_and_then, option_or, option_to_list}
use Rattle.std.specs.Ordering.{eq_by_cmp, is_eq, nat_cmp, ordering_then}
use Rattle.std.specs.declared.cmp.Ordering.{Ordering}
use Rattle.std.specs.declared.cmp.Ordering.TheVariants.{Less, Equal, Greater}
use Rattle.std.proofs.Math.Bool.{false≢true}
use Rattle.std.proofs.lemmas.Bool.{eqb-true, eq-eqb}
use Rattle.std.proofs.lemmas.Cmp.{nat_cmp_total, on_total, then_total}
use Rattle.plcs_base.specs.declared.place.Place.{Place}
use Rattle.plcs_grammar.specs.declared.node_kind.NodeKind.{NodeKind}
use Rattle.plcs_grammar.specs.declared.template.Template.{Template}
use Rattle.template_tree.specs.Positions.Place.{PlainPlace, passes_in, place_at}
use Rattle.plcs_code.specs.declared.node_span.NodeSpan.{NodeSpan}
use Rattle.plcs_code.specs.Gen.{address_by_place, addresses_in, codes_around, codes_joined, is_call, node_address, place_cmp}
use Rattle.plcs_code.specs.OwnCode.{EndInSlot, PlainOwnCode, jumps_beside}
use Rattle.plcs_code.specs.Pieces.{CodeJumps, count_pieces, enter_jump, first_length, iteration_jump, kind_jumps, other_lengths, template_jumps, test_back_jump, test_jump}
use Rattle.plcs_code.specs.PlainInstr.{PlainInstr, place_of}
use Rattle.code_patch.specs.SoundCode.{times_kept, OwnSteps, AreSound}
use Rattle.code_patch.specs.CodeForest.{CodeForest, kept_codes, kept_lengths, kept_spans, told_code}
use Rattle.code_patch.specs.Private.LocatedNode.{PlainLocated, located_among, own_address, passed_address, is_same_place, step_number}
use Rattle.code_patch.specs.Private.PlainCodeNode.{kept_length, kept_node_code, length_behind}
use Rattle.code_patch.proofs.FoundInstrs.{around_length, codes_length, node_code_length}
use Rattle.code_patch.proofs.KeptSpans.{number_ties}
use Rattle.code_patch.proofs.LocatedEntries.{among_located, found_append, here, inner_gap, inner_start, joined, located_else, located_here, located_node_span, made_both, none_located, one_if, one_located, or_none, rest_start}

-- ---- places that tie in their order

-- places are in one order
places_total : IsTotalOrder place_cmp
places_total = then_total (on_total (λ (at : Place). at.slot.0) nat_cmp_total) (on_total (λ (at : Place). at.point.0) nat_cmp_total)

-- a place ties with itself alone
place_ties : (q at : PlainPlace) → eq_by_cmp place_cmp (place_of q) (place_of at) ≡ is_same_place at q
place_ties q at =
    both (nat_cmp q.slot at.slot) (nat_cmp q.point at.point)
    ∙ (λ i. number_ties q.slot at.slot i && number_ties q.point at.point i)
  where
    both : (a b : Ordering) → is_eq (ordering_then a b) ≡ (is_eq a && is_eq b)
    both Less b = refl
    both Equal b = refl
    both Greater b = refl

-- a test of two numbers is the same the other way round
turned_test : (m n : ℕ) → (m == n) ≡ (n == m)
turned_test m n = by (m == n) (n == m) refl refl
  where
    by : (a b : Bool) → (m == n) ≡ a → (n == m) ≡ b → a ≡ b
    by true true e f = refl
    by true false e f = absurd (false≢true (sym f ∙ eq-eqb n m (sym (eqb-true m n e))))
    by false true e f = absurd (false≢true (sym e ∙ eq-eqb m n (sym (eqb-true n m f))))
    by false false e f = refl

-- a call doesn't pass a run on
call_stays : (kind : NodeKind) → is_call kind ≡ true → passes_in kind ≡ false
call_stays (NodeKind.Filled Template.Call) is = refl
call_stays other is = absurd (false≢true is)

-- ---- jumps, which end no step

-- it ends no step
abbrev Quiet : Option PlainInstr → Type 0
Quiet None = Unit {0}
Quiet (Some (PlainInstr.place at)) = ⊥
Quiet (Some other) = Unit {0}

record AreQuiet (jumps : CodeJumps) : Type 0 where
  ahead : Quiet jumps.ahead
  between : Quiet jumps.between
  back : Quiet jumps.back

quiet_test : (stopped : Bool) (ahead : ℕ) → Quiet (test_jump stopped ahead)
quiet_test true ahead = tt
quiet_test false ahead = tt

quiet_test_back : (stopped : Bool) (back : ℕ) → Quiet (test_back_jump stopped back)
quiet_test_back true back = tt
quiet_test_back false back = tt

quiet_enter : (slot : ℕ) (counter : Option (List ℕ)) (stopped : Bool) (ahead : ℕ) → Quiet (enter_jump slot counter stopped ahead)
quiet_enter slot counter true ahead = tt
quiet_enter slot None false ahead = tt
quiet_enter slot (Some name) false ahead = tt

quiet_iteration : (slot : ℕ) (counter : Option (List ℕ)) (stopped : Bool) (back : ℕ) → Quiet (iteration_jump slot counter stopped back)
quiet_iteration slot counter true back = tt
quiet_iteration slot None false back = tt
quiet_iteration slot (Some name) false back = tt

template_quiet : (slot : ℕ) (counter : Option (List ℕ)) (all one : Bool) (own first others : ℕ) (template : Template)
    → AreQuiet (template_jumps slot counter all one own first others template)
template_quiet slot counter all one own first others Template.If =
    record { ahead = quiet_test all (first + others); between = tt; back = tt }
template_quiet slot counter all one own first others Template.IfElse =
    record { ahead = quiet_test all (first + 1); between = tt; back = tt }
template_quiet slot counter all one own first others Template.While =
    record { ahead = quiet_test all (first + others + 1); between = tt; back = tt }
template_quiet slot counter all one own first others Template.For =
    record {
      ahead = quiet_enter slot counter all (first + others + 2);
      between = tt;
      back = quiet_iteration slot counter one (first + others + 2);
    }
template_quiet slot counter all one own first others Template.Until =
    record { ahead = tt; between = tt; back = quiet_test_back one (own + (first + others) + 1) }
template_quiet slot counter all one own first others other = record { ahead = tt; between = tt; back = tt }

kind_quiet : (slot : ℕ) (counter : Option (List ℕ)) (all one : Bool) (own first others : ℕ) (kind : NodeKind)
    → AreQuiet (kind_jumps slot counter all one own first others kind)
kind_quiet slot counter all one own first others (NodeKind.Filled template) =
    template_quiet slot counter all one own first others template
kind_quiet slot counter all one own first others other = record { ahead = tt; between = tt; back = tt }

-- the jumps of own code
jumps_quiet : (own : PlainOwnCode) (lengths : List ℕ) → AreQuiet (jumps_beside own lengths)
jumps_quiet own lengths =
    kind_quiet own.slot own.counter own.all_stopped own.one_stopped (count_pieces own.pieces) (first_length lengths) (other_lengths lengths) own.kind

-- ---- steps in code

-- the addresses of joined code
addresses_append : (address : ℕ) (one other : List PlainInstr)
    → addresses_in address (one ++ other) ≡ addresses_in address one ++ addresses_in (address + length one) other
addresses_append address [] other = ap (λ (n : ℕ). addresses_in n other) (omega arith)
addresses_append address (instr ∷ one) other =
    let next : address + 1 + length one ≡ address + length (instr ∷ one) = omega arith in
    ap (λ es. address_by_place address instr ++ es)
    (addresses_append (address + 1) one other ∙ ap (λ (n : ℕ). addresses_in (address + 1) one ++ addresses_in n other) next)
    ∙ sym (append_assoc (address_by_place address instr) (addresses_in (address + 1) one) (addresses_in (address + length (instr ∷ one)) other))

-- codes with nothing behind the first one are joined
around_nothing : (codes : List (List PlainInstr)) → codes_around [] codes ≡ codes_joined codes
around_nothing [] = refl
around_nothing (code ∷ codes) = refl

-- a number counted from the next address on
shifted : (address : ℕ) (number : Option ℕ) → option_map (λ k. address + 1 + k) number ≡ option_map (λ k. address + k) (option_map suc number)
shifted address None = refl
shifted address (Some k) = ap (λ (n : ℕ). Some n) (omega arith)

module _ (q : PlainPlace) where
  -- the address at which the step of the place ends, in code that begins at an address
  abbrev ended : (address : ℕ) → List PlainInstr → Option ℕ
  ended address instrs = find place_cmp (place_of q) (addresses_in address instrs)

  ended_append : (address : ℕ) (one other : List PlainInstr)
      → ended address (one ++ other) ≡ option_or (ended address one) (ended (address + length one) other)
  ended_append address one other =
      ap (find place_cmp (place_of q)) (addresses_append address one other)
      ∙ found_append place_cmp (place_of q) (addresses_in address one) (addresses_in (address + length one) other)

  -- it is that of the step's number
  ended_number : (address : ℕ) (instrs : List PlainInstr) → ended address instrs ≡ option_map (λ k. address + k) (step_number q instrs)
  ended_number address [] = refl
  ended_number address (PlainInstr.place at ∷ instrs) = by (is_same_place at q) (place_ties q at) (ended_number (address + 1) instrs)
    where
      by : (b : Bool) → eq_by_cmp place_cmp (place_of q) (place_of at) ≡ b
          → ended (address + 1) instrs ≡ option_map (λ k. address + 1 + k) (step_number q instrs)
          → ended address (PlainInstr.place at ∷ instrs)
          ≡ option_map (λ k. address + k) (if b then Some 0 else option_map suc (step_number q instrs))
      by true ties again =
          ap (λ (b : Bool). cond b (Some address) (ended (address + 1) instrs)) ties ∙ ap (λ (n : ℕ). Some n) (omega arith)
      by false ties again =
          ap (λ (b : Bool). cond b (Some address) (ended (address + 1) instrs)) ties ∙ again ∙ shifted address (step_number q instrs)
  ended_number address (other ∷ instrs) = ended_number (address + 1) instrs ∙ shifted address (step_number q instrs)

  -- where no step ends
  quiet_none : (address : ℕ) (jump : Option PlainInstr) → Quiet jump → ended address (option_to_list jump) ≡ None
  quiet_none address None quiet = refl
  quiet_none address (Some (PlainInstr.place at)) quiet = absurd quiet
  quiet_none address (Some other) quiet = refl

  -- a place of another slot doesn't tie
  apart : (at : PlainPlace) → (at.slot == q.slot) ≡ false → eq_by_cmp place_cmp (place_of q) (place_of at) ≡ false
  apart at other = place_ties q at ∙ ap (λ (b : Bool). b && (at.point == q.point)) other

  -- so it isn't where steps of another slot end
  others_none : (slot address : ℕ) (instrs : List PlainInstr) → EndInSlot slot instrs → (slot == q.slot) ≡ false → ended address instrs ≡ None
  others_none slot address [] steps other = refl
  others_none slot address (PlainInstr.place at ∷ instrs) steps other =
      ap (λ (b : Bool). cond b (Some address) (ended (address + 1) instrs))
      (apart at (ap (λ (n : ℕ). n == q.slot) steps.0 ∙ other))
      ∙ others_none slot (address + 1) instrs steps.1 other
  others_none slot address (instr ∷ instrs) steps other = others_none slot (address + 1) instrs steps other

  -- ---- steps in kept code

  -- the codes inside a node, with the jump behind the first
  abbrev inside_of : PlainOwnCode → CodeForest → List PlainInstr
  inside_of own inner = codes_around (option_to_list (jumps_beside own (kept_lengths inner)).between) (kept_codes inner)

  -- in the code of a node: in the piece before, in the codes inside, or in the piece behind
  node_ended : (address : ℕ) (own : PlainOwnCode) (spare : ℕ) (inner : CodeForest)
      → ended address (kept_node_code (here address own spare inner).node)
      ≡ option_or (ended address own.pieces.before)
      (option_or
      (ended (inner_start address own inner)
      (codes_around (option_to_list (jumps_beside own (kept_lengths inner)).between) (kept_codes inner)))
      (ended
      (inner_start address own inner
      + length (codes_around (option_to_list (jumps_beside own (kept_lengths inner)).between) (kept_codes inner)))
      own.pieces.behind))
  node_ended address own spare inner =
      let around = jumps_beside own (kept_lengths inner) in
      let quiet = jumps_quiet own (kept_lengths inner) in
      let ahead = option_to_list around.ahead in
      let back = option_to_list around.back in
      let inside = codes_around (option_to_list around.between) (kept_codes inner) in
      let from = inner_start address own inner in
      let before = own.pieces.before in
      let behind = own.pieces.behind in
      let last = ended_append (from + length inside) behind back
      ∙ ap (option_or (ended (from + length inside) behind)) (quiet_none (from + length inside + length behind) around.back quiet.back)
      ∙ or_none (ended (from + length inside) behind) in
      let within = ended_append from inside (behind ++ back) ∙ ap (option_or (ended from inside)) last in
      let jump = ended_append (address + length before) ahead (inside ++ (behind ++ back))
      ∙ ap (λ (o : Option ℕ). option_or o (ended from (inside ++ (behind ++ back)))) (quiet_none (address + length before) around.ahead quiet.ahead)
      ∙ within in
      ended_append address before (ahead ++ (inside ++ (behind ++ back))) ∙ ap (option_or (ended address before)) jump

  -- the address in a located node of the step that ends at the place
  abbrev own_steps : PlainLocated → Option ℕ
  own_steps found =
      option_or (option_map (λ k. found.start + k) (step_number (place_at found.node.own.slot q.point) found.node.own.pieces.before))
      (option_map (λ k. found.start + kept_length found.node - length_behind found.node + k)
      (step_number (place_at found.node.own.slot q.point) found.node.own.pieces.behind))

  -- in nodes in order: in the first of them, or in the others
  nodes_ended : (start : ℕ) (between : Option PlainInstr) (own : PlainOwnCode) (spare : ℕ) (inner rest : CodeForest) → Quiet between
      → ended start (codes_around (option_to_list between) (kept_codes (CodeForest.cons own spare inner rest)))
      ≡ option_or (ended start (kept_node_code (here start own spare inner).node))
      (ended (rest_start start (length (option_to_list between)) own inner) (codes_around (option_to_list None) (kept_codes rest)))
  nodes_ended start between own spare inner rest quiet =
      let node = (here start own spare inner).node in
      let code = kept_node_code node in
      let gap = option_to_list between in
      let others = codes_joined (kept_codes rest) in
      let at : start + length code + length gap ≡ rest_start start (length gap) own inner = omega (arith, node_code_length node) in
      ended_append start code (gap ++ others)
      ∙ ap (option_or (ended start code))
      (ended_append (start + length code) gap others
      ∙ ap (λ (o : Option ℕ). option_or o (ended (start + length code + length gap) others)) (quiet_none (start + length code) between quiet)
      ∙ (λ i. ended (at i) (sym (around_nothing (kept_codes rest)) i)))

  -- the address among nodes in order, by the pieces of the first of them
  abbrev whole_of : (start gap : ℕ) → PlainOwnCode → (inner rest : CodeForest) → Option ℕ
  whole_of start gap own inner rest =
      option_or
      (option_or (ended start own.pieces.before)
      (option_or (ended (inner_start start own inner) (inside_of own inner))
      (ended (inner_start start own inner + length (inside_of own inner)) own.pieces.behind)))
      (ended (rest_start start gap own inner) (codes_around (option_to_list None) (kept_codes rest)))

  ended_located : (start : ℕ) (between : Option PlainInstr) (nodes : CodeForest) → Quiet between → times_kept q.slot nodes ≤ 1
      → OwnSteps nodes
      → ended start (codes_around (option_to_list between) (kept_codes nodes))
      ≡ option_and_then own_steps (located_among q.slot start (length (option_to_list between)) nodes)
  ended_located start between CodeForest.nil quiet once steps = quiet_none start between quiet
  ended_located start between (CodeForest.cons own spare inner rest) quiet once steps =
      nodes_ended start between own spare inner rest quiet
      ∙ ap (λ (o : Option ℕ). option_or o (ended (rest_start start (length (option_to_list between)) own inner) (codes_around (option_to_list None) (kept_codes rest))))
      (node_ended start own spare inner)
      ∙ by (own.slot == q.slot) refl
      (ended_located (inner_start start own inner) (jumps_beside own (kept_lengths inner)).between inner
      (jumps_quiet own (kept_lengths inner)).between (omega (arith, once)) steps.2)
      (ended_located (rest_start start (length (option_to_list between)) own inner) None rest tt (omega (arith, once)) steps.3)
    where
      by : (b : Bool) → (own.slot == q.slot) ≡ b
          → ended (inner_start start own inner) (inside_of own inner) ≡ option_and_then own_steps (located_among q.slot (inner_start start own inner) (inner_gap own inner) inner)
          → ended (rest_start start (length (option_to_list between)) own inner) (codes_around (option_to_list None) (kept_codes rest))
          ≡ option_and_then own_steps (located_among q.slot (rest_start start (length (option_to_list between)) own inner) 0 rest)
          → whole_of start (length (option_to_list between)) own inner rest ≡ option_and_then own_steps (located_among q.slot start (length (option_to_list between)) (CodeForest.cons own spare inner rest))
      by true same within later =
          let one : one_if (own.slot == q.slot) ≡ 1 = ap one_if same in
          let node = (here start own spare inner).node in
          let no_inner = within ∙ ap (option_and_then own_steps) (none_located q.slot (inner_start start own inner) (inner_gap own inner) inner (omega (arith, once, one))) in
          let no_rest = later ∙ ap (option_and_then own_steps) (none_located q.slot (rest_start start (length (option_to_list between)) own inner) 0 rest (omega (arith, once, one))) in
          let its : q.slot ≡ own.slot = sym (eqb-true own.slot q.slot same) in
          let lengths : sum (map length (kept_codes inner)) ≡ sum (kept_lengths inner) = ap sum (codes_length inner) in
          let at : inner_start start own inner + length (inside_of own inner) ≡ start + kept_length node - length_behind node =
          omega (arith, around_length (option_to_list (jumps_beside own (kept_lengths inner)).between) (kept_codes inner), lengths) in
          ap (λ (o : Option ℕ). option_or (option_or (ended start own.pieces.before) (option_or (ended (inner_start start own inner) (inside_of own inner)) (ended (inner_start start own inner + length (inside_of own inner)) own.pieces.behind))) o) no_rest
          ∙ or_none (option_or (ended start own.pieces.before) (option_or (ended (inner_start start own inner) (inside_of own inner)) (ended (inner_start start own inner + length (inside_of own inner)) own.pieces.behind)))
          ∙ ap (λ (o : Option ℕ). option_or (ended start own.pieces.before) (option_or o (ended (inner_start start own inner + length (inside_of own inner)) own.pieces.behind))) no_inner
          ∙ (λ i. option_or (ended_number start own.pieces.before i) (ended_number (inner_start start own inner + length (inside_of own inner)) own.pieces.behind i))
          ∙ (λ i. option_or (option_map (λ k. start + k) (step_number (place_at (its i) q.point) own.pieces.before))
          (option_map (λ k. at i + k) (step_number (place_at (its i) q.point) own.pieces.behind)))
          ∙ sym (ap (option_and_then own_steps) (located_here q.slot start (length (option_to_list between)) own spare inner rest same))
      by false other within later =
          ap (λ (o : Option ℕ). option_or (option_or o (option_or (ended (inner_start start own inner) (inside_of own inner)) (ended (inner_start start own inner + length (inside_of own inner)) own.pieces.behind))) (ended (rest_start start (length (option_to_list between)) own inner) (codes_around (option_to_list None) (kept_codes rest))))
          (others_none own.slot start own.pieces.before steps.0 other)
          ∙ ap (λ (o : Option ℕ). option_or (option_or (ended (inner_start start own inner) (inside_of own inner)) o) (ended (rest_start start (length (option_to_list between)) own inner) (codes_around (option_to_list None) (kept_codes rest))))
          (others_none own.slot (inner_start start own inner + length (inside_of own inner)) own.pieces.behind steps.1 other)
          ∙ ap (λ (o : Option ℕ). option_or o (ended (rest_start start (length (option_to_list between)) own inner) (codes_around (option_to_list None) (kept_codes rest))))
          (or_none (ended (inner_start start own inner) (inside_of own inner)))
          ∙ (λ i. option_or (within i) (later i))
          ∙ joined own_steps (located_among q.slot (inner_start start own inner) (inner_gap own inner) inner) (located_among q.slot (rest_start start (length (option_to_list between)) own inner) 0 rest)
          (one_located q.slot start (length (option_to_list between)) own inner rest (omega (arith, once)))
          ∙ sym (ap (option_and_then own_steps) (located_else q.slot start (length (option_to_list between)) own spare inner rest other))

  -- ---- points at which no step ends

  -- the addresses of a node at which no step ends, by its kind
  abbrev entries_if : (passes call : Bool) → NodeSpan → List (Place × ℕ)
  entries_if passes call node =
      if passes then (place_of (place_at node.slot.0 0), node.start) ∷ []
      else (if call then (place_of (place_at node.slot.0 1), node.start + node.length) ∷ [] else [])

  -- what is found of them
  abbrev passed_if : (passes call : Bool) → PlainLocated → Option ℕ
  passed_if passes call found =
      if passes && (q.point == 0) then Some found.start
      else (if call && (q.point == 1) then Some (found.start + kept_length found.node) else None)

  own_passed : (found : PlainLocated) → (found.node.own.slot == q.slot) ≡ true
      → find place_cmp (place_of q) (node_address (located_node_span found)) ≡ passed_address found q.point
  own_passed found same = by (passes_in found.node.own.kind) (is_call found.node.own.kind) (call_stays found.node.own.kind)
    where
      tied : (p : ℕ) → eq_by_cmp place_cmp (place_of q) (place_of (place_at found.node.own.slot p)) ≡ (q.point == p)
      tied p = place_ties q (place_at found.node.own.slot p) ∙ ap (λ (b : Bool). b && (p == q.point)) same ∙ turned_test p q.point

      by : (passes call : Bool) → (call ≡ true → passes ≡ false)
          → find place_cmp (place_of q) (entries_if passes call (located_node_span found)) ≡ passed_if passes call found
      by true true stays = absurd (false≢true (sym (stays refl)))
      by true false stays = ap (λ (b : Bool). cond b (Some found.start) None) (tied 0)
      by false true stays = ap (λ (b : Bool). cond b (Some (found.start + kept_length found.node)) None) (tied 1)
      by false false stays = refl

  other_passed : (node : NodeSpan) → (node.slot.0 == q.slot) ≡ false → find place_cmp (place_of q) (node_address node) ≡ None
  other_passed node other = by (passes_in node.kind) (is_call node.kind)
    where
      by : (passes call : Bool) → find place_cmp (place_of q) (entries_if passes call node) ≡ None
      by true call = ap (λ (b : Bool). cond b (Some node.start) None) (apart (place_at node.slot.0 0) other)
      by false true = ap (λ (b : Bool). cond b (Some (node.start + node.length)) None) (apart (place_at node.slot.0 1) other)
      by false false = refl

  -- ---- the address of the place

  pub addresses_located : (nodes : CodeForest) → AreSound nodes
      → get (told_code nodes).addresses (place_of q)
      ≡ option_and_then (λ found. own_address found q.point) (located_among q.slot 0 0 nodes)
  addresses_located nodes sound =
      let passed = flat_map node_address (kept_spans 0 0 nodes) in
      let steps = addresses_in 0 (codes_joined (kept_codes nodes)) in
      let first = among_located place_cmp node_address (place_of q) q.slot (λ found. passed_address found q.point) own_passed other_passed 0 0 nodes (sound.once q.slot) in
      let second : ended 0 (codes_joined (kept_codes nodes)) ≡ option_and_then own_steps (located_among q.slot 0 0 nodes) =
      ap (ended 0) (sym (around_nothing (kept_codes nodes))) ∙ ended_located 0 None nodes tt (sound.once q.slot) sound.steps in
      get-from_entries places_total (passed ++ steps) (place_of q)
      ∙ found_append place_cmp (place_of q) passed steps
      ∙ (λ i. option_or (first i) (second i))
      ∙ made_both (λ found. passed_address found q.point) own_steps (located_among q.slot 0 0 nodes)
