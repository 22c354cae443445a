-- The verdict that is kept at a place.
use Rattle.std.proofs.Common.{◌≡◌, ◌≢◌, ℕ, ◌+◌, ◌<◌, ◌≤◌, zero, suc, Bool, true, false, cond, List, [], ◌∷◌, ◌++◌, Option, Some, None, option_map, slice_get, refl, sym, ap, ◌∙◌, arith}
use Rattle.std.specs.Prelude.{◌&&◌, nat_eq, option_and_then}
use Rattle.std.specs.FinMap.{find, get, get-from_entries}
use Rattle.std.specs.Option.{option_or}
use Rattle.std.specs.Ordering.{eq_by_cmp}
use Rattle.std.proofs.lemmas.Bool.Decides.{nat_tests}
use Rattle.plcs_base.specs.Mark.{phrase_cmp}
use Rattle.plcs_base.specs.declared.mark.MarkKind.{MarkKind}
use Rattle.plcs_base.specs.declared.place.PhraseAt.{PhraseAt}
use Rattle.plcs_grammar.specs.PlainPhrase.{PlainPhrase}
use Rattle.plcs_base.specs.PlaceOrder.{place_ties, places_total}
use Rattle.template_tree.specs.Programs.Part.{part_at}
use Rattle.template_tree.specs.Checks.Marks.{VerdictList, Verdicts, node_verdicts, part_verdicts, procedure_verdicts, surroundings}
use Rattle.template_tree.specs.Checks.Mention.{phrase_at}
use Rattle.template_tree.specs.Positions.Path.{below, node_at}
use Rattle.template_tree.specs.Programs.PlainTree.{Forest, PlainNode, nodes}
use Rattle.template_tree.specs.Programs.Slots.{times}
use Rattle.template_tree.specs.Checks.Verdict.{Surroundings, verdict}
use Rattle.type_marks.proofs.LiveSlots.{slot_present}
use Rattle.type_marks.proofs.CalledProcedures.{one_if}

-- ---- lists of verdicts

-- what is found in two lists, one behind the other
pub find_both : (at : PhraseAt) (one other : VerdictList) → find phrase_cmp at (one ++ other) ≡ option_or (find phrase_cmp at one) (find phrase_cmp at other)
find_both at [] other = refl
find_both at (entry ∷ one) other = by (eq_by_cmp phrase_cmp at entry.0) (find_both at one other)
  where
    by : (here : Bool) → find phrase_cmp at (one ++ other) ≡ option_or (find phrase_cmp at one) (find phrase_cmp at other)
        → cond here (Some entry.1) (find phrase_cmp at (one ++ other)) ≡ option_or (cond here (Some entry.1) (find phrase_cmp at one)) (find phrase_cmp at other)
    by true is = refl
    by false is = is

differ : (m n : ℕ) → m ≢ n → nat_eq m n ≡ false
differ m n apart = by (nat_eq m n) refl
  where
    by : (b : Bool) → nat_eq m n ≡ b → nat_eq m n ≡ false
    by false is = is
    by true is = absurd (apart (grind (arith, nat_tests)))

itself : (n : ℕ) → nat_eq n n ≡ true
itself n = grind (arith, nat_tests)

-- a place is found only where slot and part are its own
ties : (at : PhraseAt) (slot part : ℕ) → eq_by_cmp phrase_cmp at (phrase_at slot part) ≡ (nat_eq at.slot.0 slot && nat_eq at.part part)
ties at slot part = sym (place_ties at (phrase_at slot part))

-- ---- the parts of a node

module _ (s : Surroundings) (at : PhraseAt) (slot : ℕ) where
  -- nothing is found in another slot
  pub other_slot : at.slot.0 ≢ slot → (part : ℕ) (parts : List (Option PlainPhrase)) → find phrase_cmp at (part_verdicts s slot part parts) ≡ None
  other_slot apart part [] = refl
  other_slot apart part (None ∷ parts) = other_slot apart (part + 1) parts
  other_slot apart part (Some phrase ∷ parts) =
      ap (λ b. cond b (Some (verdict s phrase)) (find phrase_cmp at (part_verdicts s slot (part + 1) parts)))
      (ties at slot part ∙ ap (λ b. b && nat_eq at.part part) (differ at.slot.0 slot apart))
      ∙ other_slot apart (part + 1) parts

  -- nothing is found before the first part
  later_parts : (part : ℕ) (parts : List (Option PlainPhrase)) → at.part < part → find phrase_cmp at (part_verdicts s slot part parts) ≡ None
  later_parts part [] before = refl
  later_parts part (None ∷ parts) before = later_parts (part + 1) parts (omega (arith, before))
  later_parts part (Some phrase ∷ parts) before =
      ap (λ b. cond b (Some (verdict s phrase)) (find phrase_cmp at (part_verdicts s slot (part + 1) parts)))
      (ties at slot part ∙ ap (λ b. nat_eq at.slot.0 slot && b) (differ at.part part (λ e. omega (arith, before, e))) ∙ none (nat_eq at.slot.0 slot))
      ∙ later_parts (part + 1) parts (omega (arith, before))
    where
      none : (b : Bool) → (b && false) ≡ false
      none true = refl
      none false = refl

  -- the verdict of the phrase in the part
  pub own_part : at.slot.0 ≡ slot → (part k : ℕ) (parts : List (Option PlainPhrase)) → at.part ≡ part + k
      → find phrase_cmp at (part_verdicts s slot part parts) ≡ option_map (verdict s) (part_at parts k)
  own_part own part k [] is = none k
    where
      none : (k : ℕ) → None ≡ option_map (verdict s) (part_at [] k)
      none zero = refl
      none (suc k) = refl
  own_part own part zero (None ∷ parts) is = later_parts (part + 1) parts (omega (arith, is))
  own_part own part zero (Some phrase ∷ parts) is =
      ap (λ b. cond b (Some (verdict s phrase)) (find phrase_cmp at (part_verdicts s slot (part + 1) parts)))
      (ties at slot part ∙ ap (λ n. nat_eq n slot && nat_eq at.part part) own ∙ ap (λ b. b && nat_eq at.part part) (itself slot) ∙ here)
    where
      here : nat_eq at.part part ≡ true
      here = let e : at.part ≡ part = omega (arith, is) in ap (λ n. nat_eq n part) e ∙ itself part
  own_part own part (suc k) (None ∷ parts) is = own_part own (part + 1) k parts (omega (arith, is))
  own_part own part (suc k) (Some phrase ∷ parts) is =
      ap (λ b. cond b (Some (verdict s phrase)) (find phrase_cmp at (part_verdicts s slot (part + 1) parts)))
      (ties at slot part ∙ ap (λ b. nat_eq at.slot.0 slot && b) (differ at.part part (λ e. omega (arith, is, e))) ∙ none (nat_eq at.slot.0 slot))
      ∙ own_part own (part + 1) k parts (omega (arith, is))
    where
      none : (b : Bool) → (b && false) ≡ false
      none true = refl
      none false = refl

-- ---- the nodes of a procedure

module _ (program : Forest) (procedure : PlainNode) (at : PhraseAt) where
  -- nothing is found where the slot doesn't stand
  pub nowhere : (inner : Forest) → times at.slot.0 inner ≡ 0 → find phrase_cmp at (node_verdicts program procedure inner) ≡ None
  nowhere Forest.nil absent = refl
  nowhere (Forest.cons label inner rest) absent =
      find_both at (part_verdicts (surroundings program procedure label.slot) label.slot 0 label.parts)
      (node_verdicts program procedure inner ++ node_verdicts program procedure rest)
      ∙ ap (λ o. option_or o (find phrase_cmp at (node_verdicts program procedure inner ++ node_verdicts program procedure rest)))
      (other_slot (surroundings program procedure label.slot) at label.slot (apart (nat_eq label.slot at.slot.0) refl) 0 label.parts)
      ∙ find_both at (node_verdicts program procedure inner) (node_verdicts program procedure rest)
      ∙ ap (λ o. option_or o (find phrase_cmp at (node_verdicts program procedure rest))) (nowhere inner (omega (arith, absent)))
      ∙ nowhere rest (omega (arith, absent))
    where
      apart : (b : Bool) → nat_eq label.slot at.slot.0 ≡ b → at.slot.0 ≢ label.slot
      apart true is e = let one : one_if (nat_eq label.slot at.slot.0) ≡ 1 = ap one_if is in omega (arith, one, absent)
      apart false is e = let yes : nat_eq label.slot at.slot.0 ≡ true = ap (nat_eq label.slot) e ∙ itself label.slot in absurd (cc)

  -- what the three parts of a list give
  three : (a b c : VerdictList) (x y z : Option (Option MarkKind)) → find phrase_cmp at a ≡ x → find phrase_cmp at b ≡ y → find phrase_cmp at c ≡ z
      → find phrase_cmp at (a ++ (b ++ c)) ≡ option_or x (option_or y z)
  three a b c x y z p q r =
      find_both at a (b ++ c) ∙ ap (λ o. option_or o (find phrase_cmp at (b ++ c))) p
      ∙ ap (option_or x) (find_both at b c ∙ ap (λ o. option_or o (find phrase_cmp at c)) q ∙ ap (option_or y) r)

  or_none : (x : Option (Option MarkKind)) → option_or x None ≡ x
  or_none None = refl
  or_none (Some v) = refl

  -- the verdict at a node
  pub along : (inner : Forest) (path : List ℕ) (node : PlainNode) → node_at inner path ≡ Some node → node.label.slot ≡ at.slot.0
      → times at.slot.0 inner ≤ 1
      → find phrase_cmp at (node_verdicts program procedure inner) ≡ option_map (verdict (surroundings program procedure at.slot.0)) (part_at node.label.parts at.part)
  along inner [] node there own once = absurd (cc)
  along Forest.nil (zero ∷ path) node there own once = absurd (cc)
  along Forest.nil (suc k ∷ path) node there own once = absurd (cc)
  along (Forest.cons label inner rest) (zero ∷ []) node there own once =
      let same : record { label = label; inner = inner } ≡ node = cc in
      let here : label.slot ≡ at.slot.0 = ap (λ (n : PlainNode). n.label.slot) same ∙ own in
      let one : one_if (nat_eq label.slot at.slot.0) ≡ 1 = ap (λ n. one_if (nat_eq n at.slot.0)) here ∙ ap one_if (itself at.slot.0) in
      three (part_verdicts (surroundings program procedure label.slot) label.slot 0 label.parts) (node_verdicts program procedure inner) (node_verdicts program procedure rest)
      (option_map (verdict (surroundings program procedure label.slot)) (part_at label.parts at.part)) None None
      (own_part (surroundings program procedure label.slot) at label.slot (sym here) 0 at.part label.parts (omega arith))
      (nowhere inner (omega (arith, one, once)))
      (nowhere rest (omega (arith, one, once)))
      ∙ or_none (option_map (verdict (surroundings program procedure label.slot)) (part_at label.parts at.part))
      ∙ ap (λ slot. option_map (verdict (surroundings program procedure slot)) (part_at label.parts at.part)) here
      ∙ ap (λ (n : PlainNode). option_map (verdict (surroundings program procedure at.slot.0)) (part_at n.label.parts at.part)) same
  along (Forest.cons label inner rest) (zero ∷ (k ∷ path)) node there own once =
      let inside : node_at inner (k ∷ path) ≡ Some node = there in
      let live : 1 ≤ times at.slot.0 inner = slot_present inner (k ∷ path) at.slot.0 (ap (option_map (λ (n : PlainNode). n.label.slot)) inside ∙ ap (λ n. Some n) own) in
      three (part_verdicts (surroundings program procedure label.slot) label.slot 0 label.parts) (node_verdicts program procedure inner) (node_verdicts program procedure rest)
      None (option_map (verdict (surroundings program procedure at.slot.0)) (part_at node.label.parts at.part)) None
      (other_slot (surroundings program procedure label.slot) at label.slot (apart live) 0 label.parts)
      (along inner (k ∷ path) node inside own (omega (arith, once)))
      (nowhere rest (omega (arith, live, once)))
      ∙ or_none (option_map (verdict (surroundings program procedure at.slot.0)) (part_at node.label.parts at.part))
    where
      apart : 1 ≤ times at.slot.0 inner → at.slot.0 ≢ label.slot
      apart live e =
          let one : one_if (nat_eq label.slot at.slot.0) ≡ 1 = ap (λ n. one_if (nat_eq label.slot n)) e ∙ ap one_if (itself label.slot) in
          omega (arith, one, live, once)
  along (Forest.cons label inner rest) (suc k ∷ path) node there own once =
      let behind : node_at rest (k ∷ path) ≡ Some node = there in
      let live : 1 ≤ times at.slot.0 rest = slot_present rest (k ∷ path) at.slot.0 (ap (option_map (λ (n : PlainNode). n.label.slot)) behind ∙ ap (λ n. Some n) own) in
      three (part_verdicts (surroundings program procedure label.slot) label.slot 0 label.parts) (node_verdicts program procedure inner) (node_verdicts program procedure rest)
      None None (option_map (verdict (surroundings program procedure at.slot.0)) (part_at node.label.parts at.part))
      (other_slot (surroundings program procedure label.slot) at label.slot (apart live) 0 label.parts)
      (nowhere inner (omega (arith, live, once)))
      (along rest (k ∷ path) node behind own (omega (arith, once)))
    where
      apart : 1 ≤ times at.slot.0 rest → at.slot.0 ≢ label.slot
      apart live e =
          let one : one_if (nat_eq label.slot at.slot.0) ≡ 1 = ap (λ n. one_if (nat_eq label.slot n)) e ∙ ap one_if (itself label.slot) in
          omega (arith, one, live, once)

-- ---- main and the procedures

module _ (program : Forest) (at : PhraseAt) where
  nowhere_behind : (rest : Forest) → times at.slot.0 rest ≡ 0 → find phrase_cmp at (procedure_verdicts program rest) ≡ None
  nowhere_behind Forest.nil absent = refl
  nowhere_behind (Forest.cons label inner rest) absent =
      find_both at (node_verdicts program record { label = label; inner = inner } (Forest.cons label inner Forest.nil)) (procedure_verdicts program rest)
      ∙ ap (λ o. option_or o (find phrase_cmp at (procedure_verdicts program rest)))
      (nowhere program record { label = label; inner = inner } at (Forest.cons label inner Forest.nil) (omega (arith, absent)))
      ∙ nowhere_behind rest (omega (arith, absent))

  or_none_all : (x : Option (Option MarkKind)) → option_or x None ≡ x
  or_none_all None = refl
  or_none_all (Some v) = refl

  in_procedure : (rest : Forest) (k : ℕ) (path : List ℕ) (procedure node : PlainNode) → slice_get (nodes rest) k ≡ Some procedure
      → below procedure path ≡ Some node → node.label.slot ≡ at.slot.0 → times at.slot.0 rest ≤ 1
      → find phrase_cmp at (procedure_verdicts program rest) ≡ option_map (verdict (surroundings program procedure at.slot.0)) (part_at node.label.parts at.part)
  in_procedure Forest.nil zero path procedure node item there own once = absurd (cc)
  in_procedure Forest.nil (suc k) path procedure node item there own once = absurd (cc)
  in_procedure (Forest.cons label inner rest) zero path procedure node item there own once =
      let same : record { label = label; inner = inner } ≡ procedure = cc in
      let inside : node_at (Forest.cons label inner Forest.nil) (0 ∷ path) ≡ Some node = ap (λ (p : PlainNode). below p path) same ∙ there in
      let live : 1 ≤ times at.slot.0 (Forest.cons label inner Forest.nil) =
      slot_present (Forest.cons label inner Forest.nil) (0 ∷ path) at.slot.0 (ap (option_map (λ (n : PlainNode). n.label.slot)) inside ∙ ap (λ n. Some n) own) in
      find_both at (node_verdicts program record { label = label; inner = inner } (Forest.cons label inner Forest.nil)) (procedure_verdicts program rest)
      ∙ ap (option_or (find phrase_cmp at (node_verdicts program record { label = label; inner = inner } (Forest.cons label inner Forest.nil))))
      (nowhere_behind rest (omega (arith, live, once)))
      ∙ or_none_all (find phrase_cmp at (node_verdicts program record { label = label; inner = inner } (Forest.cons label inner Forest.nil)))
      ∙ along program record { label = label; inner = inner } at (Forest.cons label inner Forest.nil) (0 ∷ path) node inside own (omega (arith, once))
      ∙ ap (λ (p : PlainNode). option_map (verdict (surroundings program p at.slot.0)) (part_at node.label.parts at.part)) same
  in_procedure (Forest.cons label inner rest) (suc k) path procedure node item there own once =
      let behind : node_at rest (k ∷ path) ≡ Some node = ap (option_and_then (λ (i : PlainNode). below i path)) item ∙ there in
      let live : 1 ≤ times at.slot.0 rest = slot_present rest (k ∷ path) at.slot.0 (ap (option_map (λ (n : PlainNode). n.label.slot)) behind ∙ ap (λ n. Some n) own) in
      find_both at (node_verdicts program record { label = label; inner = inner } (Forest.cons label inner Forest.nil)) (procedure_verdicts program rest)
      ∙ ap (λ o. option_or o (find phrase_cmp at (procedure_verdicts program rest)))
      (nowhere program record { label = label; inner = inner } at (Forest.cons label inner Forest.nil) (omega (arith, live, once)))
      ∙ in_procedure rest k path procedure node item there own (omega (arith, once))

  -- the verdict that is kept for the part of a node
  pub verdict_at : (k : ℕ) (path : List ℕ) (procedure node : PlainNode) → slice_get (nodes program) k ≡ Some procedure
      → below procedure path ≡ Some node → node.label.slot ≡ at.slot.0 → times at.slot.0 program ≤ 1
      → get (Verdicts program) at ≡ option_map (verdict (surroundings program procedure at.slot.0)) (part_at node.label.parts at.part)
  verdict_at k path procedure node item there own once =
      get-from_entries places_total (procedure_verdicts program program) at ∙ in_procedure program k path procedure node item there own once

  -- none is kept where the slot isn't live
  pub no_verdict : times at.slot.0 program ≡ 0 → get (Verdicts program) at ≡ None
  no_verdict absent = get-from_entries places_total (procedure_verdicts program program) at ∙ nowhere_behind program absent
