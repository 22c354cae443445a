-- The span that a slot has in kept code is that of the node located in it.
use Rattle.std.proofs.Common.{◌≡◌, ℕ, Bool, true, false, List, [], ◌∷◌, Option, Some, None, refl, ap, sym, ◌∙◌}
use Rattle.std.specs.Prelude.{◌==◌, cond, flat_map, if◌then◌else◌}
use Rattle.std.specs.FinMap.{find, get, get-from_entries, nat_cmp-IsAntisymmetric}
use Rattle.std.specs.Option.{option_and_then}
use Rattle.std.specs.Ordering.{eq_by_cmp, is_eq, nat_cmp}
use Rattle.std.specs.declared.cmp.Ordering.{Ordering}
use Rattle.std.specs.declared.cmp.Ordering.TheVariants.{Less, Equal, Greater}
use Rattle.std.proofs.Math.Bool.{false≢true}
use Rattle.std.proofs.lemmas.Bool.{eqb-true, eq-eqb}
use Rattle.std.proofs.lemmas.Cmp.{nat_cmp_total, tied_itself}
use Rattle.plcs_code.specs.declared.node_span.NodeSpan.{NodeSpan}
use Rattle.plcs_code.specs.Gen.{has_code, span_by_slot}
use Rattle.code_patch.specs.SoundCode.{AreSound}
use Rattle.code_patch.specs.CodeForest.{CodeForest, kept_spans, told_code}
use Rattle.code_patch.specs.Private.LocatedNode.{PlainLocated, located_among, located_span}
use Rattle.code_patch.specs.Private.PlainCodeNode.{kept_length}
use Rattle.code_patch.proofs.LocatedEntries.{among_located, located_node_span}

-- ---- numbers that tie in their order

-- a number ties with itself alone
pub number_ties : (m n : ℕ) → eq_by_cmp nat_cmp m n ≡ (n == m)
number_ties m n = by (n == m) refl
  where
    apart : (n == m) ≡ false → (o : Ordering) → nat_cmp m n ≡ o → is_eq o ≡ false
    apart other Less e = refl
    apart other Greater e = refl
    apart other Equal e = absurd (false≢true (sym other ∙ eq-eqb n m (sym (nat_cmp-IsAntisymmetric m n e))))

    by : (b : Bool) → (n == m) ≡ b → eq_by_cmp nat_cmp m n ≡ b
    by true same = ap (λ (k : ℕ). eq_by_cmp nat_cmp m k) (eqb-true n m same) ∙ ap is_eq (tied_itself nat_cmp_total m)
    by false other = apart other (nat_cmp m n) refl

-- ---- the spans of nodes

-- the span of a node by its slot, if it has code or not
abbrev span_if : Bool → NodeSpan → List (ℕ × (ℕ × ℕ))
span_if b node = if b then (node.slot.0, (node.start, node.length)) ∷ [] else []

-- what is found of it
abbrev found_if : Bool → PlainLocated → Option (ℕ × ℕ)
found_if b found = if b then Some (found.start, kept_length found.node) else None

-- a node's own span
own_span : (slot : ℕ) (found : PlainLocated) → (found.node.own.slot == slot) ≡ true
    → find nat_cmp slot (span_by_slot (located_node_span found)) ≡ located_span found
own_span slot found same = by (has_code found.node.own.kind)
  where
    by : (b : Bool) → find nat_cmp slot (span_if b (located_node_span found)) ≡ found_if b found
    by true =
        ap (λ (b : Bool). cond b (Some (found.start, kept_length found.node)) None) (number_ties slot found.node.own.slot ∙ same)
    by false = refl

-- isn't found by another slot
other_span : (slot : ℕ) (node : NodeSpan) → (node.slot.0 == slot) ≡ false → find nat_cmp slot (span_by_slot node) ≡ None
other_span slot node other = by (has_code node.kind)
  where
    by : (b : Bool) → find nat_cmp slot (span_if b node) ≡ None
    by true = ap (λ (b : Bool). cond b (Some (node.start, node.length)) None) (number_ties slot node.slot.0 ∙ other)
    by false = refl

-- the span of a slot
pub spans_located : (slot : ℕ) (nodes : CodeForest) → AreSound nodes
    → get (told_code nodes).spans slot ≡ option_and_then located_span (located_among slot 0 0 nodes)
spans_located slot nodes sound =
    get-from_entries nat_cmp_total (flat_map span_by_slot (kept_spans 0 0 nodes)) slot
    ∙ among_located nat_cmp span_by_slot slot slot located_span (own_span slot) (other_span slot) 0 0 nodes (sound.once slot)
