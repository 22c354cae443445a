-- `EditRing`: its records in memory keep the limits and their weight, where one comes, and where one leaves at either
-- end.
use Rattle.std.specs.Prelude.{◌≡◌, refl, ℕ, zero, suc, ◌+◌, ◌-◌, ◌<◌, ◌≤◌, List, [], ◌∷◌, length, drop, take, Some, None, slice_get}
use Rattle.std.proofs.Common.{ap, sym, subst, arith}
use Rattle.std.proofs.lemmas.Option.{none-some, same_Some}
use Rattle.circular_buffer.specs.Buffer.{buffer, last_item}
use Rattle.edit_undo.specs.EditLimit.{KeepsEditLimits, edit_weight, edits_weight, most_edits, most_taken_slots}
use Rattle.edit_undo.specs.Private.KeptRing.{IsKeptRing}
use Rattle.edit_undo.specs.declared.edit_record.EditRecord.{EditRecord}
use Rattle.edit_undo.proofs.LatestEdits.{one_fewer, taken_last, weight_lost}

-- ---- which edit leaves

-- the first of edits, if there is one
pub first_is : (edits : List EditRecord) (edit : EditRecord) → Some edit ≡ slice_get edits 0 → edits ≡ edit ∷ drop 1 edits
first_is [] edit e = absurd (none-some edit (sym e))
first_is (first ∷ edits) edit e = ap (λ one. one ∷ edits) (sym (same_Some edit first e))

pub none_held : (edits : List EditRecord) → None ≡ slice_get edits 0 → edits ≡ []
none_held [] e = refl
none_held (edit ∷ edits) e = absurd (none-some edit e)

-- one stands at each number below their length
there : (edits : List EditRecord) (k : ℕ) → k < length edits → None ≡ slice_get edits k → ⊥
there [] k within e = absurd (omega (arith, within))
there (edit ∷ edits) zero within e = none-some edit e
there (edit ∷ edits) (suc k) within e = there edits k (omega (arith, within)) e

pub last_there : (edits : List EditRecord) → 0 < length edits → None ≡ last_item edits → ⊥
last_there edits some e = there edits (length edits - 1) (omega (arith, some)) e

some_held : (edits : List EditRecord) (edit : EditRecord) (k : ℕ) → Some edit ≡ slice_get edits k → 0 < length edits
some_held [] edit k e = absurd (none-some edit (sym e))
some_held (first ∷ edits) edit k e = omega arith

-- ---- the ring without it

-- a ring of these records, with this weight
abbrev pub Keeps : List EditRecord → (capacity weight : ℕ) → Type 0
Keeps edits capacity weight = IsKeptRing record { records = buffer edits capacity; weight = weight }

-- the oldest weighs no more than all
pub oldest_light : (edits : List EditRecord) (capacity weight : ℕ) (oldest : EditRecord) → Keeps edits capacity weight
    → Some oldest ≡ last_item edits → edit_weight oldest.back ≤ weight
oldest_light edits capacity weight oldest keeps e = omega (arith, keeps.weight, weight_lost edits oldest e)

-- without it the ring is kept
pub oldest_left : (edits : List EditRecord) (capacity weight : ℕ) (oldest : EditRecord) → Keeps edits capacity weight
    → Some oldest ≡ last_item edits → Keeps (take (length edits - 1) edits) capacity (weight - edit_weight oldest.back)
oldest_left edits capacity weight oldest keeps e =
    let left = taken_last edits in
    let lost = weight_lost edits oldest e in
    record {
      capacity = keeps.capacity;
      limits =
          record {
            few = omega (arith, ap length left, one_fewer edits (some_held edits oldest (length edits - 1) e), keeps.limits.few);
            light = omega (arith, ap edits_weight left, lost, keeps.limits.light);
          };
      weight = omega (arith, ap edits_weight left, lost, keeps.weight);
    }

-- where none is held none leaves
pub none_left : (edits : List EditRecord) (capacity weight : ℕ) → Keeps edits capacity weight → None ≡ slice_get edits 0
    → Keeps (drop 1 edits) capacity weight
none_left [] capacity weight keeps e = keeps
none_left (edit ∷ edits) capacity weight keeps e = absurd (none-some edit e)

-- nor does the newest
pub newest_light : (edits : List EditRecord) (capacity weight : ℕ) (newest : EditRecord) → Keeps edits capacity weight
    → Some newest ≡ slice_get edits 0 → edit_weight newest.back ≤ weight
newest_light edits capacity weight newest keeps e = omega (arith, keeps.weight, ap edits_weight (first_is edits newest e))

pub newest_left : (edits : List EditRecord) (capacity weight : ℕ) (newest : EditRecord) → Keeps edits capacity weight
    → Some newest ≡ slice_get edits 0 → Keeps (drop 1 edits) capacity (weight - edit_weight newest.back)
newest_left edits capacity weight newest keeps e =
    let first = first_is edits newest e in
    record {
      capacity = keeps.capacity;
      limits =
          record {
            few = omega (arith, ap length first, keeps.limits.few);
            light = omega (arith, ap edits_weight first, keeps.limits.light);
          };
      weight = omega (arith, ap edits_weight first, keeps.weight);
    }

-- ---- the ring with one more

-- where there is room none is dropped
kept_all : (edits : List EditRecord) (most : ℕ) → length edits ≤ most → take most edits ≡ edits
kept_all [] zero few = refl
kept_all [] (suc most) few = refl
kept_all (edit ∷ edits) zero few = absurd (omega (arith, few))
kept_all (edit ∷ edits) (suc most) few = ap (λ others. edit ∷ others) (kept_all edits most (omega (arith, few)))

pub newest_put : (edits : List EditRecord) (capacity weight : ℕ) (edit : EditRecord) → Keeps edits capacity weight → length edits < most_edits
    → take capacity (edit ∷ edits) ≡ edit ∷ edits
newest_put edits capacity weight edit keeps few = kept_all (edit ∷ edits) capacity (omega (arith, few, keeps.capacity))

pub newest_kept : (edits : List EditRecord) (capacity weight : ℕ) (edit : EditRecord) → Keeps edits capacity weight → length edits < most_edits
    → edits_weight edits + edit_weight edit.back ≤ most_taken_slots
    → Keeps (take capacity (edit ∷ edits)) capacity (weight + edit_weight edit.back)
newest_kept edits capacity weight edit keeps few light =
    subst (λ (held : List EditRecord). Keeps held capacity (weight + edit_weight edit.back)) (sym (newest_put edits capacity weight edit keeps few))
    (record {
      capacity = keeps.capacity;
      limits = record { few = omega (arith, few); light = omega (arith, light) };
      weight = omega (arith, keeps.weight);
    })

-- ---- whether there is room for one more

-- where there is none for an edit that is light enough, one is held
pub full_some : (edits : List EditRecord) (weight : ℕ) → weight ≤ most_taken_slots
    → ((length edits < most_edits) × (edits_weight edits + weight ≤ most_taken_slots) → ⊥) → 0 < length edits
full_some [] weight light full = absurd (full (omega arith, omega (arith, light)))
full_some (edit ∷ edits) weight light full = omega arith

-- one that came before others weighs no more than all may
pub first_light : (edits left : List EditRecord) (edit : EditRecord) → edits ≡ edit ∷ left → KeepsEditLimits edits
    → (length left < most_edits) × (edits_weight left + edit_weight edit.back ≤ most_taken_slots)
first_light edits left edit is limits =
    let within : KeepsEditLimits (edit ∷ left) = subst KeepsEditLimits is limits in
    (omega (arith, within.few), omega (arith, within.light))

-- the first of edits is the same where they are
abbrev first_or : EditRecord → List EditRecord → EditRecord
first_or other [] = other
first_or other (edit ∷ edits) = edit

pub same_first : (one other : EditRecord) (edits others : List EditRecord) → one ∷ edits ≡ other ∷ others → one ≡ other
same_first one other edits others is = ap (first_or one) is
