-- Which of the latest edits are kept: the oldest are dropped until both limits are kept.
use Rattle.std.specs.Prelude.{◌≡◌, refl, ℕ, zero, suc, ◌+◌, ◌-◌, ◌<◌, ◌≤◌, nat_le, Bool, true, false, if◌then◌else◌, List, [], ◌∷◌, length, take, Some, slice_get}
use Rattle.std.proofs.Common.{ap, sym, subst, ◌∙◌, arith, ◌⊎◌, inl, inr}
use Rattle.std.proofs.lemmas.Bool.{cases_lt, le-leb, lt-leb}
use Rattle.std.proofs.lemmas.Option.{none-some, same_Some}
use Rattle.edit_undo.specs.EditLimit.{edit_weight, edits_weight, kept_edits, latest_within, most_edits, most_taken_slots}
use Rattle.edit_undo.specs.Private.KeptRing.{without_last}
use Rattle.edit_undo.specs.declared.edit_record.EditRecord.{EditRecord}

-- the weight of an edit by its record
abbrev pub weighed : EditRecord → ℕ
weighed edit = edit_weight edit.back

-- one that is light enough is kept
kept_if : (b : Bool) (kept : List EditRecord) → b ≡ true → (if b then kept else []) ≡ kept
kept_if b kept is = ap (λ x. if x then kept else []) is

gone_if : (b : Bool) (kept : List EditRecord) → b ≡ false → (if b then kept else []) ≡ []
gone_if b kept is = ap (λ x. if x then kept else []) is

-- edits within the limits are all kept
pub all_kept : (most heaviest : ℕ) (edits : List EditRecord) → length edits ≤ most → edits_weight edits ≤ heaviest
    → latest_within weighed most heaviest edits ≡ edits
all_kept zero heaviest [] few light = refl
all_kept zero heaviest (edit ∷ edits) few light = absurd (omega (arith, few))
all_kept (suc most) heaviest [] few light = refl
all_kept (suc most) heaviest (edit ∷ edits) few light =
    let rest = latest_within weighed most (heaviest - weighed edit) edits in
    kept_if (nat_le (weighed edit) heaviest) (edit ∷ rest) (le-leb (weighed edit) heaviest (omega (arith, light)))
    ∙ ap (λ others. edit ∷ others) (all_kept most (heaviest - weighed edit) edits (omega (arith, few)) (omega (arith, light)))

-- a single edit that is over a limit isn't kept
single_gone : (most heaviest : ℕ) (edit : EditRecord) → (heaviest < weighed edit) ⊎ (weighed edit ≤ heaviest)
    → (1 ≤ suc most → weighed edit + 0 ≤ heaviest → ⊥) → latest_within weighed (suc most) heaviest (edit ∷ []) ≡ []
single_gone most heaviest edit (inl heavy) over =
    gone_if (nat_le (weighed edit) heaviest) (edit ∷ latest_within weighed most (heaviest - weighed edit) [])
    (lt-leb (weighed edit) heaviest heavy)
single_gone most heaviest edit (inr light) over = absurd (over (omega arith) (omega (arith, light)))

-- the same is kept without the oldest of edits that are over a limit
next_if : (b : Bool) (edit : EditRecord) (one other : List EditRecord) → one ≡ other → (if b then edit ∷ one else []) ≡ (if b then edit ∷ other else [])
next_if true edit one other same = ap (λ edits. edit ∷ edits) same
next_if false edit one other same = refl

next_dropped : (most heaviest : ℕ) (edit next : EditRecord) (edits : List EditRecord)
    → (length (edit ∷ (next ∷ edits)) ≤ suc most → edits_weight (edit ∷ (next ∷ edits)) ≤ heaviest → ⊥)
    → ((length (next ∷ edits) ≤ most → edits_weight (next ∷ edits) ≤ heaviest - weighed edit → ⊥)
    → latest_within weighed most (heaviest - weighed edit) (without_last (next ∷ edits))
    ≡ latest_within weighed most (heaviest - weighed edit) (next ∷ edits))
    → (heaviest < weighed edit) ⊎ (weighed edit ≤ heaviest)
    → latest_within weighed (suc most) heaviest (edit ∷ without_last (next ∷ edits))
    ≡ latest_within weighed (suc most) heaviest (edit ∷ (next ∷ edits))
next_dropped most heaviest edit next edits over others (inl heavy) =
    gone_if (nat_le (weighed edit) heaviest)
    (edit ∷ latest_within weighed most (heaviest - weighed edit) (without_last (next ∷ edits))) (lt-leb (weighed edit) heaviest heavy)
    ∙ sym
    (gone_if (nat_le (weighed edit) heaviest) (edit ∷ latest_within weighed most (heaviest - weighed edit) (next ∷ edits))
    (lt-leb (weighed edit) heaviest heavy))
next_dropped most heaviest edit next edits over others (inr light) =
    next_if (nat_le (weighed edit) heaviest) edit
    (latest_within weighed most (heaviest - weighed edit) (without_last (next ∷ edits)))
    (latest_within weighed most (heaviest - weighed edit) (next ∷ edits))
    (others (λ few held. over (omega (arith, few)) (omega (arith, held, light))))

pub oldest_dropped : (most heaviest : ℕ) (edits : List EditRecord) → (length edits ≤ most → edits_weight edits ≤ heaviest → ⊥)
    → latest_within weighed most heaviest (without_last edits) ≡ latest_within weighed most heaviest edits
oldest_dropped zero heaviest edits over = refl
oldest_dropped (suc most) heaviest [] over = refl
oldest_dropped (suc most) heaviest (edit ∷ []) over = sym (single_gone most heaviest edit (cases_lt heaviest (weighed edit)) over)
oldest_dropped (suc most) heaviest (edit ∷ (next ∷ edits)) over =
    next_dropped most heaviest edit next edits over (λ more. oldest_dropped most (heaviest - weighed edit) (next ∷ edits) more)
    (cases_lt heaviest (weighed edit))

-- ---- the oldest edit

pub taken_last : (edits : List EditRecord) → take (length edits - 1) edits ≡ without_last edits
taken_last [] = refl
taken_last (edit ∷ []) = refl
taken_last (edit ∷ (next ∷ edits)) =
    let more : length (edit ∷ (next ∷ edits)) - 1 ≡ suc (length (next ∷ edits) - 1) = omega arith in
    subst (λ (n : ℕ). take n (edit ∷ (next ∷ edits)) ≡ edit ∷ without_last (next ∷ edits)) (sym more)
    (ap (λ (others : List EditRecord). edit ∷ others) (taken_last (next ∷ edits)))

-- what is lost with it
pub weight_lost : (edits : List EditRecord) (oldest : EditRecord) → Some oldest ≡ slice_get edits (length edits - 1)
    → edits_weight (without_last edits) + weighed oldest ≡ edits_weight edits
weight_lost [] oldest e = absurd (none-some oldest (sym e))
weight_lost (edit ∷ []) oldest e =
    let none : length (edit ∷ []) - 1 ≡ 0 = omega arith in
    let same : oldest ≡ edit = same_Some oldest edit (e ∙ ap (slice_get (edit ∷ [])) none) in
    omega (arith, ap weighed same)
weight_lost (edit ∷ (next ∷ edits)) oldest e =
    let more : length (edit ∷ (next ∷ edits)) - 1 ≡ suc (length (next ∷ edits) - 1) = omega arith in
    omega (arith, weight_lost (next ∷ edits) oldest (e ∙ ap (slice_get (edit ∷ (next ∷ edits))) more))

pub one_fewer : (edits : List EditRecord) → 0 < length edits → length (without_last edits) + 1 ≡ length edits
one_fewer [] some = absurd (omega (arith, some))
one_fewer (edit ∷ []) some = omega arith
one_fewer (edit ∷ (next ∷ edits)) some = omega (arith, one_fewer (next ∷ edits) (omega arith))

-- ---- the loop of `make_room`

-- where there is no room for an edit, as many are kept without the oldest
pub room_step : (edits : List EditRecord) (edit : EditRecord) → 0 < length edits
    → (length (edit ∷ edits) ≤ most_edits → edits_weight (edit ∷ edits) ≤ most_taken_slots → ⊥)
    → kept_edits (edit ∷ without_last edits) ≡ kept_edits (edit ∷ edits)
room_step [] edit some over = absurd (omega (arith, some))
room_step (next ∷ edits) edit some over = oldest_dropped most_edits most_taken_slots (edit ∷ (next ∷ edits)) over

-- where there is room, all are kept
pub room_made : (edits : List EditRecord) (edit : EditRecord) → length edits < most_edits
    → edits_weight edits + edit_weight edit.back ≤ most_taken_slots → edit ∷ edits ≡ kept_edits (edit ∷ edits)
room_made edits edit few light =
    sym (all_kept most_edits most_taken_slots (edit ∷ edits) (omega (arith, few)) (omega (arith, light)))

-- ---- an edit that is over the limit itself

pub over_gone : (edit : EditRecord) (edits : List EditRecord) → most_taken_slots < edit_weight edit.back → [] ≡ kept_edits (edit ∷ edits)
over_gone edit edits heavy =
    sym
    (gone_if (nat_le (weighed edit) most_taken_slots) (edit ∷ latest_within weighed 49 (most_taken_slots - weighed edit) edits)
    (lt-leb (weighed edit) most_taken_slots heavy))
