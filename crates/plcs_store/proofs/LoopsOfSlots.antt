-- The loop of a slot among the loops of a frame, where it stands last, and where it is looked for from the last on.
use Rattle.std.specs.Prelude.{◌≡◌, refl, ℕ, zero, suc, ◌<◌, ◌≤◌, ◌-◌, ◌==◌, Bool, true, false, if◌then◌else◌, List, [], ◌∷◌, ◌++◌, length, map, slice_get, slice_index_or, take, Option, Some, None, option_and_then, option_map}
use Rattle.std.specs.Option.{option_or}
use Rattle.std.proofs.Common.{ap, sym, ◌∙◌, arith}
use Rattle.std.proofs.lemmas.Bool.{eq-eqb}
use Rattle.std.proofs.lemmas.List.{length-append}
use Rattle.std.proofs.lemmas.Option.{none-some, same_Some, slice_get-get_or}
use Rattle.plcs_store.specs.declared.frame.Frame.{Frame}
use Rattle.plcs_store.specs.declared.kept_loop.KeptLoop.{KeptLoop}
use Rattle.plcs_store.specs.CellAt.{newest}
use Rattle.plcs_store.specs.LoopOfSlot.{NumberedLoop, inside_one_more, loop_of_slot, newest_loop}

abbrev head_or : ℕ → List ℕ → ℕ
head_or other [] = other
head_or other (n ∷ rest) = n

abbrev tail : List ℕ → List ℕ
tail [] = []
tail (n ∷ rest) = rest

abbrev numbered : ℕ → KeptLoop → Option NumberedLoop
numbered number kept = Some (number, kept)

-- a loop with its number, where it is the one that is looked for
abbrev pub found_at : ℕ → KeptLoop → Bool → Option NumberedLoop
found_at number kept here = if here then numbered number kept else None

-- the last of the loops that a frame keeps
last_loop : (loops : List KeptLoop) (outer : List ℕ) (slot : ℕ) → map (λ kept. kept.slot.0) loops ≡ outer ++ (slot ∷ [])
    → (kept : KeptLoop) × (slice_get loops (length loops - 1) ≡ Some kept) × (loop_of_slot slot loops ≡ numbered (length loops - 1) kept)
last_loop [] outer slot e = let n = ap length e in let m = length-append outer (slot ∷ []) in absurd (omega (arith, n, m))
last_loop (kept ∷ []) [] slot e = (kept, refl, ap (found_at 0 kept) (eq-eqb kept.slot.0 slot (ap (head_or slot) e)))
last_loop (kept ∷ []) (first ∷ outer) slot e =
    let n = ap length (ap tail e) in let m = length-append outer (slot ∷ []) in absurd (omega (arith, n, m))
last_loop (kept ∷ (next ∷ loops)) [] slot e = let n = ap length (ap tail e) in absurd (omega (arith, n))
last_loop (kept ∷ (next ∷ loops)) (first ∷ outer) slot e =
    let (one, there, is) = last_loop (next ∷ loops) outer slot (ap tail e) in
    let last : length (kept ∷ (next ∷ loops)) - 1 ≡ suc (length (next ∷ loops) - 1) = omega arith in (
      one,
      ap (slice_get (kept ∷ (next ∷ loops))) last ∙ there,
      ap (λ (found : Option NumberedLoop). option_or (option_map inside_one_more found) (found_at 0 kept (kept.slot.0 == slot))) is
          ∙ ap (λ (n : ℕ). numbered n one) (sym last),
    )

-- the last of the loops that the newest frame keeps
pub newest_kept : (frames : List Frame) (frame : Frame) (outer : List ℕ) (slot : ℕ) → slice_get frames (newest frames) ≡ Some frame
    → map (λ kept. kept.slot.0) frame.loops ≡ outer ++ (slot ∷ [])
    → (kept : KeptLoop) × (slice_get frame.loops (length frame.loops - 1) ≡ Some kept)
    × (newest_loop slot frames ≡ numbered (length frame.loops - 1) kept)
newest_kept frames frame outer slot top e =
    let (kept, there, is) = last_loop frame.loops outer slot e in
    (kept, there, ap (option_and_then (λ (one : Frame). loop_of_slot slot one.loops)) top ∙ is)

-- ---- from the last on

or_none : {A : Type 0} (found : Option A) → found ≡ option_or found None
or_none None = refl
or_none (Some a) = refl

one_more : (here : Bool) (k : ℕ) (kept : KeptLoop) (others outer : Option NumberedLoop)
    → option_or (option_map inside_one_more (option_or (found_at k kept here) others)) outer
    ≡ option_or (found_at (suc k) kept here) (option_or (option_map inside_one_more others) outer)
one_more true k kept others outer = refl
one_more false k kept others outer = refl

-- the loop of the slot among some is the last of them, or it is among those before
pub last_taken : (slot : ℕ) (loops : List KeptLoop) (k : ℕ) (kept : KeptLoop) → slice_get loops k ≡ Some kept
    → loop_of_slot slot (take (suc k) loops) ≡ option_or (found_at k kept (kept.slot.0 == slot)) (loop_of_slot slot (take k loops))
last_taken slot [] k kept there = absurd (none-some kept there)
last_taken slot (x ∷ loops) zero kept there =
    ap (λ (one : KeptLoop). found_at 0 one (one.slot.0 == slot)) (same_Some x kept there)
    ∙ or_none (found_at 0 kept (kept.slot.0 == slot))
last_taken slot (x ∷ loops) (suc k) kept there =
    ap (λ (found : Option NumberedLoop). option_or (option_map inside_one_more found) (found_at 0 x (x.slot.0 == slot)))
    (last_taken slot loops k kept there)
    ∙ one_more (kept.slot.0 == slot) k kept (loop_of_slot slot (take k loops)) (found_at 0 x (x.slot.0 == slot))

module _ (slot : ℕ) (loops : List KeptLoop) (n : ℕ) (d : KeptLoop) (some : 0 < n) (within : n ≤ length loops) where
  abbrev last_one : KeptLoop
  last_one = slice_index_or loops (n - 1) d

  with_last : loop_of_slot slot (take n loops) ≡ option_or (found_at (n - 1) last_one (last_one.slot.0 == slot)) (loop_of_slot slot (take (n - 1) loops))
  with_last =
      let next : n ≡ suc (n - 1) = omega (arith, some) in
      ap (λ (k : ℕ). loop_of_slot slot (take k loops)) next
      ∙ last_taken slot loops (n - 1) last_one (slice_get-get_or loops (n - 1) d (omega (arith, some, within)))

  -- the last of some loops is of the slot
  pub last_is_it : (last_one.slot.0 == slot) ≡ true → loop_of_slot slot (take n loops) ≡ Some (n - 1, last_one)
  last_is_it is = with_last ∙ ap (λ (here : Bool). option_or (found_at (n - 1) last_one here) (loop_of_slot slot (take (n - 1) loops))) is

  -- the last of some loops isn't of the slot
  pub last_is_other : (last_one.slot.0 == slot) ≡ false → loop_of_slot slot (take n loops) ≡ loop_of_slot slot (take (n - 1) loops)
  last_is_other is = with_last ∙ ap (λ (here : Bool). option_or (found_at (n - 1) last_one here) (loop_of_slot slot (take (n - 1) loops))) is
