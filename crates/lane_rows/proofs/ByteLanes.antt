-- From the mask of one load of bytes to the bytes before its first lane that is set, and to the whole text.
use Rattle.std.proofs.Common.{◌≡◌, ℕ, ◌+◌, ◌-◌, ◌%◌, ◌^◌, ◌≤◌, Bool, true, not, List, map, length, get_or, replicate, take, drop, slice_range, count_by, cond, Fits, w8, sym, ap, ◌∙◌, arith, take-add}
use Rattle.std.specs.List.{prefix_len, list_all}
use Rattle.std.proofs.lemmas.Bool.{agree_below, agree_below_at, not-true, not-false}
use Rattle.std.proofs.lemmas.List.{length-map}
use Rattle.std.proofs.lemmas.List.Elements.{All-from_get_or}
use Rattle.std.proofs.lemmas.List.Sums.{list_all-from_AllPass, sum_by-append}
use Rattle.std.proofs.lemmas.Simd.{map-map, mask_l-mod, length-chunk, first_set_mask_l, run_in_chunk_le, run_in_chunk_fails, run_in_chunk_stops, zip2_of_maps, zip2_splat_left}
use lib.Lanes.{chunk, zip2, mask_l, top}
use Rattle.lane_rows.specs.Private.LaneRun.{first_set, PassBetween, IsRunIn}

-- an operation on two vectors that were computed lane by lane from one
pub joined : (h : ℕ → ℕ → ℕ) (f g : ℕ → ℕ) (v : List ℕ) {a b : List ℕ} → a ≡ map f v → b ≡ map g v → zip2 h a b ≡ map (λ x. h (f x) (g x)) v
joined h f g v p q = zip2_of_maps h f g v p q

-- a comparison whose sides are changed
pub from_splat : (h : ℕ → ℕ → ℕ) (v : List ℕ) (n y : ℕ) → length v ≡ n → zip2 h (replicate n y) v ≡ map (h y) v
from_splat h v n y long = zip2_splat_left h y n v long

module _ (q : ℕ → Bool) (d : List ℕ) (at r : ℕ) (z : List ℕ) (room : at + 32 ≤ length d)
    (fits : (k : ℕ) → Fits w8 (get_or d k 0)) (found : r ≡ first_set (mask_l (map (top 7) z) % 2 ^ 64))
    (f : ℕ → ℕ) (lanes : z ≡ map f (chunk at 32 d)) where
  abbrev stops : ℕ → Bool
  stops x = top 7 (f x)

  counted : r ≡ prefix_len (λ x. not (stops x)) (chunk at 32 d)
  counted =
      let v = chunk at 32 d in
      let long = length-chunk at 32 d room in
      let mask =
      ap (λ l. mask_l l % 2 ^ 64) (ap (map (top 7)) lanes ∙ map-map (top 7) f v)
      ∙ mask_l-mod (map stops v) 64 (omega (arith, length-map v stops, long)) in
      found ∙ ap first_set mask ∙ first_set_mask_l stops v 32 long (omega arith)

  -- a lane stops just where the test fails
  pub run_in : agree_below stops (λ x. not (q x)) 256 ≡ true → IsRunIn q d at r
  run_in all = (
    run_in_chunk_le stops d at 32 r 0 room counted,
    λ k from to.
        not-false _ (sym (agree_below_at stops (λ x. not (q x)) 256 (get_or d k 0) all (fits k).fits)
        ∙ run_in_chunk_fails stops d at 32 r 0 room counted k from to),
    λ short.
        not-true _ (sym (agree_below_at stops (λ x. not (q x)) 256 (get_or d (at + r) 0) all (fits (at + r)).fits)
        ∙ run_in_chunk_stops stops d at 32 r 0 room counted short),
  )

-- bytes that pass a test one by one all pass it
pub all_pass : (q : ℕ → Bool) (d : List ℕ) → PassBetween q d 0 (length d) → list_all q d ≡ true
all_pass q d h = list_all-from_AllPass q d (All-from_get_or (λ x. q x ≡ true) d 0 (λ k inside. h k (omega arith) inside))

-- the bytes that pass a test before a place and in one load from there are those before the place after it
pub counted_more : (q : ℕ → Bool) (d : List ℕ) (at : ℕ) → count_by q (take at d) + count_by q (slice_range d at (at + 32)) ≡ count_by q (take (at + 32) d)
counted_more q d at =
    let width : at + 32 - at ≡ 32 = omega arith in
    ap (λ n. count_by q (take at d) + count_by q (take n (drop at d))) width
    ∙ sym (sum_by-append (λ x. cond (q x) 1 0) (take at d) (take 32 (drop at d)))
    ∙ ap (count_by q) (sym (take-add at 32 d))
