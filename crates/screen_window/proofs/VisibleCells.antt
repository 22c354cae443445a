-- Blanks at the end of a row, from where its last cell stands that is none.
use Rattle.std.proofs.Common.{◌≡◌, ℕ, ◌+◌, ◌<◌, suc, zero, List, [], ◌∷◌, length, take, get_or, Some, None, refl, sym, ap, ◌∙◌, cond, eqb, add-one, arith}
use Rattle.std.proofs.lemmas.Bool.{ne_eqb}
use Rattle.lane_rows.specs.CellRow.{IsLastNonblank}
use Rattle.screen_window.specs.Paint.{cut_before, visible}

-- a row of blanks shows nothing
pub all_blank : (cells : List ℕ) → IsLastNonblank cells None → visible cells ≡ []
all_blank [] blank = refl
all_blank (cell ∷ cells) blank =
    let rest = all_blank cells (λ k below. blank (suc k) (omega (arith, below))) in
    ap (cut_before cell) rest ∙ ap (λ c. cond (eqb c 32) [] (c ∷ [])) (blank 0 (omega arith))

-- a row shows its cells up to the last that is no blank
last_visible : (cells : List ℕ) (last : ℕ) → last < length cells → (get_or cells last 0 ≡ 32 → ⊥)
    → ((k : ℕ) → last < k → k < length cells → get_or cells k 0 ≡ 32) → visible cells ≡ take (suc last) cells
last_visible [] last below other blank = absurd (omega (arith, below))
last_visible (cell ∷ cells) zero below other blank =
    let rest = all_blank cells (λ k within. blank (suc k) (omega arith) (omega (arith, within))) in
    ap (cut_before cell) rest ∙ ap (λ b. cond b [] (cell ∷ [])) (ne_eqb cell 32 other)
last_visible (cell ∷ []) (suc last) below other blank = absurd (omega (arith, below))
last_visible (cell ∷ next ∷ cells) (suc last) below other blank =
    ap (cut_before cell)
    (last_visible (next ∷ cells) last (omega (arith, below)) other
    (λ k after within. blank (suc k) (omega (arith, after)) (omega (arith, within))))

pub visible_to : (cells : List ℕ) (last : ℕ) → IsLastNonblank cells (Some last) → take (last + 1) cells ≡ visible cells
visible_to cells last found =
    ap (λ n. take n cells) (add-one last) ∙ sym (last_visible cells last found.0 found.1 found.2)
