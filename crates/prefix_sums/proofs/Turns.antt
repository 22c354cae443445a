-- Marks after one more of them was mended.
use Rattle.std.specs.Prelude.{◌≡◌, refl, ℕ, zero, suc, ◌+◌, ◌-◌, ◌*◌, ◌<◌, ◌≤◌, ◌⊎◌, List, length, sum, take, get_or, slice_set, slice_index}
use Rattle.std.proofs.Common.{ap, sym, ◌∙◌, arith, add-one, subst, inl, inr}
use Rattle.std.specs.List.{insert, remove}
use Rattle.std.proofs.lemmas.List.{length-set, get_or-set_same, get_or-set_other, get_or_default}
use Rattle.std.proofs.lemmas.List.Edits.{length-insert, length-remove}
use Rattle.prefix_sums.specs.Private.RunningSums.{AreMarks, AreMended}
use Rattle.std.proofs.lemmas.List.Sums.{sum_by_more, sum_by-take-le, sum_by-remove}
use Rattle.prefix_sums.proofs.FirstSums.{number_le, sum_set, sum_insert, sum_remove}

-- below, at or above
pub split_at : (j b : ℕ) → (j < b) ⊎ ((j ≡ b) ⊎ (suc b ≤ j))
split_at zero zero = inr (inl refl)
split_at zero (suc b) = inl (omega arith)
split_at (suc j) zero = inr (inr (omega arith))
split_at (suc j) (suc b) = elim (split_at j b) [ inl h ↦ inl (omega (arith, h)) | inr (inl e) ↦ inr (inl (ap suc e)) | inr (inr h) ↦ inr (inr (omega (arith, h))) ]

-- one more mark is that of the new numbers
pub mended_next : (olds news marks : List ℕ) (b mark : ℕ) → b < length marks → mark ≡ sum (take (64 * b + 64) news)
    → AreMended olds news marks b → AreMended olds news (slice_set marks b mark) (b + 1)
mended_next olds news marks b mark inside right m = record {
  done = λ j below there.
      let there' : j < length marks = subst (λ n. j < n) (length-set marks b mark) there in
      elim (split_at j b) [
        | inl h ↦ get_or-set_other marks b j mark 0 (λ e. absurd (omega (arith, h, e))) ∙ m.done j h there'
        | inr (inl e) ↦ ap (λ n. slice_index (slice_set marks b mark) n) e ∙ get_or-set_same marks b mark 0 inside ∙ right ∙ ap (λ n. sum (take (64 * n + 64) news)) (sym e)
        | inr (inr h) ↦ absurd (omega (arith, below, h))
      ];
  left = λ j above there.
      get_or-set_other marks b j mark 0 (λ e. absurd (omega (arith, above, e)))
      ∙ m.left j (omega (arith, above)) (subst (λ n. j < n) (length-set marks b mark) there);
}

-- all marks are those of the new numbers
pub all_mended : (olds news marks : List ℕ) (b : ℕ) → length marks ≤ b → AreMended olds news marks b → AreMarks news marks
all_mended olds news marks b all m = λ j there. m.done j (omega (arith, there, all)) there

-- a mark after a number before it was set
pub record SetTurn (olds : List ℕ) (k number : ℕ) (marks : List ℕ) (b mark old : ℕ) : Type 0 where
  pub enough : old ≤ mark
  pub fits : mark - old + number ≤ sum (slice_set olds k number)
  pub mended : AreMended olds (slice_set olds k number) (slice_set marks b (mark - old + number)) (b + 1)

pub set_turn : (olds : List ℕ) (k number : ℕ) (marks : List ℕ) (b mark old : ℕ)
    → k < length olds → k < 64 * b + 64 → b < length marks → mark ≡ get_or marks b mark → old ≡ get_or olds k old
    → AreMended olds (slice_set olds k number) marks b → SetTurn olds k number marks b mark old
set_turn olds k number marks b mark old inside before there mark_is old_is m =
    let e : mark ≡ sum (take (64 * b + 64) olds) = mark_is ∙ get_or_default marks b mark 0 there ∙ m.left b (omega arith) there in
    let f : old ≡ get_or olds k 0 = old_is ∙ get_or_default olds k old 0 inside in
    let low : get_or olds k 0 ≤ sum (take (64 * b + 64) olds) = number_le olds k (64 * b + 64) before inside in
    let s : sum (take (64 * b + 64) (slice_set olds k number)) + get_or olds k 0 ≡ sum (take (64 * b + 64) olds) + number = sum_set olds k (64 * b + 64) number before inside in
    let w : sum (take (64 * b + 64) (slice_set olds k number)) ≤ sum (slice_set olds k number) =
    sum_by-take-le (λ n. n) (slice_set olds k number) (64 * b + 64) in
    record {
      enough = omega (arith, e, f, low);
      fits = omega (arith, e, f, s, w, low);
      mended = mended_next olds (slice_set olds k number) marks b (mark - old + number) there (omega (arith, e, f, s, low)) m;
    }

-- a mark after a number before it was put in; `next` is the number that comes behind it now
pub record InsertTurn (olds : List ℕ) (k number : ℕ) (marks : List ℕ) (b mark next : ℕ) : Type 0 where
  pub enough : next ≤ mark + number
  pub mended : AreMended olds (insert olds k number) (slice_set marks b (mark + number - next)) (b + 1)

pub insert_turn : (olds : List ℕ) (k number : ℕ) (marks : List ℕ) (b mark next : ℕ)
    → k ≤ length olds → k ≤ 64 * b + 64 → b < length marks → 64 * b + 64 ≤ length olds → mark ≡ get_or marks b mark
    → next ≡ get_or (insert olds k number) (64 * b + 64) next
    → AreMended olds (insert olds k number) marks b → InsertTurn olds k number marks b mark next
insert_turn olds k number marks b mark next inside before there long mark_is next_is m =
    let news = insert olds k number in
    let at : ℕ = 64 * b + 64 in
    let room : at < length news = rw (length-insert olds k number inside) (omega (arith, long)) in
    let e : mark ≡ sum (take at olds) = mark_is ∙ get_or_default marks b mark 0 there ∙ m.left b (omega arith) there in
    let f : next ≡ get_or news at 0 = next_is ∙ get_or_default news at next 0 room in
    let s : sum (take (suc at) news) ≡ sum (take at olds) + number = sum_insert olds k at number before inside in
    let t : sum (take (at + 1) news) ≡ sum (take at news) + get_or news at 0 = sum_by_more (λ n. n) news at 0 room in
    let u : sum (take (suc at) news) ≡ sum (take at news) + get_or news at 0 = ap (λ n. sum (take n news)) (sym (add-one at)) ∙ t in
    record {
      enough = omega (arith, e, f, s, u);
      mended = mended_next olds news marks b (mark + number - next) there (omega (arith, e, f, s, u)) m;
    }

-- a mark after a number before it was taken out; `last` is the number that comes before it now
pub record RemoveTurn (olds : List ℕ) (k number : ℕ) (marks : List ℕ) (b mark last : ℕ) : Type 0 where
  pub enough : number ≤ mark + last
  pub fits : mark + last ≤ sum olds
  pub mended : AreMended olds (remove olds k) (slice_set marks b (mark + last - number)) (b + 1)

pub remove_turn : (olds : List ℕ) (k number : ℕ) (marks : List ℕ) (b mark last : ℕ)
    → k < length olds → k < 64 * b + 64 → b < length marks → 64 * b + 64 < length olds → mark ≡ get_or marks b mark
    → number ≡ get_or olds k number → last ≡ get_or (remove olds k) (64 * b + 64 - 1) last
    → AreMended olds (remove olds k) marks b → RemoveTurn olds k number marks b mark last
remove_turn olds k number marks b mark last inside before there long mark_is number_is last_is m =
    let news = remove olds k in
    let at : ℕ = 64 * b + 63 in
    let same : 64 * b + 64 - 1 ≡ at = omega arith in
    let long_news : length news + 1 ≡ length olds = length-remove olds k inside in
    let room : at < length news = omega (arith, long_news, long) in
    let e : mark ≡ sum (take (64 * b + 64) olds) = mark_is ∙ get_or_default marks b mark 0 there ∙ m.left b (omega arith) there in
    let f : number ≡ get_or olds k 0 = number_is ∙ get_or_default olds k number 0 inside in
    let g : last ≡ get_or news at 0 = last_is ∙ ap (λ n. get_or news n last) same ∙ get_or_default news at last 0 room in
    let s : sum (take (suc at) olds) ≡ sum (take at news) + get_or olds k 0 = sum_remove olds k at (omega (arith, before)) inside in
    let one_more : 64 * b + 64 ≡ suc at = omega arith in
    let p : sum (take (64 * b + 64) olds) ≡ sum (take at news) + get_or olds k 0 = ap (λ n. sum (take n olds)) one_more ∙ s in
    let t : sum (take (at + 1) news) ≡ sum (take at news) + get_or news at 0 = sum_by_more (λ n. n) news at 0 room in
    let q : sum (take (64 * b + 64) news) ≡ sum (take at news) + get_or news at 0 =
    ap (λ n. sum (take n news)) (one_more ∙ sym (add-one at)) ∙ t in
    let all : sum news + get_or olds k 0 ≡ sum olds = sum_by-remove (λ n. n) olds k 0 inside in
    let w : sum (take (64 * b + 64) news) ≤ sum news = sum_by-take-le (λ n. n) news (64 * b + 64) in
    record {
      enough = omega (arith, e, f, p);
      fits = omega (arith, e, f, g, p, q, all, w);
      mended = mended_next olds news marks b (mark + last - number) there (omega (arith, e, f, g, p, q)) m;
    }

-- a mark with a number that was put in before it fits
pub mark_fits : (olds : List ℕ) (k number : ℕ) (marks : List ℕ) (b mark : ℕ)
    → k ≤ length olds → k ≤ 64 * b + 64 → b < length marks → mark ≡ get_or marks b mark
    → AreMended olds (insert olds k number) marks b → mark + number ≤ sum (insert olds k number)
mark_fits olds k number marks b mark inside before there mark_is m =
    let news = insert olds k number in
    let at : ℕ = 64 * b + 64 in
    let e : mark ≡ sum (take at olds) = mark_is ∙ get_or_default marks b mark 0 there ∙ m.left b (omega arith) there in
    let s : sum (take (suc at) news) ≡ sum (take at olds) + number = sum_insert olds k at number before inside in
    let w : sum (take (suc at) news) ≤ sum news = sum_by-take-le (λ n. n) news (suc at) in
    omega (arith, e, s, w)
