-- How bounds on counted work add up over calls, one after the other.
use Rattle.std.proofs.Common.{ℕ, ◌+◌, ◌≤◌, ◌∙◌, refl, sym, ap, subst, arith}
use Rattle.plcs_base.specs.Count.{raised}
use Rattle.plcs_base.specs.PlainCounts.{ChecksAtMost, ChecksOne, CountsNothing, LaysAtMost, LaysOne, PlainCounts}

-- a count that is raised is at most one more
raised_more : (count : ℕ) → raised count ≤ count + 1
raised_more count = omega arith

-- a count that is raised is no less
raised_later : (count : ℕ) → count ≤ raised count
raised_later count = omega arith

-- where nothing is counted no phrase is counted as checked
pub checks_none : {before now : PlainCounts} (most : ℕ) → CountsNothing before now → ChecksAtMost most before now
checks_none {before = before} {now = now} most nothing =
    let P : PlainCounts → Type 0 = λ counts. ChecksAtMost most before counts in
    subst P (sym nothing) (record { most = omega arith; later = omega arith; others = refl })

-- a phrase that is checked is at most one
pub checks_one : {before now : PlainCounts} (most : ℕ) → 1 ≤ most → ChecksOne before now → ChecksAtMost most before now
checks_one {before = before} {now = now} most room one =
    let P : PlainCounts → Type 0 = λ counts. ChecksAtMost most before counts in
    subst P (sym one) (record {
      most = omega (arith, room, raised_more before.checked);
      later = raised_later before.checked;
      others = refl;
    })

-- bounds on the phrases checked in two calls add up
pub checks_joined : {before between now : PlainCounts} {first second : ℕ} (most : ℕ)
    → first + second ≤ most → ChecksAtMost first before between → ChecksAtMost second between now → ChecksAtMost most before now
checks_joined {now = now} most room one two = record {
  most = omega (arith, room, one.most, two.most);
  later = omega (arith, one.later, two.later);
  others = two.others ∙ ap (λ (counts : PlainCounts). let changed : PlainCounts = record counts { checked = now.checked } in changed) one.others;
}

-- where nothing is counted no line is counted as laid out
pub lays_none : {before now : PlainCounts} (most : ℕ) → CountsNothing before now → LaysAtMost most before now
lays_none {before = before} {now = now} most nothing =
    let P : PlainCounts → Type 0 = λ counts. LaysAtMost most before counts in
    subst P (sym nothing) (record { most = omega arith; later = omega arith; others = refl })

-- a line that is laid out is at most one
pub lays_one : {before now : PlainCounts} (most : ℕ) → 1 ≤ most → LaysOne before now → LaysAtMost most before now
lays_one {before = before} {now = now} most room one =
    let P : PlainCounts → Type 0 = λ counts. LaysAtMost most before counts in
    subst P (sym one) (record {
      most = omega (arith, room, raised_more before.laid);
      later = raised_later before.laid;
      others = refl;
    })

-- bounds on the lines laid out in two calls add up
pub lays_joined : {before between now : PlainCounts} {first second : ℕ} (most : ℕ)
    → first + second ≤ most → LaysAtMost first before between → LaysAtMost second between now → LaysAtMost most before now
lays_joined {now = now} most room one two = record {
  most = omega (arith, room, one.most, two.most);
  later = omega (arith, one.later, two.later);
  others = two.others ∙ ap (λ (counts : PlainCounts). let changed : PlainCounts = record counts { laid = now.laid } in changed) one.others;
}
