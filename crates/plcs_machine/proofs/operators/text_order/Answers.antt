-- Each byte is told by its call, so the order of the bytes is the first part of the order of what is left: it counts
-- unless they are equal, and then what is behind them counts.
use Rattle.std.proofs.Common.{ℕ, ◌≡◌, ◌∙◌, List, get_or, sym, ap, arith}
use Rattle.std.specs.Ordering.{nat_cmp}
use Rattle.std.specs.declared.cmp.Ordering.{Ordering}
use Rattle.plcs_machine.proofs.TextOrders.{order_more}
use Rattle.plcs_machine.proofs.operators.text_order.Goals as goal

-- the order of two bytes, from what their calls told
told : (order found : Ordering) (a b : ℕ) (x y : List ℕ) (k : ℕ) → found ≡ order → found ≡ nat_cmp a b → a ≡ get_or x k 32 → b ≡ get_or y k 32
    → order ≡ nat_cmp (get_or x k 32) (get_or y k 32)
told order found a b x y k is compared left right =
    sym is ∙ compared ∙ ap (λ (n : ℕ). nat_cmp n b) left ∙ ap (λ (n : ℕ). nat_cmp (get_or x k 32) n) right

pub returns-in-Less : goal.returns-in-Less
returns-in-Less c =
    let x = c.args.left.now in
    let y = c.args.right.now in
    let k = c.loop-k.k in
    let order = told Ordering.Less c.cmp.result c.byte_or_blank.result c.byte_or_blank-in-loop-k.result x y k c.in-Less.is c.cmp.ensures
    c.byte_or_blank.ensures c.byte_or_blank-in-loop-k.ensures in
    sym (order_more x y k Ordering.Less (omega (arith, c.loop-k-test.true, c.max-k-end.ensures)) order) ∙ c.loop-k.invariant

pub returns-in-Greater : goal.returns-in-Greater
returns-in-Greater c =
    let x = c.args.left.now in
    let y = c.args.right.now in
    let k = c.loop-k.k in
    let order = told Ordering.Greater c.cmp.result c.byte_or_blank.result c.byte_or_blank-in-loop-k.result x y k c.in-Greater.is c.cmp.ensures
    c.byte_or_blank.ensures c.byte_or_blank-in-loop-k.ensures in
    sym (order_more x y k Ordering.Greater (omega (arith, c.loop-k-test.true, c.max-k-end.ensures)) order) ∙ c.loop-k.invariant

pub loop-k-preserved : goal.loop-k-preserved
loop-k-preserved c =
    let x = c.args.left.now in
    let y = c.args.right.now in
    let k = c.loop-k.k in
    let order = told Ordering.Equal c.cmp.result c.byte_or_blank.result c.byte_or_blank-in-loop-k.result x y k c.in-Equal.is c.cmp.ensures
    c.byte_or_blank.ensures c.byte_or_blank-in-loop-k.ensures in
    sym (order_more x y k Ordering.Equal (omega (arith, c.loop-k-test.true, c.max-k-end.ensures)) order) ∙ c.loop-k.invariant
