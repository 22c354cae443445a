-- What the bytes that are passed say of where a constant is closed, the bytes from here on say.
use Rattle.std.specs.Prelude.{◌≡◌, ℕ, ◌+◌, ◌<◌, Bool, false, true, cond, List, ◌∷◌, drop, length, Some}
use Rattle.std.proofs.Common.{ap, sym, ◌∙◌, arith, get_or}
use Rattle.std.proofs.lemmas.Bool.{eq-eqb, ne_eqb}
use Rattle.std.proofs.lemmas.List.{at_drop_more, at_drop_all}
use Rattle.plcs_store.specs.InputItem.{closed_at}
use Rattle.plcs_store.proofs.input_item.constant_length.Goals as goal
use Rattle.plcs_store.proofs.input_item.constant_length.Goals.{then-not-behind_quote, else-not-behind_quote+then-quote}

-- the next byte at its place
at_byte : (input : List ℕ) (n : ℕ) (behind_quote : Bool) → n < length input
    → closed_at n behind_quote (drop n input) ≡ closed_at n behind_quote (get_or input n 0 ∷ drop (n + 1) input)
at_byte input n behind_quote within = at_drop_more (closed_at n behind_quote) input n 0 within

pub loop-count-preserved : goal.loop-count-preserved
loop-count-preserved c =
    let n = c.loop-count.count in
    let input = c.args.input.now in (
      omega arith,
      elim c.if-not-behind_quote.branch [
        | then-not-behind_quote w ↦
            ap (λ (q : Bool). closed_at (n + 1) q (drop (n + 1) input)) w.behind_quote-is
            ∙ sym (at_byte input n false c.loop-count-test.true)
            ∙ ap (λ (q : Bool). closed_at n q (drop n input)) (sym w.if-not-behind_quote.true) ∙ c.loop-count.invariant.1
        | else-not-behind_quote+then-quote w ↦
            ap (λ (q : Bool). closed_at (n + 1) q (drop (n + 1) input)) w.behind_quote-is
            ∙ sym (ap (λ (b : Bool). cond b (closed_at (n + 1) false (drop (n + 1) input)) (Some n)) (eq-eqb (get_or input n 0) 39 w.if-quote.true))
            ∙ sym (at_byte input n true c.loop-count-test.true)
            ∙ ap (λ (q : Bool). closed_at n q (drop n input)) (sym w.if-not-behind_quote.false) ∙ c.loop-count.invariant.1
      ],
    )

pub returns-else-quote-clause-closed : goal.returns-else-quote-clause-closed
returns-else-quote-clause-closed c =
    let n = c.loop-count.count in
    let input = c.args.input.now in
    sym (ap (λ (b : Bool). cond b (closed_at (n + 1) false (drop (n + 1) input)) (Some n)) (ne_eqb (get_or input n 0) 39 c.if-quote.false))
    ∙ sym (at_byte input n true c.loop-count-test.true)
    ∙ ap (λ (q : Bool). closed_at n q (drop n input)) (sym c.if-not-behind_quote.false) ∙ c.loop-count.invariant.1

pub returns-then-behind_quote-clause-closed : goal.returns-then-behind_quote-clause-closed
returns-then-behind_quote-clause-closed c =
    let n = c.loop-count.count in
    let input = c.args.input.now in
    sym (at_drop_all (closed_at n true) input n c.loop-count-test.false)
    ∙ ap (λ (q : Bool). closed_at n q (drop n input)) (sym c.if-behind_quote.true) ∙ c.loop-count.invariant.1
