-- What is read behind the blanks is the next item.
use Rattle.std.specs.Prelude.{ℕ, ◌-◌, drop, length}
use Rattle.std.proofs.Common.{ap, ◌∙◌, arith, length-drop}
use Rattle.std.proofs.lemmas.List.{take_all}
use Rattle.std.proofs.lemmas.Result.{err_from_is_err_and}
use Rattle.plcs_store.specs.InputItem.{behind_blanks, item_at_front}
use Rattle.plcs_store.proofs.input_item.read_item.Goals as goal

pub returns-in_err-value-clause-item : goal.returns-in_err-value-clause-item
returns-in_err-value-clause-item c =
    let n = c.blanks_before-blanks.result in
    let input = c.args.input.now in
    let p = err_from_is_err_and c.from_residual.result c.from_residual.ensures.1 in
    rw (p.1, p.2)
    (ap (behind_blanks n)
    (c.in_err-value.ensures.item
    ∙ ap (item_at_front c.args.ty) (take_all (length input - n) (drop n input) (omega (arith, length-drop n input))))
    ∙ ap (λ (m : ℕ). behind_blanks m (item_at_front c.args.ty (drop m input))) c.blanks_before-blanks.ensures.blanks)

pub returns-clause-item : goal.returns-clause-item
returns-clause-item c =
    let n = c.blanks_before-blanks.result in
    let input = c.args.input.now in
    ap (behind_blanks n)
    (c.in_ok-value.ensures.item
    ∙ ap (item_at_front c.args.ty) (take_all (length input - n) (drop n input) (omega (arith, length-drop n input))))
    ∙ ap (λ (m : ℕ). behind_blanks m (item_at_front c.args.ty (drop m input))) c.blanks_before-blanks.ensures.blanks

pub returns-clause-within : goal.returns-clause-within
returns-clause-within c =
    let n = c.blanks_before-blanks.result in
    let input = c.args.input.now in
    let whole = take_all (length input - n) (drop n input) (omega (arith, length-drop n input)) in
    omega (arith, c.blanks_before-blanks.ensures.within, c.in_ok-value.ensures.within, ap length whole, length-drop n input)
