-- Where a line end doesn't fit, nothing behind it does.
use Rattle.std.proofs.Common.{◌≤◌, ◌≡◌, length, take, subst, sym, ap, ◌∙◌, arith, ℕ, List}
use Rattle.std.proofs.Math.Bool.{false≢true}
use Rattle.plcs_store.specs.Limit.{most_output}
use Rattle.plcs_store.specs.OutputItem.{with_items_written, with_line_ended}
use Rattle.plcs_store.proofs.WrittenItems.{front_kept, items_longer, line_front, line_longer, on_refusal, refuses}
use Rattle.plcs_store.proofs.output.Output.write_on_new_line.Goals as goal

pub returns-in_err-end_line-clause-fits : goal.returns-in_err-end_line-clause-fits
returns-in_err-end_line-clause-fits c =
    let ended = with_line_ended c.args.self.now in
    let whole = with_items_written ended c.args.items.now in
    refuses c.from_residual.result (length whole ≤ most_output) c.from_residual.ensures.0
    (λ few. false≢true (c.in_err-end_line.ensures.fits.1 (omega (arith, items_longer ended c.args.items.now, few))))

pub returns-clause-kept : goal.returns-clause-kept
returns-clause-kept c =
    let old = c.args.self.now in
    let mid = c.end_line.new.self in
    let new = c.write_all.new.self in
    let ended : mid ≡ with_line_ended old = c.in_ok-end_line.ensures.written in
    on_refusal c.write_all.result (take (length mid) new ≡ mid) (take (length old) new ≡ old)
    (front_kept old mid new
    (subst (λ (one : List ℕ). length old ≤ length one) (sym ended) (line_longer old))
    (ap (take (length old)) ended ∙ line_front old))
    c.write_all.ensures.kept
