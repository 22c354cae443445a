-- Where an item doesn't fit, none of those behind it does.
use Rattle.std.proofs.Common.{◌≤◌, length, subst, ℕ, List, refl}
use Rattle.std.proofs.Math.Bool.{false≢true}
use Rattle.plcs_store.specs.Limit.{most_output}
use Rattle.plcs_store.specs.OutputItem.{with_items_written}
use Rattle.plcs_store.proofs.WrittenItems.{last_written, next_too_long, refuses}
use Rattle.plcs_store.proofs.output.Output.write_all.Goals as goal

pub returns-in_err-write_one-clause-fits : goal.returns-in_err-write_one-clause-fits
returns-in_err-write_one-clause-fits c =
    let whole = with_items_written c.args.self.now c.args.items.now in
    refuses c.from_residual.result (length whole ≤ most_output) c.from_residual.ensures.0
    (next_too_long c.loop-value.self whole c.args.items.now c.loop-value.value-index most_output c.value-item.result c.loop-value-test.true
    c.value-item.is c.loop-value.invariant.same (λ few. false≢true (c.in_err-write_one.ensures.fits.1 few)))

pub returns-clause-fits : goal.returns-clause-fits
returns-clause-fits c =
    let whole = with_items_written c.args.self.now c.args.items.now in (
      λ ok.
          subst (λ (all : List ℕ). length all ≤ most_output)
          (last_written c.loop-value.self whole c.args.items.now c.loop-value.value-index c.loop-value-test.false c.loop-value.invariant.same)
          c.loop-value.invariant.few,
      λ few. refl,
    )
