use Rattle.std.proofs.Common.{Some, None, sym, ◌∙◌}
use Rattle.decl_table.proofs.AddedUses.{then_ok}
use Rattle.decl_table.proofs.MendedUses.{mended_of, mends_none, mends_put, mends_there}
use Rattle.decl_table.proofs.uses.Uses.mend.Goals as goal

pub returns-then-has : goal.returns-then-has
returns-then-has c =
    mends_there c.args.before.now.uses c.args.went.now.uses c.args.came.now.uses c.args.self.now.uses c.args.name.now
    (sym c.has.ensures ∙ c.if-has.true)

pub returns-in-Ok-None : goal.returns-in-Ok-None
returns-in-Ok-None c =
    let name = c.args.name.now in
    let before = c.args.before.now.uses in
    mends_none before c.args.went.now.uses c.args.came.now.uses c.args.self.now.uses name
    (mended_of before c.args.went.now.uses c.args.came.now.uses name c.under.result.now c.under-2.result.now c.under-3.result.now
    c.in-Ok-None.field-0 None c.under.ensures c.under-2.ensures c.under-3.ensures c.in-Ok-None.field-0-is c.in-Ok-None.ensures)

pub returns-in-Ok-Some : goal.returns-in-Ok-Some
returns-in-Ok-Some c =
    let name = c.args.name.now in
    let before = c.args.before.now.uses in
    let places = c.in-Ok-Some.places in
    then_ok c.insert.result
    (λ is.
    mends_put before c.args.went.now.uses c.args.came.now.uses c.args.self.now.uses c.insert.new.self.uses name places is
    (mended_of before c.args.went.now.uses c.args.came.now.uses name c.under.result.now c.under-2.result.now c.under-3.result.now
    c.in-Ok-Some.field-0 (Some places) c.under.ensures c.under-2.ensures c.under-3.ensures c.in-Ok-Some.field-0-is c.in-Ok-Some.ensures))
    c.insert.ensures
