use Rattle.std.proofs.lemmas.Result.{err_from_is_err_and}
use Rattle.key_journal.proofs.Clearings.{clear_fails, clear_ends}
use Rattle.key_journal.proofs.journal.clear_keys.Goals as goal

pub returns-in_err-write_at-clause-clears : goal.returns-in_err-write_at-clause-clears
returns-in_err-write_at-clause-clears g c =
    let p = err_from_is_err_and c.from_residual.result c.from_residual.ensures.1 in
    rw p.1 (clear_fails _ _ _ c.requires c.in_err-write_at.ensures.torn)

pub returns-clause-clears : goal.returns-clause-clears
returns-clause-clears g c =
    clear_ends _ (g.D.Disk.past c.write_at.new.self) _ _ c.requires c.in_ok-write_at.ensures.whole
    c.sync.ensures.whole c.sync.ensures.same
