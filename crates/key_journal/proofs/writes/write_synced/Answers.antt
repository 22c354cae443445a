use Rattle.std.proofs.lemmas.Result.{err_from_is_err_and}
use Rattle.key_journal.proofs.SyncedWrites.{write_fails, sync_fails, both_done}
use Rattle.key_journal.proofs.writes.write_synced.Goals as goal

pub returns-in_err-write_at-clause-written : goal.returns-in_err-write_at-clause-written
returns-in_err-write_at-clause-written g c =
    let p = err_from_is_err_and c.from_residual.result c.from_residual.ensures.1 in
    rw p.1 (write_fails c.args.at c.args.piece.now _ _ _ c.requires.synced c.in_err-write_at.ensures.torn)

pub returns-in_err-sync-clause-written : goal.returns-in_err-sync-clause-written
returns-in_err-sync-clause-written g c =
    let p = err_from_is_err_and c.from_residual-in_err-sync.result c.from_residual-in_err-sync.ensures.1 in
    rw p.1 (sync_fails c.args.at c.args.piece.now _ (g.D.Disk.past c.write_at.new.self) _ _
    c.requires.synced c.requires.within c.in_ok-write_at.ensures.whole c.in_err-sync.ensures.same)

pub returns-clause-written : goal.returns-clause-written
returns-clause-written g c =
    both_done c.args.at c.args.piece.now _ (g.D.Disk.past c.write_at.new.self) _
    c.requires.synced c.requires.within c.in_ok-write_at.ensures.whole c.in_ok-sync.ensures.whole
