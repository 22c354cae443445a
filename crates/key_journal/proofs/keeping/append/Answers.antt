use Rattle.std.proofs.lemmas.Result.{err_from_is_err_and}
use Rattle.key_journal.proofs.ReadKeys.{source_fails, source_ends, keep_fails, keep_done}
use Rattle.key_journal.proofs.keeping.append.Goals as goal

pub returns-in_err-key-clause-read : goal.returns-in_err-key-clause-read
returns-in_err-key-clause-read g c =
    let p = err_from_is_err_and c.from_residual.result c.from_residual.ensures.1 in
    rw p.1 (source_fails _ _ c.args.given _ _ c.requires.appending c.in_err-key.ensures.byte)

pub returns-in_err-keep-in-Some-clause-read : goal.returns-in_err-keep-in-Some-clause-read
returns-in_err-keep-in-Some-clause-read g c =
    let p = err_from_is_err_and c.from_residual-in_err-keep-in-Some.result c.from_residual-in_err-keep-in-Some.ensures.1 in
    rw p.1 (keep_fails _ _ c.args.given c.in-Some.key _ _ _ _ c.requires.appending
    (rw c.in-Some.is at c.in_ok-key.ensures.byte) c.in_err-keep-in-Some.ensures.kept)

pub returns-in_ok-keep-in-Some-clause-read : goal.returns-in_ok-keep-in-Some-clause-read
returns-in_ok-keep-in-Some-clause-read g c =
    keep_done _ _ c.args.given c.in-Some.key _ _ c.requires.appending
    (rw c.in-Some.is at c.in_ok-key.ensures.byte) c.in_ok-keep-in-Some.ensures.kept

pub returns-in-None-clause-read : goal.returns-in-None-clause-read
returns-in-None-clause-read g c =
    source_ends _ _ c.args.given _ c.requires.appending (rw c.in-None.is at c.in_ok-key.ensures.byte)
