use Rattle.std.proofs.lemmas.Result.{err_from_is_err_and}
use Rattle.key_journal.proofs.KeptKeys.{PutsKey, key_within, gate_within, appending_synced, stands_synced, puts_key, key_fails, keeps_key}
use Rattle.key_journal.proofs.keeping.keep.Goals as goal

pub write_synced-requires-clause-synced : goal.write_synced-requires-clause-synced
write_synced-requires-clause-synced g c = appending_synced c.args.given _ c.requires.appending

pub write_synced-requires-clause-within : goal.write_synced-requires-clause-within
write_synced-requires-clause-within g c = key_within c.args.given _ c.requires.appending

pub returns-in_err-write_synced-clause-kept : goal.returns-in_err-write_synced-clause-kept
returns-in_err-write_synced-clause-kept g c =
    let p = err_from_is_err_and c.from_residual.result c.from_residual.ensures.1 in
    rw p.1 (key_fails c.args.given c.args.key _ _ _ c.requires.appending c.in_err-write_synced.ensures.written.each)

pub write_synced-requires-2-clause-synced : goal.write_synced-requires-2-clause-synced
write_synced-requires-2-clause-synced g c =
    let puts : PutsKey c.args.given c.args.key (g.D.Disk.past c.args.disk.now) (g.D.Disk.past c.write_synced.new.disk) =
    puts_key c.args.given c.args.key _ _ c.requires.appending c.in_ok-write_synced.ensures.written in
    stands_synced c.args.given c.args.key _ _ puts.stands

pub write_synced-requires-2-clause-within : goal.write_synced-requires-2-clause-within
write_synced-requires-2-clause-within g c =
    let puts : PutsKey c.args.given c.args.key (g.D.Disk.past c.args.disk.now) (g.D.Disk.past c.write_synced.new.disk) =
    puts_key c.args.given c.args.key _ _ c.requires.appending c.in_ok-write_synced.ensures.written in
    gate_within c.args.given c.args.key _ _ puts.stands

pub returns-clause-kept : goal.returns-clause-kept
returns-clause-kept g c =
    keeps_key c.args.given c.args.key _ (g.D.Disk.past c.write_synced.new.disk) _ _
    (puts_key c.args.given c.args.key _ _ c.requires.appending c.in_ok-write_synced.ensures.written)
    c.write_synced-2.ensures.written
