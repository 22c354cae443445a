use Rattle.key_journal.proofs.ReadKeys.{found_kept, read_behind}
use Rattle.key_journal.proofs.keeping.next_key.Goals as goal

pub returns-in-Some-clause-read : goal.returns-in-Some-clause-read
returns-in-Some-clause-read g c =
    found_kept _ c.args.given c.in-Some.key _ _ (rw c.in-Some.is at c.in_ok-key.ensures.found.replays)

pub returns-in-None-clause-read : goal.returns-in-None-clause-read
returns-in-None-clause-read g c =
    read_behind _ _ c.args.given _ (g.D.Disk.past c.replay.new.disk) _ _
    c.in_ok-key.ensures.found.replays.each c.append.ensures.read
