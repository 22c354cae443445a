use Rattle.key_journal.proofs.ReadKeys.{sync_leaves, replay_behind}
use Rattle.key_journal.proofs.replaying.replay.Goals as goal

pub returns-in_ok-sync-in-Unsynced-clause-found : goal.returns-in_ok-sync-in-Unsynced-clause-found
returns-in_ok-sync-in-Unsynced-clause-found g c =
    replay_behind _ c.args.given _ (g.D.Disk.past c.sync.new.self) _ _
    (sync_leaves _ _ c.in_ok-sync-in-Unsynced.ensures.whole) c.replay_synced.ensures.found
