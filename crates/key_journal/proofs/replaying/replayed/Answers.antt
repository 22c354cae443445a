use Rattle.std.proofs.Common.{subst, sym, List}
use Rattle.key_journal.specs.Disk.{DiskState, Newest}
use Rattle.key_journal.specs.Private.Stages.{IsCutOff}
use Rattle.key_journal.proofs.FoundKeys.{finds_cut, replays_open, replays_shut}
use Rattle.key_journal.proofs.replaying.replayed.Goals as goal

pub shut_gate-requires-clause-cut : goal.shut_gate-requires-clause-cut
shut_gate-requires-clause-cut g c =
    subst (λ (states : List DiskState). Newest (IsCutOff c.args.given) states) (sym c.block_behind.ensures.same)
    (finds_cut c.args.given _ c.requires.replaying (rw c.in-Cut.is at c.in_ok-key.ensures.block))

pub returns-in-Open-clause-found : goal.returns-in-Open-clause-found
returns-in-Open-clause-found g c =
    replays_open c.args.given c.in-Open.key _ _ c.requires.replaying
    (rw c.in-Open.is at c.in_ok-key.ensures.block) c.block_behind.ensures.same

pub returns-in-Shut-clause-found : goal.returns-in-Shut-clause-found
returns-in-Shut-clause-found g c =
    replays_shut c.args.given _ _ c.requires.replaying
    (rw c.in-Shut.is at c.in_ok-key.ensures.block) c.block_behind.ensures.same
