use Rattle.std.proofs.Common.{ap}
use Rattle.clip_store.specs.PlainFragment.{PlainFragment}
use Rattle.clip_store.proofs.RoomlessFragments.{copy_roomless}
use Rattle.clip_store.proofs.fragment.Fragment.copy.Goals as goal

pub returns-in_ok-copy-in-Node-clause-copied : goal.returns-in_ok-copy-in-Node-clause-copied
returns-in_ok-copy-in-Node-clause-copied c =
    rw c.in-Node.is
    (ap PlainFragment.node (copy_roomless c.in-Node.node c.in_ok-copy-in-Node.field-0 c.in_ok-copy-in-Node.ensures.copied))
