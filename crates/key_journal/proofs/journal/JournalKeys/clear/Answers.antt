use Rattle.std.proofs.Common.{arith}
use Rattle.key_journal.proofs.Held.{holds_least, least_fewer}
use Rattle.key_journal.proofs.journal.JournalKeys.clear.Goals as goal

pub clear_keys-requires : goal.clear_keys-requires
clear_keys-requires g c =
    let some = rw (← c.self.view_is) at c.requires in
    least_fewer 1 c.self.inside.given _ (omega (arith, some)) (holds_least c.self.inside.stage c.self.inside.given _ c.self.invariant.holds)
