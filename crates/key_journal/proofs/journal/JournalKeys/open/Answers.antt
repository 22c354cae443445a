use Rattle.key_journal.proofs.Clearings.{opens_disk}
use Rattle.key_journal.proofs.journal.JournalKeys.open.Goals as goal

pub returns-in-Ok-clause-ok : goal.returns-in-Ok-clause-ok
returns-in-Ok-clause-ok g c =
    opens_disk g.D.Disk.past g.D.Disk.faults c.args.disk c.sync.new.self c.in-Ok.ensures.whole c.in-Ok.ensures.cause
