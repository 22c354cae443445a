use Rattle.key_journal.proofs.FoundKeys.{cut_within, cut_synced, shuts_gate}
use Rattle.key_journal.proofs.keeping.shut_gate.Goals as goal

pub write_synced-requires-clause-synced : goal.write_synced-requires-clause-synced
write_synced-requires-clause-synced g c = cut_synced c.args.given _ c.requires.cut

pub write_synced-requires-clause-within : goal.write_synced-requires-clause-within
write_synced-requires-clause-within g c = cut_within c.args.given _ c.requires.cut

pub returns-clause-shut : goal.returns-clause-shut
returns-clause-shut g c = shuts_gate c.args.given _ _ _ c.requires.cut c.write_synced.ensures.written
