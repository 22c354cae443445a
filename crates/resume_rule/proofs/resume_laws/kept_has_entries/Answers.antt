use Rattle.resume_rule.proofs.KeptEntries.{kept_has_entries}
use Rattle.resume_rule.proofs.resume_laws.kept_has_entries.Goals as goal

pub returns : goal.returns
returns c = kept_has_entries
