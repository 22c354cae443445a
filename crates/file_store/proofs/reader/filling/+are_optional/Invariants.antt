use Rattle.std.proofs.Common.{length}
use Rattle.file_store.proofs.reader.filling.+are_optional.Given as goal

abbrev pub decreases-are_optional : goal.decreases-are_optional
decreases-are_optional l = length l.sections.now
