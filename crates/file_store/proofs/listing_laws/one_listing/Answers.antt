use Rattle.file_store.proofs.ListedLines.{one_program}
use Rattle.file_store.proofs.listing_laws.one_listing.Goals as goal

pub returns : goal.returns
returns c = one_program c.line_laws.ensures
