use Rattle.file_store.proofs.OneOutcome.{never_refused}
use Rattle.file_store.proofs.Outcomes.{one_refusal}
use Rattle.file_store.proofs.listing_laws.one_outcome.Goals as goal

pub returns-clause-refusal : goal.returns-clause-refusal
returns-clause-refusal c = one_refusal c.line_laws.ensures

pub returns-clause-listing : goal.returns-clause-listing
returns-clause-listing c = never_refused c.line_laws.ensures
