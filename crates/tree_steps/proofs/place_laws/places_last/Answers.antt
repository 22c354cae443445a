use Rattle.tree_steps.proofs.KeptPlaces.{agreement_keeps_loops, agreement_keeps_places, agreement_keeps_starts}
use Rattle.tree_steps.proofs.place_laws.places_last.Goals as goal

pub returns-clause-loops : goal.returns-clause-loops
returns-clause-loops c = agreement_keeps_loops

pub returns-clause-starts : goal.returns-clause-starts
returns-clause-starts c = agreement_keeps_starts

pub returns-clause-places : goal.returns-clause-places
returns-clause-places c = agreement_keeps_places
