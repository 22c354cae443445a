use Rattle.plcs_code.proofs.PlaceAddresses.{places_have_addresses}
use Rattle.plcs_code.proofs.code_laws.places_have_addresses.Goals as goal

pub returns : goal.returns
returns c = places_have_addresses
