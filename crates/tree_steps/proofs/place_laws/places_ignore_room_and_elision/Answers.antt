use Rattle.tree_steps.proofs.PlaceSubstances.{sites_alike}
use Rattle.tree_steps.proofs.RoomlessPlaces.{places_ignore_elision, places_ignore_room}
use Rattle.tree_steps.proofs.place_laws.places_ignore_room_and_elision.Goals as goal

pub returns-clause-room : goal.returns-clause-room
returns-clause-room c = places_ignore_room c.checks_ignore_room_and_elision.ensures.room

pub returns-clause-elision : goal.returns-clause-elision
returns-clause-elision c = places_ignore_elision c.checks_ignore_room_and_elision.ensures.elision

pub returns-clause-substance : goal.returns-clause-substance
returns-clause-substance c = sites_alike
