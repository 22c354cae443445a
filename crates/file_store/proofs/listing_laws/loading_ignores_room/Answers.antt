use Rattle.file_store.proofs.RoomlessListings.{loading_ignores_room}
use Rattle.file_store.proofs.listing_laws.loading_ignores_room.Goals as goal

pub returns : goal.returns
returns c =
    let laws = c.room_is_not_shown.ensures in
    loading_ignores_room laws.trees laws.counts laws.listing
