-- The room of lists makes no difference.
-- the new program is a tree, whatever room its lists have
pub mod Rooms
-- a tree is one with and without room
pub mod RoomlessTrees
-- an edit does the same without the room of lists; what an undone edit gives back
pub mod RoomlessEdits
-- `room_is_not_shown`: nodes at paths, lines and stops, and comments turned are the same with and without room
pub mod RoomlessNodes
-- `room_is_not_shown`: nodes at paths, lines and stops, and comments turned are the same with and without room
pub mod RoomlessStops
-- `room_is_not_shown`: nodes at paths, lines and stops, and comments turned are the same with and without room
pub mod RoomlessTurns
-- `edits_ignore_room`
pub mod RoomlessChanges
