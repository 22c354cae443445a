-- The laws of nodes, trees, room and checks.
pub mod NodeLaws
pub mod TreeLaws
pub mod RoomLaws
pub mod CheckLaws
