-- Words that private contracts alone cite: nobody has to believe them.
-- ---- how far a path is shown, and paths to visible nodes
pub mod ShownPath
-- ---- the room of lists
pub mod RoomLaws
