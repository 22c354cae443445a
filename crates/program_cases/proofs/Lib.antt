-- `OneMark`: the map of the one mark
pub mod OneMarks
-- `mark_of`: what the table of the program knows
pub mod KnownPhrases
-- `follow_beside`: what is kept of a program before an edit
pub mod FollowedEdits
