-- what holds at each moment of several calls, one after the other
pub mod Moments
-- `ended`: the bytes that the editor was given, as keys that were kept or taken
pub mod GivenKeys
-- `ended`: the keys that were pressed among those that a crash leaves
pub mod PressedKeys
-- `ended`: how many keys are taken at most
pub mod Limits
-- `ended`: where a key ended the session, and where the source did
pub mod Quits
-- `ended`: what the editor did over a journal, by what became of the journal
pub mod Editing
-- `ended`: a journal that is closed after it
pub mod Closed
