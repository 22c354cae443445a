-- what holds at each moment of several calls, one after the other
pub mod Moments
-- a write that is synced at once
pub mod SyncedWrites
-- a journal's bytes as blocks
pub mod Blocks
-- a key that is kept
pub mod KeptKeys
-- a key that is found, and a gate that is shut behind the last
pub mod FoundKeys
-- the next key of a journal
pub mod ReadKeys
-- a journal that is opened, and cleared
pub mod Clearings
-- what a journal's fields keep, and that no key is lost that was given
pub mod Held
-- the bytes left of a journal, as a source
pub mod BytesLeft
-- what became of a journal after some reads
pub mod MoreReads
-- a buffer that is filled from a file
pub mod Fillings
-- the states of a disk in memory
pub mod MemDisks
-- the laws of what a disk reads as
pub mod Images
