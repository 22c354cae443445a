-- ---- disks
pub mod Disk
pub mod Faults
pub mod MemDisk
pub mod DiskFile
-- ---- the journal
pub mod Recovered
pub mod Crash
pub mod Journal
pub mod OpenedJournal
pub mod JournalRead
pub mod ClearedJournal
pub mod AfterReads
-- ---- what private contracts alone cite
pub mod Private
