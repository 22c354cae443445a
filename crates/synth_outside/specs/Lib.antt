-- ---- the three traits
pub mod Source
pub mod Sink
pub mod Files
pub mod Cause
-- ---- the forms in memory
pub mod Calls
pub mod MemSource
pub mod MemSink
pub mod MemFiles
-- ---- the forms over std's streams and files
pub mod StdSource
pub mod StdSink
pub mod StdFiles
-- ---- what private contracts alone cite
pub mod Private
