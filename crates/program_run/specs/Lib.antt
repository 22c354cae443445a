-- ---- the words of the command
pub mod RunCommand
pub mod GivenWords
pub mod AskedRun
-- ---- the files that are loaded
pub mod RunFiles
-- ---- the run, how it ends, and the line at which it stands
pub mod ReachedConfiguration
pub mod RunEnding
pub mod CountedRun
pub mod StoppedLine
pub mod RunOutcome
-- ---- what is reported of it
pub mod ReportText
-- ---- what private contracts alone cite
pub mod Private
