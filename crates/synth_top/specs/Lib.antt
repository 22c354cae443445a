-- ---- the words of the command
pub mod Number
pub mod Given
pub mod Options
pub mod Task
-- ---- keys, and what one makes of session and files
pub mod Keys
pub mod Turn
-- ---- the files that are loaded first, and the one that is saved last
pub mod Loads
pub mod Rescue
-- ---- a program that is made by the word `--make`
pub mod MadeText
pub mod Summary
pub mod Making
-- ---- whole runs
pub mod Status
pub mod Counted
pub mod WholeRun
-- ---- what private contracts alone cite
pub mod Private
