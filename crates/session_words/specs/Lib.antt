-- ---- commands as plain data
pub mod PlainCommand
-- ---- the table of commands
pub mod Argument
pub mod CommandTable
-- ---- which command a line is
pub mod CommandLine
-- ---- the texts of messages
pub mod Message
-- ---- what private contracts alone cite
pub mod Private
