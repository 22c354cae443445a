-- ---- sizes of screens
pub mod PlainScreenSize
pub mod PlainScreens
-- ---- the run that a session holds
pub mod PlainHeldRun
-- ---- the session as plain data
pub mod PlainRun
pub mod PlainSession
pub mod RefusalText
pub mod Window
pub mod CheckedPhrases
pub mod ProgramCode
pub mod ProgramBill
pub mod ProgramDue
pub mod OpenedSession
pub mod KeyOutcome
-- ---- what a key asks, and what is replied
pub mod KeyReply
-- ---- the steps that a key makes in a run
pub mod RunNotice
pub mod RunStop
pub mod Tick
-- ---- what each key does
pub mod TypedLine
pub mod CursorKeys
pub mod EditCommands
pub mod ClipCommands
pub mod ElideCommand
pub mod UndoCommand
pub mod FileCommands
pub mod RunCommands
pub mod CodeCommand
pub mod EnteredLine
pub mod Press
pub mod UndoLaw
pub mod MemoryTaken
pub mod KeyRequest
-- ---- the screen of a session
pub mod SessionScreen
-- ---- what is counted
pub mod CountedKey
-- ---- the session in the code
pub mod SessionView
-- ---- what private contracts alone cite
pub mod Private
