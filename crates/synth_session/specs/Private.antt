-- Words that private contracts alone cite: nobody has to believe them.
-- ---- what came of an edit, and why an edit isn't made or text isn't entered
pub mod Faults
-- ---- the bytes of a typed line, and of a row of code, that are put one by one
pub mod LineText
pub mod CodeLine
-- ---- the run that a session holds, and what becomes of it
pub mod HeldRunCode
pub mod HeldRunKept
-- ---- the steps by the code of a program
pub mod ProgramSteps
-- ---- what the steps of a tick did
pub mod TickDone
-- ---- what the steps of a tick have come to
pub mod TickLoop
-- ---- a run that keeps what is asked for, around an edit
pub mod KeptRun
-- ---- what comes of a key by which a run is to go on
pub mod RunReply
-- ---- what comes of a key that takes no memory
pub mod MemorylessKey
-- ---- what comes of a key that asks the files, and counts nothing
pub mod UncountedKey
-- ---- a program that was edited, and one in which an edit was undone
pub mod EditedProgram
pub mod UndoneProgram
-- ---- an edit that was prepared in what depends on a program
pub mod PreparedProgram
