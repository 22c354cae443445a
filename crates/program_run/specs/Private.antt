-- Words that private contracts alone cite: nobody has to believe them.
pub mod PlainForms
pub mod LoadedFiles
pub mod ProgramCode
pub mod SteppedRun
pub mod WrittenOutput
pub mod CutLine
pub mod SoughtLine
