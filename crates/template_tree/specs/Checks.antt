-- Declarations, headings, verdicts and marks.
pub mod Environment
pub mod ParameterItem
pub mod Mention
pub mod KindTable
pub mod Verdict
pub mod Marks
pub mod ProgramMaps
