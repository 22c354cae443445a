-- Words that private contracts alone cite: nobody has to believe them.
pub mod ClapCommand
pub mod Loading
pub mod PlainForms
pub mod Pressing
pub mod PaintedScreen
pub mod TicksShown
pub mod EditorRuns
pub mod MakingText
pub mod MakingKeys
pub mod MakingTicks
pub mod CountedLines
pub mod WrittenSummary
