-- Words that private contracts alone cite: nobody has to believe them.
pub mod Comparison
pub mod CountedSteps
pub mod PlainLed
pub mod InstructionLead
pub mod DoableLead
pub mod WalkedStep
pub mod MakingFrame
