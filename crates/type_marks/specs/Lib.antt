-- ---- verdicts that are kept, and what a prepared edit makes of them
pub mod PlainMarks
pub mod MarkEdit
pub mod VerdictLaws
-- ---- what private contracts alone cite
pub mod Private
