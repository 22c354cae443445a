-- what is asked of what is kept, and which answer is right
pub mod ResumeAnswer
-- the laws of resumption
pub mod ResumeLaws
