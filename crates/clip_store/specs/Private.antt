-- Words that private contracts alone cite: nobody has to believe them.
-- ---- how the plain data is told apart
pub mod ClipsCode
-- ---- clips in memory
pub mod ClipsView
