-- Words that private contracts alone cite: nobody has to believe them.
pub mod Chain
pub mod Link
pub mod Separator
-- how phrases are told apart, for the views of the crates above
pub mod PhraseCode
