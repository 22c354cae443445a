-- Words that private contracts alone cite: nobody has to believe them.
pub mod PassedSoFar
