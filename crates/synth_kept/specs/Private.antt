-- Words that private contracts alone cite: nobody has to believe them.
pub mod Clearing
pub mod Agreement
