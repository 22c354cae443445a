-- Words that private contracts alone cite: nobody has to believe them.
-- ---- paths of visible nodes, one after the other
pub mod NextPath
-- ---- numbers of parts and items
pub mod Number
