-- Words that private contracts alone cite: nobody has to believe them.
-- ---- how the plain data is told apart
pub mod PartsCode
pub mod HeldCode
