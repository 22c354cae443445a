-- Words that private contracts alone cite: nobody has to believe them.
-- ---- the ring in memory
pub mod KeptRing
-- ---- how rings are told apart
pub mod RingCode
