-- ---- the sequences that a terminal's bytes are made of, and what passes of each
pub mod Sequence
-- ---- what becomes of all bytes
pub mod PassedKeys
pub mod Ending
-- ---- what private contracts alone cite
pub mod Private
