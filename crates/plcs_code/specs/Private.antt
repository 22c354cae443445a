-- Words that private contracts alone cite: nobody has to believe them.
-- ---- how instructions, codes and their maps are told apart
pub mod InstrCode
pub mod OwnCodeCode
-- ---- how maps of code are filled
pub mod CodeMaps
-- ---- code while it is laid
pub mod LaidCode
pub mod LaysAll
pub mod PlainDraft
pub mod PlainHalt
pub mod PlainJumps
pub mod PutInstr
