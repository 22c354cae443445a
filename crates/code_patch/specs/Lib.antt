-- ---- what an edit touches, and its bill
pub mod MarkKinds
pub mod Bill
-- ---- code that is kept node by node, and the code that it tells
pub mod CodeForest
pub mod ItemNames
pub mod SoundCode
-- ---- what a prepared edit makes of it
pub mod CodeEdit
pub mod PreparedEdit
-- ---- the laws of kept code
pub mod KeptCodeLaws
-- ---- what private contracts alone cite
pub mod Private
