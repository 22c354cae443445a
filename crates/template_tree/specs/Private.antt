-- Words that private contracts alone cite: nobody has to believe them.
-- ---- how the plain data is told apart, and how large it is
pub mod NodeCode
pub mod Weight
pub mod NodeView
pub mod ReceiptCode
pub mod ReceiptView
-- ---- the listing while it is put
pub mod NodeLines
-- ---- an edit in its steps
pub mod Exchange
pub mod Restored
pub mod Exchanged
-- ---- lists of items
pub mod Apart
