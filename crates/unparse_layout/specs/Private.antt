-- Words that private contracts alone cite: nobody has to believe them.
-- ---- how layouts are told apart, and how large they are
pub mod BonesCode
pub mod Weight
-- ---- a node of a layout, its lines and how many there are
pub mod PlainNodeLayout
pub mod Height
pub mod ItemLines
pub mod NodeLayoutView
pub mod NodeLayoutLend
-- ---- edits that were prepared for a layout
pub mod LayoutPaths
pub mod LayoutRoomView
pub mod LayoutEditView
pub mod ChangeBefore
-- ---- a line before it is laid, and its cells while they are put
pub mod PlainPlan
pub mod Cells
