-- Words that private contracts alone cite: nobody has to believe them.
-- ---- the effective items of a procedure in memory, and how they are taken
pub mod ItemsView
pub mod ItemFoldView
-- ---- nodes whose names are kept
pub mod PlainNameNode
pub mod NamesCode
pub mod NameNodeView
pub mod NamePaths
pub mod NameRoomView
pub mod NameMendView
pub mod NameTests
pub mod ChangeBefore
pub mod NameWeight
-- ---- the uses of names, and how they are noted
pub mod UsesView
pub mod UsesMended
-- ---- what is due for a check
pub mod AffectedView
pub mod ItemTests
pub mod DuePlaces
-- ---- what is gathered that has to be known there
pub mod KnownTable
-- ---- a table in memory, and a prepared edit
pub mod DeclsView
pub mod ReachView
pub mod ItemChangeView
pub mod HeadingChangesView
pub mod DeclEditView
