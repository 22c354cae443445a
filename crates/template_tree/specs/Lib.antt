-- ---- nodes and trees as plain data; which of them are programs, and trees within the limits
pub mod Programs
-- ---- where a node stands, where the cursor may stand, and where a run may
pub mod Positions
-- ---- edits, their receipts and answers, and copies
pub mod Edits
-- ---- declarations, headings, verdicts and marks
pub mod Checks
-- ---- the listing, line by line
pub mod Listings
-- ---- the laws of nodes, trees, room and checks
pub mod Laws
-- ---- what private contracts alone cite
pub mod Private
