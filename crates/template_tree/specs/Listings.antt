-- The listing, line by line.
pub mod Section
pub mod PlainSectionsLeft
pub mod Line
pub mod Listing
