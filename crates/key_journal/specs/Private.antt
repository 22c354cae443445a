-- Words that private contracts alone cite: nobody has to believe them.
pub mod Writes
pub mod Stages
pub mod Keeping
pub mod MemDiskFields
pub mod ReadImage
