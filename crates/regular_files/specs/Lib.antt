-- ---- what is claimed of regular files, of whose bytes nothing is told
pub mod RegularFiles
