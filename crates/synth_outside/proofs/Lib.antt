-- the law of commits, and that files in memory are a map
pub mod Maps
-- what is set among the entries of files in memory, as a list
pub mod Placing
-- what is found and set among the entries of files in memory, as a map
pub mod ListedFiles
