-- `moved`, `first` and `last`: the first and the last of lists that are put together
pub mod ListEnds
-- `stops_are_distinct` and `stops_rise`: lists whose elements are apart
pub mod ApartLists
-- every answer of the code that is there or not
pub mod FoundNodes
-- nodes and their paths in listing order
pub mod Nodes
-- stops in listing order
pub mod Stops
