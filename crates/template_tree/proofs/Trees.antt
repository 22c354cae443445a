-- Nodes lent, copied and built, and trees made of them.
-- `node_mut`: a node lent for writing
pub mod LentNodes
-- `node_mut`: a node of the tree after the loan
pub mod PutNodes
-- a node of a tree is a subtree
pub mod Subtrees
-- the path of a slot's node
pub mod SlotPaths
-- the slots of a tree that is built are drawn in listing order, and each but once
pub mod DrawnSlots
-- the number of procedures, and of what stands in a node
pub mod Counts
-- the new program is a tree
pub mod NewPrograms
-- a copy is a subtree, with as many slots
pub mod CopiedNodes
