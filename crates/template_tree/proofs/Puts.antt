-- Nodes that come into the place of others.
-- a tree stays one where a node comes into a slot
pub mod PutTrees
-- a node that came in place of another is an edit, which its receipt undoes
pub mod PutEdits
-- which limit a node that comes would break, and that a hole may come where a node is taken out
pub mod PutLimits
-- which limit a node that comes would break, and that a hole may come where a node is taken out
pub mod Holes
-- why an edit is refused at a node
pub mod Refusals
-- a fresh node has empty parts, and a hole in each section
pub mod FreshNodes
-- an assignment may come in place of a hole or an assignment
pub mod Assignments
