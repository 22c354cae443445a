-- the value of the limit of a line
mod Limits
-- bounds that each push, sum and cast asks for: how many lines nodes have, and how many nodes there are
pub mod Heights
-- `lines_inside`, `height` and `plan`: the heights that a node of a layout in memory keeps
pub mod Opened
-- `new` of Layout: a layout while it is made, item by item
pub mod MadeBones
-- `owned_lines_are_lines`, and `lines` of Layout::lines: the lines of nodes, and their number
pub mod LineNumbers
-- `line` of Layout::line: the line of a number, the plan of it, and the line before an item
pub mod FoundLines
pub mod PlanLines
pub mod Leads
-- `line` and `below` of Layout::line_of: where a stop stands among the stops, and on which line it is listed
pub mod StopLines
pub mod ListedLines
-- `layouts_ignore_room`, and each clause that speaks of a tree without the room of its lists
pub mod RoomlessLines
-- Layout::elided: a layout after a refinement was hidden or shown
pub mod TurnedBones
-- Layout::prepare: what becomes of the node at the path of an edit, in the tree and in its layout
pub mod RoomlessNodes
pub mod SlotNodes
pub mod KeptLeads
pub mod MendedBones
pub mod PreparedMends
-- `path_inside`: the path of a slot in a layout
pub mod FoundSlots
-- Layout::commit: what becomes of a node, in the list in which it stands
pub mod MendedLists
-- `lay`: the cells of a line while they are put
pub mod PutCells
