-- Nodes and their paths in listing order.
-- `moved`: a visible node in the list of all, and the one behind it
pub mod NextNodes
-- `moved`, `stops_are_listed`: what is listed as a visible node is one
pub mod VisibleNodes
-- `moved` of `down` and `up`, `stops_rise`: the lines of visible nodes rise
pub mod RisingLines
-- `stops_are_distinct`: no node is listed twice
pub mod DistinctNodes
-- `ensures` of `node_behind`: paths that are one step longer
pub mod PathSteps
-- `ensures` of `next_node`
pub mod NextPaths
-- `ensures` of `push_last_below`
pub mod LastItems
-- `next` of `previous_node`, and the last node of all
pub mod PreviousNodes
