-- Stops in listing order.
-- `moved`, `stops_are_listed`: the stops divided at one of them
pub mod DividedStops
-- `stops_are_listed`
pub mod ListedStops
-- `moved`: where a move goes, as a relation
pub mod MoveRelation
-- `moved`: where a move begins, and what stands beside it
pub mod StopMoves
-- `moved` of `right` and `down`, over lists
pub mod NextStops
-- `moved` of `left` and `up`, over lists
pub mod PreviousStops
-- `moved` and `stop` of these four, as the code finds its answers
pub mod AnsweredStops
-- `first`, `last` and `stop` of `top` and `bottom`
pub mod EndStops
-- `moved`, `first` and `last`: the functions that the relations determine, over nodes without room
pub mod ChosenStops
-- the two laws below: what holds of stops since it holds of their nodes
pub mod ApartStops
-- `stops_are_distinct`
pub mod DistinctStops
-- `stops_rise`
pub mod RisingStops
