-- the laws of kept code: what it tells is code made afresh, and room plays no part
pub mod ToldCode
-- and nor do what is kept of a program and bills depend on room, and elision plays no part in what is kept
pub mod RoomlessBills
pub mod TurnedCode
-- what a kept node in memory has, for each reader of it
pub mod Opened
-- the instructions of a kept node, found by their numbers: `fetch`
pub mod FoundInstrs
-- kept nodes located by their slots, one after the other: `address` and `span`
pub mod LocatedNodes
pub mod LocatedEntries
pub mod FurtherNodes
-- a kept node found where it is noted to stand is the one that is located: `address` and `span`
pub mod AdvisedNodes
-- the span, the address and the entry that kept code tells are those of the nodes located: `span`, `address`, `entry`
pub mod KeptSpans
pub mod KeptAddresses
pub mod KeptEntries
-- the steps of a block, one by one: `number_of`
pub mod StepNumbers
-- the map of the items' names
pub mod NameMaps
-- the limits by their values
pub mod Limits
-- `CodeNode::of` and `CodeTree::new`: kept code made anew, and what is counted
pub mod MadeCode
pub mod CountedCode
-- the root of a code tree
pub mod CodeRoots
-- what is kept of a tree is sound: the invariant of `CodeTree`
pub mod SoundCode
-- steps of a prepared edit made one after the other: `commit`
pub mod GivenWay
pub mod ActedNodes
pub mod ActedSteps
pub mod MadeSteps
-- nodes near what is kept after an edit: `prepare`
pub mod NearNodes
pub mod NearRooms
pub mod NearPaths
pub mod ExchangedNodes
pub mod KeptItems
pub mod PreparedLists
pub mod NodeEdits
pub mod EditedChildren
pub mod RemadeCode
-- what an edit leaves of marks, effective items and kept code elsewhere: `prepare`
pub mod QuietEdits
pub mod FoundVerdicts
pub mod MarksStay
pub mod SlotNodes
pub mod ItemsStay
pub mod StayedNodes
pub mod RoomlessTrees
pub mod EditedPrograms
pub mod NearEdits
pub mod KeptPlaces
pub mod EditPaths
pub mod QuietNodes
-- what the preparation of an edit costs, and that the bill covers it: `prepare`
pub mod TouchedSlots
pub mod CostSteps
pub mod Sites
pub mod BilledNodes
pub mod BilledPaths
pub mod BilledEdits
-- how an edit is prepared fits it, all together: `prepare`
pub mod PreparedEdits
pub mod ChangedDeclarations
pub mod RoomlessCode
pub mod SoughtSlots
pub mod SoughtWays
pub mod ReservedNodes
