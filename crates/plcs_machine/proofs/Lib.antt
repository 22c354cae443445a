-- the definitions at work, row by row; no clause needs them
mod Examples
-- `start`: how counts of fetches add up
pub mod CountedFetches
-- `start`: the cells of main that are made so far, and what is left of the code
pub mod BegunRuns
-- the law `code_begins_as_tree`: variables that can be made, and main's
pub mod FreshVariables
pub mod TreeBegun
-- the law `code_steps_as_tree`: code that stands somewhere
pub mod StandingCode
-- what is run there: expressions, arguments, the way to the next place, what stands at a place, calls, and the ends of
-- procedures
pub mod RunExpressions
pub mod RunArguments
pub mod RunLandings
pub mod RunSpots
pub mod CalledFrames
pub mod RunCalls
pub mod RunLeaves
-- what stands at the places of a site of a program
pub mod Suspensions
pub mod FoundSites
pub mod ReachedCells
pub mod SiteCode
pub mod SiteRuns
pub mod SignedProcedures
-- at every place of a tree
pub mod TreeSteps
-- `step`: where a step ends, one instruction after the other
pub mod SettledCode
-- `step`: the cell on which an instruction works
pub mod DefinedReach
-- `step`: what neither input nor output plays a part in
pub mod UnwrittenLeads
-- `step`: what an instruction leads to can be done
pub mod DoableLeads
-- `step`: what is left of a step at an address
pub mod AnsweredLeads
-- `step`: where a step ends that makes a frame
pub mod MadeFrames
-- `step`: the records of acts
pub mod NotedActs
-- `step`: how a step ends
pub mod EndedSteps
-- `step`: what is done behind a walk is the whole step
pub mod DoneSteps
-- `step`: a step that writes
pub mod WrittenSteps
-- `step`: a step that calls
pub mod CalledSteps
-- `quotient`, `infix_numbers` and `iterate`: whole numbers, computed with
pub mod WholeNumbers
-- `text_order`: the order from a byte on
pub mod TextOrders
-- `found_in`: where a text is found from a byte on
pub mod FoundTexts
-- `text_part`: the part that the numbers say
pub mod TextParts
