-- the value of the limit, which the definitions take from the code
mod Limits
-- the definitions at work, on small programs
mod Examples
-- `show_instr`: texts of instructions that are known in another way
pub mod ShownInstrs
-- each clause on what is laid: instructions laid in turn, into a draft or into a tally, lists of phrases, and arguments
-- that are passed by a dummy
pub mod Laying
pub mod LaidLists
pub mod DummyArguments
-- `suspension`: the parts of a node, one after the other
pub mod ReadParts
-- the pieces of a statement, and the cells of a procedure
pub mod LaidPieces
-- the law `lengths_are_told`: how long pieces and codes are
pub mod CodeLengths
-- the lengths that are counted ahead
pub mod CountedLengths
-- the code of nodes and of a program, laid step by step
pub mod LaidNodes
pub mod LaidSteps
pub mod LaidPrograms
-- the maps of code, and the orders of their keys
pub mod CodeMaps
pub mod KeyOrder
-- `generate`: the items of a procedure
pub mod ProcedureItems
-- the law `own_codes_add_up`
pub mod OwnCodes
-- the laws of jumps and places: code that works on values alone
pub mod CodeActions
-- the law `jumps_stay_inside`
pub mod StayingJumps
-- the laws of spans and places: the site of a slot
pub mod FoundSites
-- the law `spans_hold_code`
pub mod StoodCode
pub mod FoundNodes
pub mod HeldSpans
-- the law `places_have_addresses`: where steps end in a node's own code
pub mod EndedSteps
pub mod PlaceAddresses
-- the law `addresses_hold_steps`
pub mod BegunCode
pub mod StoodSteps
-- the law `statements_go_on`
pub mod InnerEnds
pub mod LandedEnds
-- the law `bodies_begin`
pub mod BegunBodies
-- the law `steps_have_addresses`
pub mod OnlySteps
-- the law `own_codes_stay_in_slots`
pub mod SlotSteps
-- the law `entries_are_headings`
pub mod HeadingEntries
-- `code_ignores_room_and_elision`: what room and elision leave of a program, and the code of that
pub mod Contents
pub mod AlikeCodes
-- `programs_have_one_code`
pub mod ProgramCodes
