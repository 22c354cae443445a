-- the value of each limit
pub mod Limits
-- `one_listing` and `read_listing`: what comes into a list is what its sections ask for
pub mod Fillings
-- `one_listing`, and each refusal of `read_listing`: the lines of a program lead the reader to it
pub mod Arrivals
-- `one_listing` and `read_listing`: a line's text tells what it says
pub mod Heads
-- `one_listing` and `read_listing`: a text is made of one list of lines alone
pub mod Texts
-- `one_listing`: the definitions' lines are those that are read
pub mod ListedLines
-- each answer of `read_listing`: what the reader has taken is the front of a listing
pub mod Continuations
-- `line_taken`: the last of the open nodes is the innermost
pub mod OpenNodes
-- `read_segments` and `read_line`: what is read of a line is all that it may say
pub mod PartTexts
pub mod LineTexts
-- `read_listing`: what is read, line after line, and the tree that comes of it
pub mod ReadListings
pub mod RefusedLines
pub mod LoadedTrees
-- `divided`, `line_starts` and `split_line`: where the first line of a text ends, and where the others start
pub mod LineEnds
pub mod LineStarts
-- `read_text_line`: what no line of a listing has
pub mod PrintedLines
-- `only` of `read_listing`: the listing of a program within the limits isn't too long
pub mod ListingLengths
-- `only` of `read_listing`
pub mod OneOutcome
-- `refused` of `read_listing`, and `one_outcome`
pub mod Outcomes
-- `only`, `refused` and `missing` of `load`
pub mod LoadedFiles
-- `loading_ignores_room`: a listing as that of a tree without its room
pub mod RoomlessListings
-- `save`: bytes that are passed on to files, one after the other
pub mod Sending
-- `Waiting`: bytes that wait at the front of others
pub mod WaitingBytes
