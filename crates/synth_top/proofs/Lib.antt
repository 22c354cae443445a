-- the limits: their values
pub mod Limits
-- `given` and `bad` of read_by: uses of arguments, the looks of words, words as clap walks along them, and the
-- command's own
pub mod ClapUses
pub mod ClapLooks
pub mod ClapWalk
pub mod ClapWords
-- words of the command and what they give, written out
pub mod WordRows
-- `keys` of KeyReader::feed: a byte before others
pub mod KeyLists
-- `runs` of Editor::run and `presses` of Editor::press: what is counted for some shots and then for others
pub mod CountsInTurn
-- `made` of Editor::make_steps: ticks one after the other
pub mod TicksInOrder
-- `presses` of Editor::press and press_keys: turns of a state of which less is claimed, turns along a list of keys, one
-- key, and keys after others
pub mod ClaimedFiles
pub mod TurnsInOrder
pub mod OneKey
pub mod KeysInOrder
-- `runs` of Editor::run: what a run has done, and the run byte by byte
pub mod Courses
pub mod EditorRuns
-- `made` of the maker's calls: the text that makes a program, keys that are pressed for it, and what is counted
pub mod MadeTexts
pub mod MadeKeys
-- `made` and `cause` of make, `source` and `read` of synth: what a making says of the sink and the source
pub mod Makings
-- `ended` of synth: the task that words ask for
pub mod Tasks
-- of lines_of: the line ends of a listing that are counted
pub mod CountedLines
-- `loads` of load_program: a program that was loaded, without its room
pub mod FirstLoads
-- `wanted` of load_first and `ended` of edit: the loads, the run and what is saved after it
pub mod Whole
