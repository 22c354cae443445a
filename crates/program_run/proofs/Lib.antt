-- the limits: their values
pub mod Limits
-- `given` and `bad` of read_by: the words as clap reads them
pub mod ClapWords
-- words of the command and what they give, written out
pub mod WordRows
-- `write_whole`: bytes of which a sink took a front
pub mod TakenFronts
-- `first_state`, `make_step`, `make_steps`: runs of a tree by its code
pub mod SteppedRuns
-- `make_steps`, `run_code`, `run_by`: what is fetched for a run
pub mod FetchedRuns
-- `cut_line`: the line that is cut out of a listing
pub mod CutLines
-- `line_search`: lines that are counted, and the place that is sought, node by node
pub mod SoughtLines
