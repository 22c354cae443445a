-- `first_state`, `try_step`: runs by the code of a tree
pub mod CodeRuns
-- runs with a history
pub mod NotedRuns
-- runs whose tree is edited
pub mod EditedRuns
-- `begun`, `is_stepped`, `is_taken_back`, `make_under`, `elide_under`, `resume_run`: how a run goes on to stand
pub mod SuspendedRuns
