-- `start_of`, `copied_template`: the site of a slot
pub mod FoundSites
-- `begin_slot`
pub mod BegunNodes
-- `kept_of`: what fits is found
pub mod FittingFrames
-- `fitting_runs_are_kept`
pub mod KeptFrames
-- the copies
pub mod CopiedLists
-- `copied_parts`
pub mod PartCounts
-- `start_of`, `copied_template`
pub mod NodeSites
-- `resolve_frames`
pub mod ResolvedFrames
-- `procedure_node`
pub mod ProcedureNodes
