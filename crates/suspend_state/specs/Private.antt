-- where frames stand
pub mod FoundFrames
-- nodes as sites
pub mod NodeSite
