-- how a run stands in a program that may have been edited under it
pub mod BenchRun
