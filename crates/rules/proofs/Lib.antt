pub mod Runs
pub mod FoldRuns
pub mod Witnesses
pub mod Lengths
pub mod DrainRuns
pub mod Refusal
