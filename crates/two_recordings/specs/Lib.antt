pub mod Report
pub mod EmptyLine
pub mod Laws
pub mod Runs
