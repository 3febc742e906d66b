pub mod Report
pub mod Laws
pub mod Runs
