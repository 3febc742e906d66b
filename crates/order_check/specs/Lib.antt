pub mod Check
pub mod Tests
pub mod Walk
pub mod Decides
pub mod Runs
