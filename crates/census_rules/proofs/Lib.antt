pub mod Upkeep
pub mod Theorem
