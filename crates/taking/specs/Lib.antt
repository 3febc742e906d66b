pub mod Drains
pub mod Keeping
