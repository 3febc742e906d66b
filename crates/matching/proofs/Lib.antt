pub mod Linking
pub mod Meeting
pub mod Ordering
