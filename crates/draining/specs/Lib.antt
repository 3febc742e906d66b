pub mod Elsewhere
pub mod Room
pub mod Onward
