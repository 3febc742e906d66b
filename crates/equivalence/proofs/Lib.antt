pub mod Partner
pub mod Decides
