pub mod Admitting
pub mod Sharing
pub mod Replying
