pub mod Slots
pub mod Replies
pub mod Refusals
