pub mod Reply
pub mod Accepted
