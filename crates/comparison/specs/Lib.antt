pub mod Compared
pub mod Reply
pub mod Parts
pub mod Beginning
pub mod Decides
