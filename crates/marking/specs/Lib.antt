pub mod Pass
pub mod Marks
