pub mod Answers
pub mod InOrder
pub mod Entered
pub mod Recorded
pub mod Theorem
