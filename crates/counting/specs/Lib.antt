pub mod Answer
pub mod FullCount
