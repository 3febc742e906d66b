pub mod Statement
pub mod Hands
pub mod Phases
pub mod EveryCall
