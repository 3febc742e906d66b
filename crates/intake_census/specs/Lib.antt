pub mod Statement
pub mod Promises
