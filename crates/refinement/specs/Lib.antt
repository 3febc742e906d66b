pub mod RecordNumbers
pub mod Effects
pub mod Beyond
pub mod Calls
pub mod Theorem
pub mod Promises
