pub mod Passing
pub mod Zeros
