pub mod Build
pub mod Table
pub mod Refusal
pub mod Steps
pub mod Admitted
