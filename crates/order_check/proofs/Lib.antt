pub mod Prefixes
pub mod Performing
pub mod Walking
pub mod Keeping
