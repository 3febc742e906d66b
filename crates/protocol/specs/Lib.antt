pub mod Words
pub mod Line
pub mod Printed
pub mod Laws
pub mod Runs
pub mod Samples
