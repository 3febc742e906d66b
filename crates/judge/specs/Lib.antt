pub mod Contract
pub mod Runs
pub mod Admitted
pub mod Decides
pub mod Working
