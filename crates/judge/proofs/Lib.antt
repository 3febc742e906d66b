pub mod Filling
pub mod Staying
pub mod Looking
pub mod Answering
