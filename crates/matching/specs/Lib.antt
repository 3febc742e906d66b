pub mod Rows
pub mod RowLaws
pub mod Match
pub mod Walk
pub mod Spelled
pub mod Places
pub mod Decides
pub mod Events
