pub mod Export
pub mod Delivery
