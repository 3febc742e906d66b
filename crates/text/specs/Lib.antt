pub mod Decimal
pub mod Wrote
pub mod Laws
pub mod ReadBack
