pub mod Bitmap
pub mod Laws
pub mod Lowest
