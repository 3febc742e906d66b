pub mod Placing
pub mod Lining
pub mod Adding
pub mod Going
pub mod Dequeues
pub mod Standing
pub mod Ordering
