pub mod Bound
pub mod InOrder
pub mod Parts
pub mod Walk
pub mod Limit
pub mod Curves
pub mod Carried
pub mod Held
