pub mod Budget
pub mod Bits
pub mod Drawn
pub mod Parts
pub mod Held
pub mod Lists
pub mod OfPack
pub mod Size
