mod Turns
mod Cells
pub mod Ten
mod Terms
mod Agree
pub mod Bounds
pub mod Winner
