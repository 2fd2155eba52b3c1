mod Turns
mod Fill
mod Gap
mod Smooth
pub mod Found
mod Built
mod Parts
pub mod Outcomes
