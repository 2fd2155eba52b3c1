mod OnePass
mod Gap
mod Ranges
mod Turns
pub mod Laws
