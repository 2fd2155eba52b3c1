pub mod Asks
pub mod Held
