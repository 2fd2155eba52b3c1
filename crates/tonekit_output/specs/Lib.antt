pub mod Check
pub mod Bench
