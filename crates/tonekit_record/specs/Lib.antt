pub mod Fields
pub mod Bench
