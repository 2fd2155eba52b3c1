pub mod Records
pub mod Bench
