pub mod Ranges
pub mod Pack
pub mod Bench
pub mod KindsBench
