pub mod Query
pub mod Frames
pub mod Bench
