pub mod Layout
pub mod AnyOrder
pub mod Bench
