pub mod Book
pub mod Groups
pub mod Bench
