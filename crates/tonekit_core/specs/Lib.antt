pub mod Loop
pub mod Words
pub mod Layout
pub mod Calls
pub mod Bench
