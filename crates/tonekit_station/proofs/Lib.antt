pub mod Ways
pub mod Enough
pub mod Depends
pub mod Together
pub mod Written
