pub mod Bytes
pub mod Together
pub mod Answers
