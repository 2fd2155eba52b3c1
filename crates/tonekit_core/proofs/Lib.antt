pub mod Split
pub mod LoopLaws
pub mod Issues
pub mod Calls
pub mod Lists
