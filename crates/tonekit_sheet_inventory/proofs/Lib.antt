pub mod Few
pub mod Rows
pub mod Lookup
pub mod Slots
pub mod Tones
pub mod Search
pub mod Alike
