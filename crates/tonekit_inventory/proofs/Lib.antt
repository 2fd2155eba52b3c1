pub mod Floats
pub mod Slots
pub mod Few
pub mod Going
pub mod Tones
pub mod Search
pub mod Listed
pub mod Alike
