pub mod OwnBytes
pub mod Tallies
pub mod Loading
pub mod Comes
