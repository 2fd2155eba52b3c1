pub mod SlotTurn
pub mod Bounds
