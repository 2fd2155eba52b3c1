pub mod VariantTurn
pub mod Parts
pub mod Pitch
pub mod Steps
pub mod Laws
pub mod Enough
