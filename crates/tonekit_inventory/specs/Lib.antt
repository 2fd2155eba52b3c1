pub mod Fields
pub mod Gathers
pub mod OfPack
