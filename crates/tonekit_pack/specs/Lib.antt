pub mod Kinds
pub mod Held
pub mod Format
pub mod Going
