mod Literals
mod Pairs
mod Turns
mod Powers
pub mod Semitone
