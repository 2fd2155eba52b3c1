mod Sized
mod Holes
mod Chao
mod Mean
mod Weights
pub mod Measured
