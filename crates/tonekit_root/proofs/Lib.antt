mod Squares
mod Nearest
mod Spacing
mod Exact
mod Cases
mod Rooted
pub mod Laws
