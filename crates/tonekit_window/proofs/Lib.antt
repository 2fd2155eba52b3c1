pub mod Within
pub mod Walk
mod Count
