pub mod Places
pub mod Plain
mod Turns
pub mod Lists
