pub mod Onward
pub mod Places
