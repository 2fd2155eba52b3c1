pub mod Digits
pub mod Text
pub mod Read
pub mod Decimal
pub mod Bench
