pub mod Rows
pub mod Listings
pub mod Marks
pub mod Entries
pub mod Plans
