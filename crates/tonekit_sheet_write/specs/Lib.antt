pub mod Pieces
pub mod Drafts
