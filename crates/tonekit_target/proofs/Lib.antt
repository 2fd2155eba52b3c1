pub mod OrNone
pub mod Places
