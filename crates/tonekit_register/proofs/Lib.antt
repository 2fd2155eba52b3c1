mod Literals
pub mod Places
pub mod KeyLists
pub mod Ends
pub mod Laws
