pub mod Same
pub mod Records
pub mod Turns
pub mod RowPlaces
pub mod Every
pub mod ByKind
pub mod Components
pub mod Gather
